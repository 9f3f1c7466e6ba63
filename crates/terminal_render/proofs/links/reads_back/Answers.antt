use Rattle.terminal_render.proofs.LinkLemmas.{answers_read_back}
use Rattle.terminal_render.proofs.links.reads_back.Goals as goal

pub returns : goal.returns
returns c = answers_read_back c.reads_back.result c.args.link.now c.reads_back.ensures
