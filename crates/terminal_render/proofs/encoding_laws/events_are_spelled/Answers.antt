use Rattle.terminal_render.proofs.StreamLemmas.{events_spelled}
use Rattle.terminal_render.proofs.encoding_laws.events_are_spelled.Goals as goal

pub returns : goal.returns
returns c = events_spelled c.one_cut.ensures.cut
