use Rattle.terminal_render.proofs.StreamLemmas.{history_spelled}
use Rattle.terminal_render.proofs.encoding_laws.histories_stay_spelled.Goals as goal

pub returns : goal.returns
returns c = history_spelled c.one_cut.ensures.cut
