use Rattle.terminal_render.proofs.SpelledPenLemmas.{pens_are_rendered}
use Rattle.terminal_render.proofs.encoding_laws.spelled_pens_are_rendered.Goals as goal

pub returns : goal.returns
returns c = pens_are_rendered
