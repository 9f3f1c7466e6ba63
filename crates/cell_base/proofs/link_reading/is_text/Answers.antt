use Rattle.std.proofs.Common.{◌∙◌}
use Rattle.cell_base.proofs.ReadingSteps.{utf8_answer}
use Rattle.cell_base.proofs.link_reading.is_text.Goals as goal

pub returns : goal.returns
returns c = c.is_ok.ensures.value ∙ utf8_answer _ _ _ _ c.from_utf8.ensures.cases
