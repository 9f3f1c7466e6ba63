use Rattle.std.proofs.Common.{arith}
use Rattle.cell_base.proofs.ReadingSteps.{contains_answer}
use Rattle.cell_base.proofs.link_reading.has_semicolon.Goals as goal

pub returns : goal.returns
returns c = contains_answer 59 _ _ c.contains.ensures.cases (omega arith)
