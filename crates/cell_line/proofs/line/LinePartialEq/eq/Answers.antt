use Rattle.std.specs.Bool.{one_answer}
use Rattle.cell_line.specs.SameLine.{same_line_decides}
use Rattle.cell_line.proofs.line.LinePartialEq.eq.Goals as goal

pub returns-clause-same : goal.returns-clause-same
returns-clause-same c = one_answer _ _ c.is_same.ensures (same_line_decides c.args.self.now c.args.other.now)
