use Rattle.std.specs.Bool.{one_answer}
use Rattle.cell_base.specs.SameCell.{same_cell_decides}
use Rattle.cell_base.proofs.cell.CellPartialEq.eq.Goals as goal

pub returns-clause-same : goal.returns-clause-same
returns-clause-same c = one_answer _ _ c.is_same.ensures (same_cell_decides c.args.self.now c.args.other.now)
