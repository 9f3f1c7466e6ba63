use Rattle.cell_edits.proofs.RowLaws.{set_within, overlaid_next, overlaid_within, length-overlaid, filled_within}
use Rattle.cell_line.proofs.laws.cells_set_within.Goals as goal

pub returns-clause-one : goal.returns-clause-one
returns-clause-one c = set_within

pub returns-clause-next : goal.returns-clause-next
returns-clause-next c = overlaid_next

pub returns-clause-side_by_side : goal.returns-clause-side_by_side
returns-clause-side_by_side c = overlaid_within

pub returns-clause-len : goal.returns-clause-len
returns-clause-len c = length-overlaid

pub returns-clause-same : goal.returns-clause-same
returns-clause-same c = filled_within
