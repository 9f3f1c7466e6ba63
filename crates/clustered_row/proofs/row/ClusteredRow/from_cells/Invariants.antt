use Rattle.std.proofs.Common.{◌-◌, length}
use Rattle.clustered_row.proofs.CellRows.{LeadsTo}
use Rattle.clustered_row.proofs.row.ClusteredRow.from_cells.Given as goal

-- the cells before were put
abbrev pub invariant-loop-at : goal.invariant-loop-at
invariant-loop-at l = LeadsTo l.cells l.row l.at

abbrev pub decreases-loop-at : goal.decreases-loop-at
decreases-loop-at l = length l.cells - l.at
