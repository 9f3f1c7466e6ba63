use Rattle.std.proofs.Common.{◌≡◌, ◌++◌}
use Rattle.cell_edits.specs.ShownCells.{lent_cells}
use Rattle.cell_edits.specs.VisibleCells.{row_of_visible}
use Rattle.clustered_row.specs.VisibleCells.{cells_left}
use Rattle.clustered_row.proofs.row.ClusteredRow.to_cells.Given as goal

-- the cells so far, and then those that are left, are all
abbrev pub invariant-loop-cell : goal.invariant-loop-cell
invariant-loop-cell l = l.cells.items ++ lent_cells (row_of_visible (cells_left l.cell-iterator)) ≡ lent_cells l.self
