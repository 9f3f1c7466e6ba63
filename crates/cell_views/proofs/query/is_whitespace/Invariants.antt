use Rattle.std.proofs.Common.{◌≡◌}
use Rattle.std.specs.List.{list_all}
use Rattle.cell_views.specs.StoredCells.{stored_row}
use Rattle.cell_views.specs.CellRefView.{cells_left}
use Rattle.cell_edits.specs.VisibleCells.{is_space, is_whitespace_row}
use Rattle.cell_views.proofs.query.is_whitespace.Given as goal

-- the remaining cells are all white space exactly where all cells are
abbrev pub invariant-loop-cell : goal.invariant-loop-cell
invariant-loop-cell l = list_all is_space (cells_left l.cell-iterator) ≡ is_whitespace_row (stored_row l.cells)
