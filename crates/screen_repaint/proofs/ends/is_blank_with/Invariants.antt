use Rattle.std.proofs.Common.{◌≡◌, length}
use Rattle.cell_views.specs.CellRefView.{cells_left}
use Rattle.cell_edits.specs.VisibleCells.{contents}
use Rattle.screen_repaint.specs.Ends.{are_blanks_with}
use Rattle.screen_repaint.specs.Repaint.{row_cells}
use Rattle.screen_repaint.proofs.ends.is_blank_with.Given as goal

-- the remaining cells are all blanks exactly if all cells of the line are
abbrev pub invariant-loop-are_spaces : goal.invariant-loop-are_spaces
invariant-loop-are_spaces l = are_blanks_with l.attrs (contents (cells_left l.cells)) ≡ are_blanks_with l.attrs (row_cells l.line.columns)

abbrev pub decreases-loop-are_spaces : goal.decreases-loop-are_spaces
decreases-loop-are_spaces l = length (cells_left l.cells)
