use Rattle.std.proofs.Common.{◌≡◌, ◌+◌, ◌≤◌, fold, length}
use Rattle.cell_views.specs.CellRefView.{cells_left}
use Rattle.cell_edits.specs.VisibleCells.{contents}
use Rattle.screen_repaint.specs.Ends.{end_of, with_cell}
use Rattle.screen_repaint.specs.Repaint.{row_cells}
use Rattle.screen_repaint.proofs.ends.row_end.Given as goal

-- the end so far, with the remaining cells, is the end of the row; and there are no more cells than columns
abbrev pub invariant-loop-cells : goal.invariant-loop-cells
invariant-loop-cells l =
    (fold with_cell l.end (contents (cells_left l.cells)) ≡ end_of (row_cells l.line.columns)) ×
    (l.end.cells + length (cells_left l.cells) ≤ l.len)

abbrev pub decreases-loop-cells : goal.decreases-loop-cells
decreases-loop-cells l = length (cells_left l.cells)
