use Rattle.std.proofs.Common.{◌≡◌, take}
use Rattle.screen_change.specs.Written.{with_cells}
use Rattle.cell_views.specs.CellRefView.{cells_left}
use Rattle.cell_edits.specs.VisibleCells.{contents}
use Rattle.screen_repaint.specs.Repaint.{row_cells}
use Rattle.screen_repaint.proofs.rows.write_cells.Given as goal

-- the cells written so far, and then the first `left` of the remaining cells, are the first `count` cells of the row
abbrev pub invariant-loop-written : goal.invariant-loop-written
invariant-loop-written l = with_cells l.writer (take l.left (contents (cells_left l.cells))) ≡ with_cells l.initial.writer (take l.count (row_cells l.line.columns))

abbrev pub decreases-loop-written : goal.decreases-loop-written
decreases-loop-written l = l.left
