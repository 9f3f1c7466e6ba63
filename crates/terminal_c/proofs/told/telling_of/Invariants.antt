use Rattle.std.proofs.Common.{◌≡◌, fold, length}
use Rattle.cell_edits.specs.VisibleCells.{visible_cells}
use Rattle.cell_views.specs.CellRefView.{cells_left}
use Rattle.screen_difference.specs.ShownCells.{side_by_side, HaveRoom}
use Rattle.terminal_c.specs.Told.{told, with_cell}
use Rattle.terminal_c.proofs.told.telling_of.Given as goal

-- what is told so far, and then of the cells that are left, is what is told of the line; and those have room
abbrev pub invariant-loop-telling : goal.invariant-loop-telling
invariant-loop-telling l = record {
  room : HaveRoom l.column (cells_left l.cells);
  told : fold with_cell l.telling (side_by_side l.column (cells_left l.cells)) ≡ told (visible_cells l.line.columns);
}

abbrev pub decreases-loop-telling : goal.decreases-loop-telling
decreases-loop-telling l = length (cells_left l.cells)
