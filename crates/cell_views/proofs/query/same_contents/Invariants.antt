use Rattle.std.proofs.Common.{◌≡◌}
use Rattle.cell_views.specs.StoredCells.{stored_row}
use Rattle.cell_views.specs.CellRefView.{cells_left}
use Rattle.cell_edits.specs.VisibleCells.{visible_cells, contents}
use Rattle.cell_views.proofs.query.same_contents.Given as goal

-- the remaining cells of both rows have the same contents exactly where all cells do
abbrev pub invariant-loop-cell : goal.invariant-loop-cell
invariant-loop-cell l = record {
  back : contents (cells_left l.cell-iterator) ≡ contents (cells_left l.theirs) → contents (visible_cells (stored_row l.cells)) ≡ contents (visible_cells (stored_row l.other));
  on : contents (visible_cells (stored_row l.cells)) ≡ contents (visible_cells (stored_row l.other)) → contents (cells_left l.cell-iterator) ≡ contents (cells_left l.theirs);
}
