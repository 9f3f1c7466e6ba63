use Rattle.std.proofs.Common.{◌≡◌}
use Rattle.std.specs.Prelude.{fold}
use Rattle.screen_change.specs.CellRuns.{background_at_end}
use Rattle.cell_views.specs.CellRefView.{cells_left}
use Rattle.cell_line.specs.OpenChanges.{background_of}
use Rattle.cell_edits.specs.VisibleCells.{visible_cells, contents}
use Rattle.cell_views.specs.StoredCells.{stored_row}
use Rattle.cell_line.proofs.changes.background_at_end.Given as goal

-- the answer so far, updated by the remaining cells, is the answer for all cells
abbrev pub invariant-loop-cell : goal.invariant-loop-cell
invariant-loop-cell l = fold (λ _ cell. background_of cell) l.found (contents (cells_left l.cell-iterator)) ≡ background_at_end (contents (visible_cells (stored_row l.cells)))
