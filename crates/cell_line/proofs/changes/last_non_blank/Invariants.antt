use Rattle.std.proofs.Common.{◌≡◌, Some}
use Rattle.std.specs.Prelude.{fold, if◌then◌else◌}
use Rattle.screen_change.specs.CellRuns.{is_blank_of}
use Rattle.cell_views.specs.CellRefView.{cells_left}
use Rattle.cell_line.specs.OpenChanges.{last_non_blank}
use Rattle.cell_edits.specs.VisibleCells.{visible_cells}
use Rattle.cell_views.specs.StoredCells.{stored_row}
use Rattle.cell_line.proofs.changes.last_non_blank.Given as goal

-- the answer so far, updated by the remaining cells, is the answer for all cells
abbrev pub invariant-loop-cell : goal.invariant-loop-cell
invariant-loop-cell l = fold (λ last v. if is_blank_of l.color v.cell then last else Some v.column) l.last (cells_left l.cell-iterator) ≡ last_non_blank l.color (visible_cells (stored_row l.cells))
