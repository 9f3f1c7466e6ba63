use Rattle.std.proofs.Common.{◌≡◌}
use Rattle.std.specs.Prelude.{filter}
use Rattle.screen_change.specs.Written.{with_cells}
use Rattle.cell_views.specs.CellRefView.{cells_left}
use Rattle.cell_views.specs.OpenZones.{is_kept_by}
use Rattle.cell_edits.specs.VisibleCells.{visible_cells, contents}
use Rattle.cell_views.specs.StoredCells.{stored_row}
use Rattle.cell_line.proofs.changes.write_cells.Given as goal

-- writing the remaining cells gives the writer with all cells written
abbrev pub invariant-loop-cell : goal.invariant-loop-cell
invariant-loop-cell l = with_cells l.writer (contents (filter (λ v. is_kept_by l.last v.column) (cells_left l.cell-iterator))) ≡ with_cells l.initial.writer (contents (filter (λ v. is_kept_by l.last v.column) (visible_cells (stored_row l.cells))))
