use Rattle.std.proofs.Common.{◌≡◌, []}
use Rattle.std.specs.Prelude.{fold, filter}
use Rattle.cell_views.specs.StoredCells.{stored_row}
use Rattle.cell_views.specs.CellRefView.{cells_left}
use Rattle.cell_edits.specs.VisibleCells.{visible_cells}
use Rattle.cell_views.specs.OpenZones.{joined_zone, is_kept_by}
use Rattle.cell_views.proofs.zones.zones.Given as goal

-- the zones so far, with the remaining cells joined to them, are the zones of the row
abbrev pub invariant-loop-cell : goal.invariant-loop-cell
invariant-loop-cell l = fold joined_zone l.zones.items (filter (λ v. is_kept_by l.last v.column) (cells_left l.cell-iterator)) ≡ fold joined_zone [] (filter (λ v. is_kept_by l.last v.column) (visible_cells (stored_row l.cells)))
