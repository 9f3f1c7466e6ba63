use Rattle.std.proofs.Common.{◌≡◌, Some}
use Rattle.std.specs.Prelude.{fold, if◌then◌else◌}
use Rattle.cell_base.specs.Attributes.{plain}
use Rattle.cell_base.specs.CellContent.{blank_cell}
use Rattle.cell_base.specs.SameCell.{same_cell}
use Rattle.cell_views.specs.CellRefView.{cells_left}
use Rattle.cell_edits.specs.VisibleCells.{visible_cells}
use Rattle.cell_views.specs.OpenZones.{last_kept}
use Rattle.cell_views.specs.StoredCells.{stored_row}
use Rattle.cell_views.proofs.zones.last_kept.Given as goal

-- the answer so far, updated by the remaining cells, is the answer for the row
abbrev pub invariant-loop-cell : goal.invariant-loop-cell
invariant-loop-cell l =
    fold (λ last v. if same_cell v.cell (blank_cell plain) then last else Some v.column) l.last (cells_left l.cell-iterator) ≡ last_kept (visible_cells (stored_row l.cells))
