use Rattle.std.proofs.Common.{◌≡◌}
use Rattle.std.specs.Prelude.{is_some}
use Rattle.std.specs.List.{list_any}
use Rattle.cell_views.specs.StoredCells.{stored_row}
use Rattle.cell_views.specs.CellRefView.{cells_left}
use Rattle.cell_edits.specs.VisibleCells.{has_link}
use Rattle.cell_views.proofs.query.has_link.Given as goal

-- the remaining cells hold a link exactly where the row does
abbrev pub invariant-loop-cell : goal.invariant-loop-cell
invariant-loop-cell l = list_any (λ v. is_some v.cell.attributes.hyperlink) (cells_left l.cell-iterator) ≡ has_link (stored_row l.cells)
