use Rattle.std.proofs.Common.{◌≡◌, Some}
use Rattle.std.specs.Prelude.{fold, if◌then◌else◌}
use Rattle.cell_base.specs.CellContent.{row_of_cells}
use Rattle.cell_views.specs.CellRefView.{cells_left}
use Rattle.cell_edits.specs.VisibleCells.{visible_cells, is_space}
use Rattle.cell_line.specs.OpenRows.{last_text}
use Rattle.cell_line.proofs.wrap.last_text.Given as goal

-- the answer so far, updated by the remaining cells, is the answer for all cells
abbrev pub invariant-loop-cell : goal.invariant-loop-cell
invariant-loop-cell l = fold (λ last v. if is_space v then last else Some v.column) l.last (cells_left l.cell-iterator) ≡ last_text (visible_cells (row_of_cells l.cells))
