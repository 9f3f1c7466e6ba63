-- The cells of rows, one for each column.
use Rattle.std.proofs.Common.{◌≡◌, ℕ, ◌+◌, List, [], ◌∷◌, refl, sym, ap, ◌∙◌}
use Rattle.std.specs.List.{flat_map}
use Rattle.cell_base.specs.CellContent.{CellContent, blank_cell}
use Rattle.cell_base.specs.Row.{Row, Narrow, LeftHalf, RightHalf}
use Rattle.cell_edits.specs.VisibleCells.{VisibleCell, visible_from, visible_cells, row_of_visible}
use Rattle.cell_surface.specs.Cells.{column_cell, column_cells, cells_of}

by_columns : (at : ℕ) (row : Row) → flat_map (λ (v : VisibleCell). cells_of v.cell) (visible_from at row) ≡ column_cells (row_of_visible (visible_from at row))
by_columns at [] = refl
by_columns at (Narrow text attributes ∷ row) = ap (λ (cs : List CellContent). column_cell (Narrow text attributes) ∷ cs) (by_columns (at + 1) row)
by_columns at (LeftHalf text attributes ∷ row) = ap (λ (cs : List CellContent). column_cell (LeftHalf text attributes) ∷ blank_cell attributes ∷ cs) (by_columns (at + 1) row)
by_columns at (RightHalf attributes ∷ row) = by_columns (at + 1) row

pub cells_by_column : (cells : List VisibleCell) (row : Row) → cells ≡ visible_cells row → row_of_visible cells ≡ row → flat_map (λ (v : VisibleCell). cells_of v.cell) cells ≡ column_cells row
cells_by_column cells row e w = ap (flat_map (λ (v : VisibleCell). cells_of v.cell)) e ∙ by_columns 0 row ∙ ap (λ (cs : List VisibleCell). column_cells (row_of_visible cs)) (sym e) ∙ ap column_cells w
