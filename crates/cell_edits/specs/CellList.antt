-- Cells in a vector, as they are read from the left.
use Rattle.std.specs.Prelude.{ℕ, suc, Bool, false, nat_le, List, [], ◌∷◌, map, slice_index_or, if◌then◌else◌}
use Rattle.std.specs.List.{flat_map}
use Rattle.cell_base.specs.Attributes.{Attributes, plain}
use Rattle.cell_base.specs.CellContent.{CellContent, blank_cell, cell_of}
use Rattle.cell_base.specs.Cluster.{clusters}
use Rattle.cell_base.specs.Row.{Row, columns_of}

-- the columns of a cell: two where it is wide
abbrev pub cell_columns : CellContent → Row
cell_columns cell = columns_of cell.text (nat_le 2 cell.width) cell.attributes

-- a cell for each cluster of a text
abbrev pub text_cells : (List ℕ → ℕ) → List ℕ → Attributes → List CellContent
text_cells width_of text attributes = map (λ cluster. cell_of cluster (width_of cluster) attributes) (clusters text)

-- their columns, side by side
abbrev pub text_row : (List ℕ → ℕ) → List ℕ → Attributes → Row
text_row width_of text attributes = flat_map cell_columns (text_cells width_of text attributes)

-- the last cell that is read is a wide one, with no cell after it
abbrev pub ends_split : List CellContent → Bool
ends_split [] = false
ends_split (cell ∷ []) = nat_le 2 cell.width
ends_split (cell ∷ next ∷ cells) = if nat_le 2 cell.width then ends_split cells else ends_split (next ∷ cells)

-- the index of the last cell that is read
abbrev pub last_read : List CellContent → ℕ
last_read [] = 0
last_read (cell ∷ []) = 0
last_read (cell ∷ next ∷ []) = if nat_le 2 cell.width then 0 else 1
last_read (cell ∷ next ∷ more ∷ cells) =
    if nat_le 2 cell.width then suc (suc (last_read (more ∷ cells))) else suc (last_read (next ∷ more ∷ cells))

-- a blank with the attributes of the cell at a position
abbrev pub blank_for : List CellContent → ℕ → CellContent
blank_for cells at = blank_cell (slice_index_or cells at (blank_cell plain)).attributes
