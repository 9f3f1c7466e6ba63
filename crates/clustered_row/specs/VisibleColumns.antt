-- Queries on a row's columns.
use Rattle.std.specs.Prelude.{ℕ, Bool, true, false, [], ◌∷◌, drop}
use Rattle.cell_base.specs.Attributes.{Attributes}
use Rattle.cell_base.specs.Row.{Column, Narrow, LeftHalf, RightHalf, Row}

-- whether the first column is the right half of a wide text
abbrev pub starts_split : Row → Bool
starts_split [] = false
starts_split (Narrow text attributes ∷ row) = false
starts_split (LeftHalf text attributes ∷ row) = false
starts_split (RightHalf attributes ∷ row) = true

-- whether a column is the second one of a wide text
abbrev pub is_split : ℕ → Row → Bool
is_split at row = starts_split (drop at row)

-- the attributes of a column
abbrev pub column_attributes : Column → Attributes
column_attributes (Narrow text attributes) = attributes
column_attributes (LeftHalf text attributes) = attributes
column_attributes (RightHalf attributes) = attributes
