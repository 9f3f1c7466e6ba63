-- Rows of columns.
use Rattle.std.specs.Prelude.{ℕ, ◌+◌, Bool, List, [], ◌∷◌, ◌++◌, length, take, drop, replicate, if◌then◌else◌}
use Rattle.std.specs.List.{flat_map}
use Rattle.cell_base.specs.Attributes.{Attributes, plain}

-- A column has a text of its own, or it is the left or the right half of a wide text, which the left half holds.
pub data Column : Type 0 where
  Narrow : List ℕ → Attributes → Column
  LeftHalf : List ℕ → Attributes → Column
  RightHalf : Attributes → Column

abbrev pub Row : Type 0
Row = List Column

abbrev pub space : List ℕ
space = 32 ∷ []

abbrev pub blank : Attributes → Column
blank attributes = Narrow space attributes

-- a row of blanks with plain attributes
abbrev pub plain_row : ℕ → Row
plain_row width = replicate width (blank plain)

-- the columns of one text
abbrev pub columns_of : List ℕ → Bool → Attributes → Row
columns_of text wide attributes =
    if wide then LeftHalf text attributes ∷ RightHalf attributes ∷ [] else Narrow text attributes ∷ []

-- a half that is left alone becomes a blank with the attributes of the wide text
abbrev pub left_alone : Column → Column
left_alone (LeftHalf text attributes) = blank attributes
left_alone (Narrow text attributes) = Narrow text attributes
left_alone (RightHalf attributes) = RightHalf attributes

abbrev pub right_alone : Column → Column
right_alone (RightHalf attributes) = blank attributes
right_alone (Narrow text attributes) = Narrow text attributes
right_alone (LeftHalf text attributes) = LeftHalf text attributes

-- columns that were cut off from the columns after them, and from the columns before them
abbrev pub closed_end : Row → Row
closed_end [] = []
closed_end (column ∷ []) = left_alone column ∷ []
closed_end (column ∷ next ∷ row) = column ∷ closed_end (next ∷ row)

abbrev pub closed_start : Row → Row
closed_start [] = []
closed_start (column ∷ row) = right_alone column ∷ row

-- the row with these columns from a position on; halves left alone on either side become blanks
abbrev pub set_columns : Row → ℕ → Row → Row
set_columns row at columns = closed_end (take at row) ++ columns ++ closed_start (drop (at + length columns) row)

-- the text that a column shows, and a row
abbrev pub column_text : Column → List ℕ
column_text (Narrow text attributes) = text
column_text (LeftHalf text attributes) = text
column_text (RightHalf attributes) = []

abbrev pub row_text : Row → List ℕ
row_text row = flat_map column_text row
