-- A cell as its text, its width in columns and its attributes, and cells read as a row.
use Rattle.std.specs.Prelude.{ℕ, Bool, true, false, ◌&&◌, ◌==◌, nat_le, max, if◌then◌else◌, List, [], ◌∷◌}
use Rattle.std.specs.Char.{is_ascii_control}
use Rattle.cell_base.specs.Attributes.{Attributes}
use Rattle.cell_base.specs.Row.{Row, Narrow, LeftHalf, RightHalf, space, blank}

-- the text, how many columns it takes (1 or 2), and its attributes
pub record CellContent : Type 0 where
  pub text : List ℕ
  pub width : ℕ
  pub attributes : Attributes

-- the texts that a cell replaces by a space: the empty text, a single control, and CR LF
abbrev pub shows_as_space : List ℕ → Bool
shows_as_space [] = true
shows_as_space (a ∷ []) = is_ascii_control a
shows_as_space (a ∷ b ∷ []) = a == 13 && b == 10
shows_as_space (a ∷ b ∷ c ∷ rest) = false

abbrev pub cell_text : List ℕ → List ℕ
cell_text text = if shows_as_space text then space else text

-- the cell of a text of `width` columns: 0 counts as 1, and a space in place of the text takes one
abbrev pub cell_of : List ℕ → ℕ → Attributes → CellContent
cell_of text width attributes =
    record { text = cell_text text; width = if shows_as_space text then 1 else max 1 width; attributes = attributes }

abbrev pub blank_cell : Attributes → CellContent
blank_cell attributes = record { text = space; width = 1; attributes = attributes }

-- Cells read from the left as a row. The cell stored after a wide one is ignored, and a wide cell at the end of the
-- list counts as a blank with its attributes.
abbrev pub row_of_cells : List CellContent → Row
row_of_cells [] = []
row_of_cells (cell ∷ []) =
    (if nat_le 2 cell.width then blank cell.attributes else Narrow cell.text cell.attributes) ∷ []
row_of_cells (cell ∷ next ∷ cells) =
    if nat_le 2 cell.width then LeftHalf cell.text cell.attributes ∷ RightHalf cell.attributes ∷ row_of_cells cells
    else Narrow cell.text cell.attributes ∷ row_of_cells (next ∷ cells)
