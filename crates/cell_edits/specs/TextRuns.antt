-- Texts that are set on a row as far as they fit.
use Rattle.std.specs.Prelude.{◌≡◌, ℕ, ◌+◌, ◌-◌, ◌≤◌, nat_le, List, [], ◌∷◌, length, drop, map, true, if◌then◌else◌}
use Rattle.std.specs.List.{concat, flat_map}
use Rattle.unicode_segmentation.specs.Grapheme.{graphemes}
use Rattle.cell_base.specs.Attributes.{Attributes}
use Rattle.cell_base.specs.CellContent.{CellContent, cell_of}
use Rattle.cell_base.specs.Row.{Row}
use Rattle.cell_edits.specs.CellList.{cell_columns, text_cells}
use Rattle.cell_edits.specs.RowEdits.{overlaid}

-- the first cells, as many as fit side by side in `room` columns
abbrev pub fitting : ℕ → List CellContent → List CellContent
fitting room [] = []
fitting room (cell ∷ cells) =
    if nat_le (length (cell_columns cell)) room then cell ∷ fitting (room - length (cell_columns cell)) cells else []

-- the cells of a text's clusters that fit
abbrev pub fitting_cells : (List ℕ → ℕ) → ℕ → List ℕ → Attributes → List CellContent
fitting_cells width_of room text attributes = fitting room (text_cells width_of text attributes)

-- the text after its first `count` clusters
abbrev pub text_after : ℕ → List ℕ → List ℕ
text_after count text = concat (drop count (graphemes true text))

-- the row with the cells of a text set from column `at` on, as far as they fit before column `end`
abbrev pub text_on : (List ℕ → ℕ) → ℕ → Attributes → Row → ℕ → List ℕ → Row
text_on width_of end attributes row at text = overlaid row at (fitting_cells width_of (end - at) text attributes)

-- the rest of the text, whose cells don't fit
abbrev pub text_left : (List ℕ → ℕ) → ℕ → Attributes → ℕ → List ℕ → List ℕ
text_left width_of end attributes at text = text_after (length (fitting_cells width_of (end - at) text attributes)) text

-- the column after the cells of a text that fit
abbrev pub position_after : (List ℕ → ℕ) → ℕ → Attributes → ℕ → List ℕ → ℕ
position_after width_of end attributes at text =
    at + length (flat_map cell_columns (fitting_cells width_of (end - at) text attributes))

-- a cell of one column for each byte
abbrev pub plain_cells : List ℕ → Attributes → List CellContent
plain_cells text attributes = map (λ byte. cell_of (byte ∷ []) 1 attributes) text

-- a step leads on: from a row, a column and a text to a next row, position and rest with the same overall result
pub record Leads (width_of : List ℕ → ℕ) (end : ℕ) (attributes : Attributes) (row : Row) (at : ℕ) (text : List ℕ)
    (next : Row) (position : ℕ) (rest : List ℕ) : Type 0 where
  pub columns : text_on width_of end attributes next position rest ≡ text_on width_of end attributes row at text
  pub left : text_left width_of end attributes position rest ≡ text_left width_of end attributes at text
  pub after : position_after width_of end attributes position rest ≡ position_after width_of end attributes at text
  pub order : at ≤ position
  pub within : position ≤ end
  pub whole : concat (graphemes true rest) ≡ rest

-- nothing more fits
pub record Stops (width_of : List ℕ → ℕ) (end : ℕ) (attributes : Attributes) (row : Row) (at : ℕ) (text : List ℕ) : Type
    0 where
  pub columns : text_on width_of end attributes row at text ≡ row
  pub left : text_left width_of end attributes at text ≡ text
  pub after : position_after width_of end attributes at text ≡ at
