-- The cells at the start of a text.
use Rattle.std.specs.Prelude.{◌≡◌, ℕ, ◌+◌, ◌≤◌, true, List, [], ◌∷◌, ◌++◌, length, take, drop}
use Rattle.cell_base.specs.Attributes.{Attributes}
use Rattle.cell_base.specs.CellContent.{CellContent}
use Rattle.cell_base.specs.Row.{Row}
use Rattle.cell_edits.specs.RowEdits.{overlaid}
use Rattle.cell_edits.specs.TextRuns.{Leads}
use Rattle.clustered_row.specs.declared.cell_size.CellSize.{CellSize}
use Rattle.clustered_row.specs.Sizes.{bytes_of, columns_of, is_cut, width_of}

-- the cells with these sizes at the start of a text
abbrev pub cells_of : List ℕ → List CellSize → Attributes → List CellContent
cells_of text [] attributes = []
cells_of text (size ∷ sizes) attributes =
    record { text = take size.len text; width = width_of size.is_wide; attributes = attributes }
    ∷ cells_of (drop size.len text) sizes attributes

-- Cells with these sizes, which take `count` columns, are at the start of a text and fit in `room` columns. After they
-- are set on a row, setting the rest of the text has the same result as setting the whole text.
pub record IsWalked (columns_for : List ℕ → ℕ) (room : ℕ) (text : List ℕ) (sizes : List CellSize) (count : ℕ)
    (rest : List ℕ) : Type 0 where
  pub prefix : List ℕ
  pub whole : text ≡ prefix ++ rest
  pub cut : is_cut prefix sizes ≡ true
  pub bytes : bytes_of sizes ≡ length prefix
  pub columns : columns_of sizes ≡ count
  pub within : count ≤ room
  pub leads : (attributes : Attributes) (row : Row) (at : ℕ) → at + room ≤ length row
      → Leads columns_for (at + room) attributes row at text (overlaid row at (cells_of prefix sizes attributes))
      (at + count) rest
