-- Cells that are drawn on a screen at their positions.
use Rattle.std.specs.Prelude.{ℕ, ◌+◌, ◌<◌, ◌≤◌, ⊤, true, nat_le, List, [], ◌∷◌, fold}
use Rattle.std.specs.List.{flat_map}
use Rattle.unicode_segmentation.specs.Grapheme.{graphemes}
use Rattle.cell_base.specs.Screen.{Screen, write_columns}
use Rattle.screen_change.specs.ChangeValue.{ChangeValue, Text}
use Rattle.cell_edits.specs.CellList.{cell_columns}
use Rattle.screen_difference.specs.FreshCells.{PlacedCell}
use Rattle.screen_effects.specs.Effect.{with_pen}
use Rattle.screen_effects.specs.WrittenCells.{IsSoundText}

-- the cell is at its position, the cursor after it, and the pen has its attributes
abbrev pub drawn : Screen → PlacedCell → Screen
drawn screen c =
    with_pen c.cell.attributes (write_columns (cell_columns c.cell) (record screen { column = c.column; row = c.row }))

abbrev pub all_drawn : List PlacedCell → Screen → Screen
all_drawn cells screen = fold drawn screen cells

-- the cell has its position on a screen of this size, and is a cell that a screen can hold
pub record HasPosition (width_of : List ℕ → ℕ) (width height : ℕ) (c : PlacedCell) : Type 0 where
  pub some : 1 ≤ c.cell.width
  pub most : c.cell.width ≤ 2
  pub sound : IsSoundText width_of c.cell.text (nat_le 2 c.cell.width)
  pub in_columns : c.column + c.cell.width ≤ width
  pub in_rows : c.row < height

abbrev pub HavePositions : (List ℕ → ℕ) → ℕ → ℕ → List PlacedCell → Type 0
HavePositions width_of width height [] = ⊤
HavePositions width_of width height (c ∷ cells) =
    HasPosition width_of width height c × HavePositions width_of width height cells

-- the clusters (UAX 29) of the texts of changes
abbrev pub clusters_of : ChangeValue → List (List ℕ)
clusters_of (Text text) = graphemes true text
clusters_of _ = []

abbrev pub printed : List ChangeValue → List (List ℕ)
printed changes = flat_map clusters_of changes
