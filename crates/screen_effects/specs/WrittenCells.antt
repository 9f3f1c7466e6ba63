-- Cells as a screen has them, and the result of writing them side by side.
use Rattle.std.specs.Prelude.{◌≡◌, ⊤, ℕ, Bool, true, false, All, nat_le, List, [], ◌∷◌}
use Rattle.std.specs.List.{flat_map, list_any}
use Rattle.unicode_segmentation.specs.Grapheme.{graphemes}
use Rattle.cell_base.specs.CellContent.{CellContent}
use Rattle.cell_base.specs.Row.{Row, Narrow, LeftHalf, RightHalf, columns_of}
use Rattle.cell_base.specs.Screen.{write_columns}
use Rattle.screen_change.specs.CellChanges.{last_pen}
use Rattle.screen_change.specs.ChangeValue.{ChangeValue, Text}
use Rattle.std.specs.Str.{IsUtf8}
use Rattle.std.specs.Char.{is_ascii_control}
use Rattle.screen_effects.specs.Display.{Display}
use Rattle.screen_effects.specs.Effect.{on_screen, with_pen}

-- the text is by itself one cluster (UAX 29), and holds no C0 control or DEL
pub record IsCellText (text : List ℕ) : Type 0 where
  pub alone : graphemes true text ≡ text ∷ []
  pub printed : list_any is_ascii_control text ≡ false

-- a cell's text (`IsCellText`), in as many columns as it takes
pub record IsSoundText (width_of : List ℕ → ℕ) (text : List ℕ) (wide : Bool) : Type 0 where
  pub stands : IsCellText text
  pub width : nat_le 2 (width_of text) ≡ wide

-- each cell has a sound text
abbrev pub AreSound : (List ℕ → ℕ) → List CellContent → Type 0
AreSound width_of [] = ⊤
AreSound width_of (cell ∷ cells) = IsSoundText width_of cell.text (nat_le 2 cell.width) × AreSound width_of cells

-- each cell of a row has a sound text
abbrev pub IsSoundRow : (List ℕ → ℕ) → Row → Type 0
IsSoundRow width_of [] = ⊤
IsSoundRow width_of (Narrow text attributes ∷ row) = IsSoundText width_of text false × IsSoundRow width_of row
IsSoundRow width_of (LeftHalf text attributes ∷ row) = IsSoundText width_of text true × IsSoundRow width_of row
IsSoundRow width_of (RightHalf attributes ∷ row) = IsSoundRow width_of row

-- the columns of cells side by side
abbrev pub joined_columns : List CellContent → Row
joined_columns cells = flat_map (λ cell. columns_of cell.text (nat_le 2 cell.width) cell.attributes) cells

-- the display after cells are written at the cursor: the cursor is after them, and the pen has the last one's
-- attributes
abbrev pub with_cells : List CellContent → Display → Display
with_cells cells display =
    on_screen (λ screen. with_pen (last_pen screen.pen cells) (write_columns (joined_columns cells) screen)) display

-- each cell of a display has a sound text
abbrev pub IsSoundDisplay : (List ℕ → ℕ) → Display → Type 0
IsSoundDisplay width_of display = All (IsSoundRow width_of) display.screen.rows

-- the text of a change, if it is one, is UTF-8
abbrev pub HasUtf8 : ChangeValue → Type 0
HasUtf8 (Text text) = IsUtf8 text
HasUtf8 _ = ⊤
