-- Rows on which a difference was replayed.
use Rattle.std.specs.Prelude.{◌≡◌, ◌⊎◌, ⊤, ℕ, ◌+◌, List, [], ◌∷◌, length, take, drop}
use Rattle.cell_base.specs.Row.{Row, closed_end, closed_start}
use Rattle.screen_difference.specs.FreshCells.{columns_from, shared_width}
use Rattle.screen_effects.specs.Display.{Display}

-- columns are as they were, or a half of a wide cell at their edge has become a blank
abbrev pub IsKept : (Row → Row) → Row → Row → Type 0
IsKept closed before after = (after ≡ before) ⊎ (after ≡ closed before)

-- from column `start` on a row shows these columns, where a cell that an edge cuts counts as a blank; before and after
-- them it is as it was, except that the outer half of a wide cell across an edge may have become a blank
pub record ShowsPart (start : ℕ) (columns before after : Row) : Type 0 where
  pub within : columns_from start (length columns) after ≡ columns
  pub prefix : IsKept closed_end (take start before) (take start after)
  pub suffix : IsKept closed_start (drop (start + length columns) before) (drop (start + length columns) after)
  pub width : length after ≡ length before

-- the row shows some columns of a new row, from `other_x` on, as far as both rows have them
abbrev pub ShowsRow : ℕ → ℕ → ℕ → Row → Row → Row → Type 0
ShowsRow x other_x width new before after =
    ShowsPart x (columns_from other_x (shared_width width x before other_x new) new) before after

-- each row shows its new one; a row that has none is as it was
abbrev pub RowsShow : (Row → Row → Row → Type 0) → List Row → List Row → List Row → Type 0
RowsShow shows news [] [] = ⊤
RowsShow shows news [] (after ∷ afters) = ⊥
RowsShow shows news (before ∷ befores) [] = ⊥
RowsShow shows [] (before ∷ befores) (after ∷ afters) = (after ≡ before) × RowsShow shows [] befores afters
RowsShow shows (new ∷ news) (before ∷ befores) (after ∷ afters) =
    shows new before after × RowsShow shows news befores afters

-- the rows of a region show the new ones, and the rows above and below are as they were
pub record ShowsRegion (x y width height : ℕ) (news : List Row) (other_x other_y : ℕ) (before after : List Row) : Type 0
  where
    pub above : take y after ≡ take y before
    pub within : RowsShow (ShowsRow x other_x width) (drop other_y news) (take height (drop y before))
        (take height (drop y after))
    pub below : drop (y + height) after ≡ drop (y + height) before

-- the rows from row `y` on show whole new rows
pub record ShowsLines (y : ℕ) (news before after : List Row) : Type 0 where
  pub above : take y after ≡ take y before
  pub within : RowsShow (λ new. ShowsRow 0 0 (length new) new) news (drop y before) (drop y after)

-- nothing but rows, the cursor's position and the pen has changed
pub record KeepsRest (before after : Display) : Type 0 where
  pub width : after.screen.width ≡ before.screen.width
  pub visible : after.screen.visible ≡ before.screen.visible
  pub title : after.screen.title ≡ before.screen.title
  pub sizes : after.sizes ≡ before.sizes
  pub shape : after.shape ≡ before.shape
