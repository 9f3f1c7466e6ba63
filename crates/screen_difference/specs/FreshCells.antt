-- The cells of the new side of a comparison that the old side doesn't show. Columns and rows count from 0.
use Rattle.std.specs.Prelude.{ℕ, ◌+◌, ◌-◌, Bool, ◌&&◌, ◌==◌, not, min, List, [], ◌∷◌, ◌++◌, length, take, drop, filter}
use Rattle.std.specs.Prelude.{map}
use Rattle.std.specs.List.{list_any}
use Rattle.cell_base.specs.CellContent.{CellContent}
use Rattle.cell_base.specs.Row.{Row}
use Rattle.cell_base.specs.SameCell.{same_cell}
use Rattle.cell_base.specs.Screen.{Screen, height}
use Rattle.cell_line.specs.LineContent.{LineContent}
use Rattle.cell_edits.specs.RowEdits.{cut, cut_prefix}
use Rattle.cell_edits.specs.VisibleCells.{VisibleCell, visible_from}

-- a visible cell with its row and first column
pub record PlacedCell : Type 0 where
  pub row : ℕ
  pub column : ℕ
  pub cell : CellContent

-- `width` columns of a row, from column `start` on; the half of a wide cell that an edge cuts is a blank with the
-- cell's attributes
abbrev pub columns_from : ℕ → ℕ → Row → Row
columns_from start width row = cut width (cut_prefix start row)

-- how many of `width` columns both rows have: the old one from `x` on, the new one from `other_x` on
abbrev pub shared_width : ℕ → ℕ → Row → ℕ → Row → ℕ
shared_width width x old other_x new = min (min width (length old - x)) (length new - other_x)

-- whether one of `cells` has this cell's column, and equal text, width and attributes
abbrev pub is_shown : List VisibleCell → VisibleCell → Bool
is_shown cells v = list_any (λ old. old.column == v.column && same_cell old.cell v.cell) cells

-- the new cells that the old cells don't show
abbrev pub fresh : List VisibleCell → List VisibleCell → List VisibleCell
fresh olds news = filter (λ v. not (is_shown olds v)) news

-- the fresh cells of some columns of a new row, from `other_x` on, against those of the old row from `x` on, where they
-- have their columns; columns that either row lacks are left out
abbrev pub row_fresh : ℕ → ℕ → ℕ → Row → Row → List VisibleCell
row_fresh x other_x width old new =
    let count = shared_width width x old other_x new in
    fresh (visible_from x (columns_from x count old)) (visible_from x (columns_from other_x count new))

-- cells with the number of their row
abbrev pub placed : ℕ → List VisibleCell → List PlacedCell
placed row cells = map (λ v. record { row = row; column = v.column; cell = v.cell }) cells

-- the fresh cells of rows in turn, of which the first is row `number`; rows that either side lacks are left out
abbrev pub rows_fresh : (Row → Row → List VisibleCell) → ℕ → List Row → List Row → List PlacedCell
rows_fresh compare number [] news = []
rows_fresh compare number (old ∷ olds) [] = []
rows_fresh compare number (old ∷ olds) (new ∷ news) =
    placed number (compare old new) ++ rows_fresh compare (number + 1) olds news

-- the fresh cells of a region: that of the old rows, whose top left is at column `x` and row `y`, against that of the
-- new rows at `other_x` and `other_y`
abbrev pub region_fresh : List Row → ℕ → ℕ → ℕ → ℕ → List Row → ℕ → ℕ → List PlacedCell
region_fresh olds x y width height news other_x other_y =
    rows_fresh (row_fresh x other_x width) y (take height (drop y olds)) (drop other_y news)

-- the fresh cells of whole new rows against the old rows from row `y` on
abbrev pub lines_fresh : List Row → ℕ → List Row → List PlacedCell
lines_fresh olds y news = rows_fresh (λ old new. row_fresh 0 0 (length new) old new) y (drop y olds) news

-- the fresh cells of a screen against another screen
abbrev pub screen_fresh : Screen → Screen → List PlacedCell
screen_fresh old new = region_fresh old.rows 0 0 old.width (height old) new.rows 0 0

-- the columns of lines
abbrev pub rows_of : List LineContent → List Row
rows_of lines = map (λ line. line.columns) lines
