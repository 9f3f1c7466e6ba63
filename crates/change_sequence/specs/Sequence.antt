-- Where changes leave a cursor that doesn't scroll. Columns count from 0; rows count from the cursor's row before the
-- first change, and may be negative.
use Rattle.std.specs.Prelude.{◌≡◌, ℕ, ◌+◌, ◌-◌, ◌%◌, ◌<◌, min, ℤ, pos, negsuc, ◌+ℤ◌, ◌-ℤ◌, neg_ℤ, Bool, true, false}
use Rattle.std.specs.Prelude.{◌&&◌, nat_lt, nat_le, ◌^◌, List, [], ◌∷◌, ◌++◌, fold, length, take, if◌then◌else◌}
use Rattle.std.specs.List.{flat_map}
use Rattle.std.specs.Int.{int_max, int_min, saturate_signed, w64}
use Rattle.cell_base.specs.declared.attributes.Position.{Position}
use Rattle.cell_base.specs.declared.attributes.Position.TheVariants.{Relative, Absolute, EndRelative}
use Rattle.screen_change.specs.ChangeValue.{ChangeValue, Text, ClearScreen, CursorPosition, ScrollRegionUp}
use Rattle.screen_change.specs.ChangeValue.{ScrollRegionDown}
use Rattle.screen_effects.specs.Strokes.{Stroke, CarriageReturn, LineFeed, Cluster, TextPart, part_strokes, strokes}

-- a column and a row; sums of rows are limited to 64 bits
pub record CellPosition : Type 0 where
  pub column : ℕ
  pub row : ℤ

abbrev pub home : CellPosition
home = record { column = 0; row = pos 0 }

abbrev pub next_row : ℤ → ℤ
next_row row = saturate_signed w64 (row +ℤ pos 1)

-- the columns that a cluster takes: on a screen of one column a wide cluster is a space
abbrev pub columns_taken : (List ℕ → ℕ) → ℕ → List ℕ → ℕ
columns_taken width_of columns cluster = if nat_lt 1 columns && nat_le 2 (width_of cluster) then 2 else 1

-- the position after a part of a text, as on a screen of `columns` columns: a cluster that doesn't fit goes to the
-- start of the next row
abbrev pub stroke_moved : (List ℕ → ℕ) → ℕ → CellPosition → Stroke → CellPosition
stroke_moved width_of columns position CarriageReturn = record position { column = 0 }
stroke_moved width_of columns position LineFeed = record position { row = next_row position.row }
stroke_moved width_of columns position (Cluster cluster) =
    let taken = columns_taken width_of columns cluster in
    if nat_lt (columns - position.column) taken then record { column = taken; row = next_row position.row }
    else record position { column = position.column + taken }

-- the position after the parts of a text
abbrev pub parts_moved : (List ℕ → ℕ) → ℕ → CellPosition → List TextPart → CellPosition
parts_moved width_of columns position parts =
    fold (stroke_moved width_of columns) position (flat_map part_strokes parts)

abbrev pub text_moved : (List ℕ → ℕ) → ℕ → CellPosition → List ℕ → CellPosition
text_moved width_of columns position text = fold (stroke_moved width_of columns) position (strokes text)

-- ---- positions: a column is cut below at 0 and taken modulo the columns, a row modulo the rows, with its sign kept

abbrev pub most_unsigned : ℕ
most_unsigned = 2 ^ 64 - 1

abbrev pub most_signed : ℕ
most_signed = 2 ^ 63 - 1

-- the column that a position names: counted from the start, from the end, or from the column `from`
abbrev pub column_moved : ℕ → ℕ → Position → ℕ
column_moved columns from (Absolute at) = at % columns
column_moved columns from (EndRelative back) = (columns - back) % columns
column_moved columns from (Relative (pos forward)) = min (from + forward) most_unsigned % columns
column_moved columns from (Relative (negsuc less)) = (from - (less + 1)) % columns

-- the remainder of a division, with the sign of the dividend
abbrev pub signed_rest : ℤ → ℕ → ℤ
signed_rest (pos n) count = pos (n % count)
signed_rest (negsuc less) count = neg_ℤ (pos ((less + 1) % count))

abbrev pub row_moved : ℕ → ℤ → Position → ℤ
row_moved rows from (Absolute at) = pos (min (at % rows) most_signed)
row_moved rows from (EndRelative back) = pos (min ((rows - back) % rows) most_signed)
row_moved rows from (Relative way) = signed_rest (saturate_signed w64 (from +ℤ way)) rows

-- ---- all changes

abbrev pub change_moved : (List ℕ → ℕ) → ℕ → ℕ → CellPosition → ChangeValue → CellPosition
change_moved width_of columns rows position (Text text) = text_moved width_of columns position text
change_moved width_of columns rows position (CursorPosition x y) =
    record { column = column_moved columns position.column x; row = row_moved rows position.row y }
change_moved width_of columns rows position (ClearScreen color) = home
change_moved width_of columns rows position (ScrollRegionUp first size count) = home
change_moved width_of columns rows position (ScrollRegionDown first size count) = home
change_moved width_of columns rows position _ = position

-- ---- a list of changes

-- whether the row after a change counts for the height
abbrev pub is_drawn : ChangeValue → Bool
is_drawn (Text text) = true
is_drawn (CursorPosition x y) = true
is_drawn _ = false

-- the width values, the columns and rows of the screen, where the changes leave the cursor, the least and the greatest
-- row, and the changes
pub record Sequence (W : Type 0) : Type 0 where
  pub widths : W
  pub columns : ℕ
  pub rows : ℕ
  pub position : CellPosition
  pub lowest : ℤ
  pub highest : ℤ
  pub changes : List ChangeValue

-- one change more
abbrev pub with_change : {W : Type 0} → (List ℕ → ℕ) → Sequence W → ChangeValue → Sequence W
with_change width_of s change =
    let position = change_moved width_of s.columns s.rows s.position change in
    record s {
      position = position;
      lowest = if is_drawn change then int_min s.lowest position.row else s.lowest;
      highest = if is_drawn change then int_max s.highest position.row else s.highest;
      changes = s.changes ++ change ∷ [];
    }

abbrev pub with_changes : {W : Type 0} → (List ℕ → ℕ) → Sequence W → List ChangeValue → Sequence W
with_changes width_of s changes = fold (with_change width_of) s changes

-- the first of the changes were added, but not all
pub record HasSome {W : Type 0} (width_of : List ℕ → ℕ) (before after : Sequence W) (changes : List ChangeValue) : Type
    0 where
  pub count : ℕ
  pub fewer : count < length changes
  pub added : after ≡ with_changes width_of before (take count changes)

-- the relative cursor position that leads from one position to another, each distance limited to 64 bits
abbrev pub move_to : CellPosition → ℕ → ℤ → ChangeValue
move_to position column row =
    CursorPosition (Relative (saturate_signed w64 (pos column -ℤ pos position.column)))
    (Relative (saturate_signed w64 (row -ℤ position.row)))
