-- Positions as moves of the cursor. Columns and rows count from 0, and in sequences from 1.
use Rattle.std.specs.Prelude.{ℕ, ◌+◌, ◌-◌, Bool, false, ◌&&◌, ◌==◌, nat_le, min, pos, negsuc, List, [], ◌∷◌, ◌++◌}
use Rattle.std.specs.Prelude.{Option, Some, None, if◌then◌else◌}
use Rattle.cell_base.specs.declared.attributes.Position.{Position}
use Rattle.cell_base.specs.declared.attributes.Position.TheVariants.{Relative, Absolute, EndRelative}
use Rattle.csi_codec.specs.Parameters.{word_max}
use Rattle.csi_codec.specs.declared.cursors.Cursor.{Cursor}
use Rattle.csi_codec.specs.declared.cursors.Cursor.TheVariants as cursor

-- a line or a column: an absolute one, counted from 1, or a distance back (left, up) or on (right, down) from the
-- current one
pub data Way : Type 0 where
  At : ℕ → Way
  Back : ℕ → Way
  On : ℕ → Way

-- the way to a column or a row of `size` columns or rows; one past the last becomes the last
abbrev pub way_of : ℕ → Position → Way
way_of size (Absolute at) = At (min at (size - 1) + 1)
way_of size (EndRelative back) = At (min (size - back) (size - 1) + 1)
way_of size (Relative (pos forward)) = On forward
way_of size (Relative (negsuc less)) = Back (less + 1)

-- a column at or past the width: there a wrap is pending, which no move reaches
abbrev pub is_past : ℕ → Position → Bool
is_past width (Absolute at) = nat_le width at
is_past width (EndRelative back) = false
is_past width (Relative way) = false

-- a move by `count`, at most the largest parameter, 2^32 - 1; no move where the count is 0
abbrev pub move_by : (ℕ → Cursor) → ℕ → List Cursor
move_by move count = if count == 0 then [] else move (min count word_max) ∷ []

-- The moves for a column's way and a row's: CUU, CUD, CUF (ECMA-48 8.3.22, 8.3.19, 8.3.20), CHA (8.3.9), VPA (8.3.158)
-- and CUP (8.3.21). `None` in two cases. A position that moves nothing keeps a pending wrap, which each of these moves
-- ends. And a position to the left counts from past the last column where a wrap is pending, while CUB counts from the
-- last column.
unfoldable pub moves : Way → Way → Option (List Cursor)
moves (At column) (At row) = Some (cursor.Position row column ∷ [])
moves (At column) (Back rows) = Some (move_by cursor.Up rows ++ cursor.CharacterAbsolute column ∷ [])
moves (At column) (On rows) = Some (move_by cursor.Down rows ++ cursor.CharacterAbsolute column ∷ [])
moves (On columns) (At row) = Some (move_by cursor.Right columns ++ cursor.LinePositionAbsolute row ∷ [])
moves (On columns) (Back rows) = Some (move_by cursor.Right columns ++ move_by cursor.Up rows)
moves (On columns) (On rows) =
    if columns == 0 && rows == 0 then None else Some (move_by cursor.Right columns ++ move_by cursor.Down rows)
moves (Back columns) row = None

-- the moves of a position's column `x` and row `y`, on a screen of a width and a height
unfoldable pub position_moves : ℕ → ℕ → Position → Position → Option (List Cursor)
position_moves width height x y = if is_past width x then None else moves (way_of width x) (way_of height y)
