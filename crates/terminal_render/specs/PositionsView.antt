-- The way and the moves of the table that a `Way` and a pair of moves of the code represent.
use Rattle.std.specs.Prelude.{⊤, ◌≤◌, List, [], ◌∷◌, ◌++◌, Option, Some, None}
use Rattle.csi_codec.specs.declared.cursors.Cursor.{Cursor}
use Rattle.csi_codec.specs.declared.cursors.Cursor.TheVariants as cursor
use Rattle.terminal_render.specs.declared.moves.Move.{Move}
use Rattle.terminal_render.specs.declared.moves.Move.TheVariants as move
use Rattle.terminal_render.specs.declared.positions.Way.{Way}
use Rattle.terminal_render.specs.declared.positions.Way.TheVariants as code
use Rattle.terminal_render.specs.Positions as to

abbrev pub way_value : Way → to.Way
way_value (code.At coordinate) = to.At coordinate
way_value (code.Back count) = to.Back count
way_value (code.On count) = to.On count

-- an absolute line or column is counted from 1
abbrev pub IsCounted : to.Way → Type 0
IsCounted (to.At coordinate) = 1 ≤ coordinate
IsCounted (to.Back count) = ⊤
IsCounted (to.On count) = ⊤

abbrev pub move_cursor : Move → Cursor
move_cursor (move.To line col) = cursor.Position line.number col.number
move_cursor (move.ToColumn col) = cursor.CharacterAbsolute col.number
move_cursor (move.ToLine line) = cursor.LinePositionAbsolute line
move_cursor (move.Up rows) = cursor.Up rows
move_cursor (move.Down rows) = cursor.Down rows
move_cursor (move.Right columns) = cursor.Right columns

abbrev pub listed : Option Move → List Cursor
listed None = []
listed (Some one) = move_cursor one ∷ []

-- the first move and then the second, where there are moves
abbrev pub both_listed : Option Move × Option Move → List Cursor
both_listed moves = listed moves.0 ++ listed moves.1
