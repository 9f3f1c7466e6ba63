-- Cells that are told in turn, side by side.
use Rattle.std.specs.Prelude.{◌≡◌, ◌+◌, ◌<◌, ◌^◌, ℕ, zero, suc, List, [], ◌∷◌, ◌++◌, fold, length}
use Rattle.cell_edits.specs.VisibleCells.{VisibleCell}
use Rattle.screen_difference.specs.ShownCells.{side_by_side, HaveRoom}
use Rattle.terminal_c.specs.Told.{Told, with_cell}
use Rattle.terminal_c.specs.declared.told.Cell.{Cell}
use Rattle.terminal_c.specs.declared.told.Face.{Face}

-- The next cells are told: some of `cells`, of which `left` are left. Side by side from a column on, they take `count`
-- columns.
pub record TellsNext (column count : ℕ) (before after : Told) (cells left : List VisibleCell) : Type 0 where
  pub told : fold with_cell after (side_by_side (column + count) left)
      ≡ fold with_cell before (side_by_side column cells)
  pub room : HaveRoom (column + count) left
  pub small : column + count < 2 ^ 64
  pub fewer : length left < length cells

-- a cell of one byte in one column
abbrev pub byte_told : ℕ → ℕ → Face → Cell
byte_told column text_at face =
    record { column = column; width = 1; text_at = text_at; text_len = 1; face = face }

-- such cells, side by side, that share a face
abbrev pub each_told : ℕ → ℕ → ℕ → Face → List Cell
each_told column text_at zero face = []
each_told column text_at (suc count) face =
    byte_told column text_at face ∷ each_told (column + 1) (text_at + 1) count face

-- a cell follows for each byte of a text
abbrev pub with_each : Told → ℕ → List ℕ → Told
with_each t column text =
    record t {
      cells = t.cells ++ each_told column (length t.text) (length text) t.face;
      text = t.text ++ text;
    }
