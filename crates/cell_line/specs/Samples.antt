-- Rows of plain cells, for worked examples.
use Rattle.std.specs.Prelude.{ℕ, Bool, true, not, List, [], ◌∷◌}
use Rattle.std.specs.Str.{bytes_eq}
use Rattle.cell_base.specs.Attributes.{plain}
use Rattle.cell_base.specs.CellContent.{CellContent}
use Rattle.cell_base.specs.Row.{Row, Narrow, columns_of, space}

-- a cell of one column for each byte
abbrev pub letters : List ℕ → Row
letters [] = []
letters (byte ∷ bytes) = Narrow (byte ∷ []) plain ∷ letters bytes

-- か, of two columns
abbrev pub wide_letter : Row
wide_letter = columns_of (0xE3 ∷ 0x81 ∷ 0x8B ∷ []) true plain

abbrev pub letter_cell : ℕ → CellContent
letter_cell byte = record { text = byte ∷ []; width = 1; attributes = plain }

-- whether a text isn't one space
abbrev pub is_word : List ℕ → Bool
is_word text = not (bytes_eq text space)
