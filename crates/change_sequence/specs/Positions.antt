-- Positions as pairs.
use Rattle.std.specs.Prelude.{ℕ, ℤ}
use Rattle.change_sequence.specs.Sequence.{CellPosition}

abbrev pub position_of : ℕ × ℤ → CellPosition
position_of position = record { column = position.0; row = position.1 }
