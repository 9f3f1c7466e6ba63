-- Where the columns of a row end that were written.
use Rattle.std.specs.Prelude.{◌≡◌, ℕ, ◌-◌, ◌≤◌, ◌++◌, length, take, replicate}
use Rattle.cell_base.specs.Attributes.{Attributes}
use Rattle.cell_base.specs.Row.{Row, blank, closed_end}

-- the written columns end at column `at`: later ones are dropped, or blanks are added
pub record EndsAt (old new : Row) (at : ℕ) (attributes : Attributes) : Type 0 where
  pub cut : at ≤ length old → new ≡ closed_end (take at old)
  pub padded : length old ≤ at → new ≡ old ++ replicate (at - length old) (blank attributes)
