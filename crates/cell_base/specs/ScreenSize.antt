-- The sizes of screens.
use Rattle.std.specs.Prelude.{ℕ, ◌<◌, ◌^◌}

-- from 1 to 2^32 - 1 columns and rows
pub record IsScreenSize (width height : ℕ) : Type 0 where
  pub columns : (0 < width) × (width < 2 ^ 32)
  pub rows : (0 < height) × (height < 2 ^ 32)
