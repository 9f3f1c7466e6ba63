-- A screen that can follow another one.
use Rattle.std.specs.Prelude.{◌≡◌, ℕ, All, List}
use Rattle.cell_base.specs.Screen.{Screen, IsScreen, height}
use Rattle.cell_base.specs.WholeRow.{IsWhole}
use Rattle.screen_effects.specs.WrittenCells.{IsSoundRow}

-- A screen has the size of another and is lawful: its rows are whole, and each of their cells has a sound text.
pub record Follows (width_of : List ℕ → ℕ) (before after : Screen) : Type 0 where
  pub wide : after.width ≡ before.width
  pub tall : height after ≡ height before
  pub lawful : IsScreen after
  pub whole : All IsWhole after.rows
  pub sound : All (IsSoundRow width_of) after.rows
