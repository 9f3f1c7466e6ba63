-- What becomes of a surface that is to show another screen.
use Rattle.std.specs.Prelude.{◌≡◌, ◌⊎◌, ⊤, ℕ, true, List, Result, IfOk, IsErrOf}
use Rattle.cell_base.specs.Screen.{Screen}
use Rattle.cell_surface.specs.Surface.{Surface, shown_by}
use Rattle.cell_surface.specs.declared.error.SurfaceError.{SurfaceError}
use Rattle.cell_surface.specs.declared.error.SurfaceError.TheVariants.{Failed, Number, Memory}
use Rattle.screen_change.specs.ChangeValue.{ChangeValue}
use Rattle.terminal_table.specs.Led.{led}
use Rattle.xterm_steps.specs.Additions.{CopiesAndAdds}

-- Some changes were added, and the surface shows a screen. Or they are refused, and the surface is as it was; only
-- where one of them was refused memory after it was begun the surface has failed.
pub record ShowsBy {W : Type 0}
    (width_of : W → List ℕ → ℕ) (before : Surface W) (changes : List ChangeValue) (screen : Screen)
    (result : Result ⊤ SurfaceError) (after : Surface W) : Type 0 where
  pub added : CopiesAndAdds width_of before changes result after
  pub shown : IfOk result (λ _. (shown_by after).screen ≡ screen)
  pub failed : before.is_failed ≡ true → IsErrOf result Failed
  pub unchanged : IsErrOf result Failed → after ≡ before
  pub numbers : IsErrOf result Number → after ≡ before
  pub memory : IsErrOf result Memory → (after ≡ before) ⊎ (after.is_failed ≡ true)

-- the surface shows another screen of its size, by what leads there: the cells that it didn't show, the cursor's
-- position and the pen, and whether the cursor is visible, where that changes
abbrev pub Becomes : {W : Type 0} → (W → List ℕ → ℕ) → Surface W → Screen → Result ⊤ SurfaceError → Surface W → Type 0
Becomes width_of before screen result after =
    ShowsBy width_of before (led (shown_by before).screen screen) screen result after
