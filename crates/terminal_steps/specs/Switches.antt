-- What becomes of a surface, a saved cursor and the modes of xterm by a function of the two screens.
use Rattle.std.specs.Prelude.{◌≡◌, ⊤, ℕ, List, Option, Result, IfOk}
use Rattle.cell_surface.specs.Surface.{Surface, shown_by}
use Rattle.cell_surface.specs.declared.error.SurfaceError.{SurfaceError}
use Rattle.terminal_table.specs.Modes.{Modes, SavedCursor, other_screen}
use Rattle.terminal_table.specs.RunText.{IsRunText}
use Rattle.terminal_table.specs.Screens.{ScreenFunction, Screens, screens_after, screens_changes}
use Rattle.xterm_steps.specs.Additions.{CopiesAndAdds}
use Rattle.xterm_table.specs.Follows.{Follows}

-- the screen that a surface shows, a saved cursor and modes
abbrev pub screens_on : {W : Type 0} → Surface W → Option SavedCursor → Modes → Screens
screens_on surface saved modes = record { screen = (shown_by surface).screen; saved = saved; modes = modes }

-- the other screen is one that the screen can become; and the run before is a text
abbrev pub CanSwitch : {W : Type 0} → (W → List ℕ → ℕ) → Surface W → Modes → Type 0
CanSwitch width_of surface modes =
    Follows (width_of surface.grid.widths) (shown_by surface).screen
    (other_screen (shown_by surface).screen modes.other.rows)
    × IsRunText modes.last

-- a function was done from some screens; or it is refused as the surface refuses, or for want of memory for a copy
pub record Switches {W : Type 0}
    (width_of : W → List ℕ → ℕ) (at : Screens) (function : ScreenFunction) (before : Surface W)
    (result : Result ⊤ SurfaceError) (after : Surface W) (kept : Option SavedCursor) (next : Modes) : Type 0 where
  pub added : CopiesAndAdds width_of before (screens_changes function at) result after
  pub saved : IfOk result (λ _. kept ≡ (screens_after function at).saved)
  pub modes : IfOk result (λ _. next ≡ (screens_after function at).modes)
