-- What holds of a run under xterm on its way.
use Rattle.std.specs.Prelude.{◌≡◌, ℕ, List}
use Rattle.cell_base.specs.Screen.{Screen, IsScreen, height}
use Rattle.screen_effects.specs.Display.{Display, IsDisplay}
use Rattle.screen_effects.specs.Effect.{replay}
use Rattle.terminal_table.specs.Runs.{Running, screen_alone}
use Rattle.terminal_table.specs.State.{IsState}
use Rattle.terminal_table.specs.RunText.{IsRunText}
use Rattle.terminal_table.specs.Turns.{Turns}

-- a screen has the size and the pen of another
pub record IsAlike (before after : Screen) : Type 0 where
  pub wide : after.width ≡ before.width
  pub tall : height after ≡ height before
  pub pen : after.pen ≡ before.pen

-- The changes turn a display into one of the screen to which they lead. That screen, and the one with the clusters that
-- are put plainly, are lawful, and have the size and the pen of the screen before the run.
pub record IsRunning (width_of : List ℕ → ℕ) (display : Display) (before : Screen) (run : Running) : Type 0 where
  pub turns : Turns display (replay width_of display run.changes) run.led
  pub shown : IsDisplay (replay width_of display run.changes)
  pub state : IsState width_of (screen_alone run.led)
  pub led : IsAlike before run.led
  pub text : IsRunText run.text
  pub lawful : IsScreen run.screen
  pub screen : IsAlike before run.screen
