-- Screens that show the screen that a terminal had at a number of changes.
use Rattle.std.specs.Prelude.{◌≡◌, ℕ, List, IfSome}
use Rattle.cell_base.specs.Screen.{Screen, height}
use Rattle.screen_change.specs.ChangeValue.{ChangeValue}
use Rattle.screen_log.specs.Log.{due}
use Rattle.screen_log.specs.LogSteps.{Sized}
use Rattle.screen_effects.specs.Effect.{replay}
use Rattle.terminal_viewers.specs.Update.{display_on}

-- a screen after changes in turn
abbrev pub replayed_on : (List ℕ → ℕ) → Screen → List ChangeValue → Screen
replayed_on width_of screen changes = (replay width_of (display_on screen) changes).screen

-- The screen `shown` shows `screen`, which has the log `log`, at a number: it has the same size, and where changes are
-- due from that number on, they turn `shown` into `screen`.
pub record Shows (width_of : List ℕ → ℕ) (shown : Screen) (number : ℕ) (screen : Screen) (log : Sized) : Type 0 where
  pub wide : shown.width ≡ screen.width
  pub tall : height shown ≡ height screen
  pub leads : IfSome (due log.most log.log number) (λ changes. replayed_on width_of shown changes ≡ screen)
