-- What all that stands above asks of the table, for each profile. That each change that is logged has an encoding is a
-- law of the crate `terminal_render`.
use Rattle.std.specs.Prelude.{◌≡◌, ℕ, List, None}
use Rattle.escape_stream.specs.StreamAction.{StreamAction}
use Rattle.screen_effects.specs.Display.{Display, IsDisplay}
use Rattle.screen_effects.specs.Effect.{replay}
use Rattle.terminal_table.specs.History.{History}
use Rattle.terminal_table.specs.Meaning.{View, after}
use Rattle.terminal_table.specs.Requests.{acted, acted_changes}
use Rattle.terminal_table.specs.State.{State, IsState}
use Rattle.terminal_table.specs.Turns.{Turns}

-- the changes that are logged for an action turn a display of the screen before it into one of the screen after it
abbrev pub ActionsAreLogged : Type 0
ActionsAreLogged =
    (width_of : List ℕ → ℕ) (action : StreamAction) (state : State) (display : Display) → IsState width_of state
    → IsDisplay display → display.screen ≡ state.screen
    → Turns display (replay width_of display (acted_changes width_of action state)) (acted width_of action state).screen

-- an action leaves a lawful state
abbrev pub ActionsKeepStates : Type 0
ActionsKeepStates =
    (width_of : List ℕ → ℕ) (action : StreamAction) (state : State) → IsState width_of state
    → IsState width_of (acted width_of action state)

-- a terminal without modes stays one
abbrev pub PlainTerminalsStay : Type 0
PlainTerminalsStay =
    (width_of : List ℕ → ℕ) (view : View) (history : History) → view.state.modes ≡ None
    → (after width_of view history).state.modes ≡ None
