-- What an action asks for: here the meaning of actions forks by the profile.
use Rattle.std.specs.Prelude.{◌≡◌, ℕ, List, [], ◌++◌, Option, Some, None, option_map}
use Rattle.cell_base.specs.Screen.{Screen}
use Rattle.screen_change.specs.ChangeValue.{ChangeValue}
use Rattle.escape_stream.specs.StreamAction.{StreamAction}
use Rattle.terminal_table.specs.Alignment.{modes_aligned, screen_aligned}
use Rattle.terminal_table.specs.Changes.{changes}
use Rattle.terminal_table.specs.Functions.{ControlFunction, function_of}
use Rattle.terminal_table.specs.Led.{led}
use Rattle.terminal_table.specs.Modes.{Modes, with_last}
use Rattle.terminal_table.specs.Request.{Request, Table, Xterm, Sets, SetsAlone, Switches, Repeats, Aligns, Replies}
use Rattle.terminal_table.specs.Request.{Nothing, modes_set}
use Rattle.terminal_table.specs.Runs.{changes_repeated, screen_repeated}
use Rattle.terminal_table.specs.Screens.{modes_or_initial, screens_after, screens_changes, screens_of, with_screens}
use Rattle.terminal_table.specs.State.{State}
use Rattle.terminal_table.specs.Steps.{step}
use Rattle.terminal_table.specs.Xterm.{xterm_screen}
use Rattle.terminal_table.specs.XtermRequests.{xterm_request}

-- what xterm has for an action goes before what the table has
abbrev pub own_first : Option Request → Option ControlFunction → Option Request
own_first (Some own) function = Some own
own_first None function = option_map Table function

-- what xterm itself has for an action on a screen; a plain terminal, which has no modes, has nothing
abbrev pub own_request : Option Modes → Screen → StreamAction → Option Request
own_request None screen action = None
own_request (Some modes) screen action = xterm_request modes screen action

-- what an action asks for on a screen
abbrev pub request_of : Option Modes → Screen → StreamAction → Option Request
request_of modes screen action = own_first (own_request modes screen action) (function_of action)

-- an action asks for nothing, whatever the screen and the run before it
abbrev pub AsksForNothing : Option Modes → StreamAction → Type 0
AsksForNothing modes action =
    (text : List ℕ) (screen : Screen) → request_of (option_map (with_last text) modes) screen action ≡ None

-- ---- what is asked for is done

-- the state after what was asked for, if anything was
abbrev pub request_done : (List ℕ → ℕ) → Option Request → State → State
request_done width_of None state = state
request_done width_of (Some (Table function)) state = step function state
request_done width_of (Some (Xterm function)) state = record state { screen = xterm_screen function state.screen }
request_done width_of (Some (Sets setting function)) state =
    record (step function state) { modes = option_map (modes_set setting) state.modes }
request_done width_of (Some (SetsAlone setting)) state =
    record state { modes = option_map (modes_set setting) state.modes }
request_done width_of (Some (Switches function)) state = with_screens (screens_after function (screens_of state)) state
request_done width_of (Some (Repeats count)) state =
    record state { screen = screen_repeated (modes_or_initial state.modes) width_of count state.screen }
request_done width_of (Some Aligns) state =
    record state {
      screen = screen_aligned width_of state.screen;
      modes = option_map modes_aligned state.modes;
    }
request_done width_of (Some (Replies text)) state = record state { replies = state.replies ++ text }
request_done width_of (Some Nothing) state = state

-- the changes that are logged for it; xterm's own functions are logged as what leads from screen to screen
abbrev pub request_changes : (List ℕ → ℕ) → Option Request → State → List ChangeValue
request_changes width_of None state = []
request_changes width_of (Some (Table function)) state = changes function state.saved state.screen
request_changes width_of (Some (Xterm function)) state = led state.screen (xterm_screen function state.screen)
request_changes width_of (Some (Sets setting function)) state = changes function state.saved state.screen
request_changes width_of (Some (SetsAlone setting)) state = []
request_changes width_of (Some (Switches function)) state = screens_changes function (screens_of state)
request_changes width_of (Some (Repeats count)) state =
    changes_repeated (modes_or_initial state.modes) width_of count state.screen
request_changes width_of (Some Aligns) state = led state.screen (screen_aligned width_of state.screen)
request_changes width_of (Some (Replies text)) state = []
request_changes width_of (Some Nothing) state = []

-- no run is the one before
abbrev pub without_last : State → State
without_last state = record state { modes = option_map (with_last []) state.modes }

-- the state after an action that is no print, and the changes that are logged for it
abbrev pub acted : (List ℕ → ℕ) → StreamAction → State → State
acted width_of action state =
    without_last (request_done width_of (request_of state.modes state.screen action) state)

abbrev pub acted_changes : (List ℕ → ℕ) → StreamAction → State → List ChangeValue
acted_changes width_of action state =
    request_changes width_of (request_of state.modes state.screen action) state
