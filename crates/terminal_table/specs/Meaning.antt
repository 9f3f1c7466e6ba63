-- The meaning of a history: the view of a terminal after it.
use Rattle.std.specs.Prelude.{ℕ, List, [], ◌++◌, length, fold, ◌==◌, Option, None, option_map, if◌then◌else◌}
use Rattle.escape_stream.specs.StreamAction.{StreamAction, is_print, printed}
use Rattle.screen_effects.specs.Resize.{resized_screen}
use Rattle.terminal_table.specs.Modes.{Modes, resized_modes}
use Rattle.terminal_table.specs.State.{State, new_state_with}
use Rattle.terminal_table.specs.Requests.{acted}
use Rattle.terminal_table.specs.Runs.{run_step}
use Rattle.terminal_table.specs.History.{History, pieces, Event, Act, Looked, Resized, Forgot, events}

-- A state; the stream so far, of which only its unfinished end matters to what follows; and the characters, in UTF-8,
-- of the run of neighbouring prints that nothing has ended yet.
pub record View : Type 0 where
  pub state : State
  pub stream : List ℕ
  pub held : List ℕ

-- the view of a new terminal with some modes or none; and of a plain one
abbrev pub new_view_with : Option Modes → ℕ → ℕ → View
new_view_with modes width height = record { state = new_state_with modes width height; stream = []; held = [] }

abbrev pub new_view : ℕ → ℕ → View
new_view width height = new_view_with None width height

-- the held run ends
abbrev pub settled : (List ℕ → ℕ) → View → View
settled width_of view =
    record view
    { state = if length view.held == 0 then view.state else run_step width_of view.held view.state; held = [] }

-- a print joins the run, and every other action ends it, also one that asks for nothing
abbrev pub action_done : (List ℕ → ℕ) → View → StreamAction → View
action_done width_of view action =
    if is_print action then record view { held = view.held ++ printed action }
    else record (settled width_of view) { state = acted width_of action (settled width_of view).state }

-- screens of another size; saved cursors stay
abbrev pub with_size : ℕ → ℕ → State → State
with_size width height state =
    record state {
      screen = resized_screen width height state.screen;
      modes = option_map (resized_modes width height) state.modes;
    }

-- a look and another size end the run
abbrev pub event_done : (List ℕ → ℕ) → View → Event → View
event_done width_of view (Act action) = action_done width_of view action
event_done width_of view Looked = settled width_of view
event_done width_of view (Resized width height) =
    record (settled width_of view) { state = with_size width height (settled width_of view).state }
event_done width_of view (Forgot number) = view

-- the view after a history that goes on from a view
abbrev pub after : (List ℕ → ℕ) → View → History → View
after width_of view history =
    record (fold (event_done width_of) view (events view.stream history)) { stream = view.stream ++ pieces history }

-- the view after a history of a new plain terminal
abbrev pub meaning : (List ℕ → ℕ) → ℕ → ℕ → History → View
meaning width_of width height history = after width_of (new_view width height) history
