-- The changes that are logged for a history, and the log after it.
use Rattle.std.specs.Prelude.{ℕ, List, [], ◌∷◌, ◌++◌, length, map, fold, ◌==◌, if◌then◌else◌}
use Rattle.escape_stream.specs.StreamAction.{StreamAction, is_print}
use Rattle.screen_log.specs.Log.{most_due}
use Rattle.screen_log.specs.LogSteps as log
use Rattle.screen_log.specs.LogSteps.{LogStep, Logged, Sized, step_of_kept, log_of_kept}
use Rattle.terminal_table.specs.Requests.{acted_changes}
use Rattle.terminal_table.specs.History.{History, Event, Act, Looked, Resized, Forgot, events}
use Rattle.terminal_table.specs.Meaning.{View, new_view, settled, event_done}
use Rattle.terminal_table.specs.Runs.{run_changes_of}

-- the changes of the held run when it ends; none where no run is held
abbrev pub run_logged : (List ℕ → ℕ) → View → List LogStep
run_logged width_of view =
    if length view.held == 0 then [] else map Logged (run_changes_of width_of view.held view.state)

-- an action that is no print ends the run, and has its own changes
abbrev pub action_logged : (List ℕ → ℕ) → View → StreamAction → List LogStep
action_logged width_of view action =
    if is_print action then []
    else run_logged width_of view ++ map Logged (acted_changes width_of action (settled width_of view).state)

-- what is logged for an event; a new size empties the log, and sets how many changes are due at most
abbrev pub event_logged : (List ℕ → ℕ) → View → Event → List LogStep
event_logged width_of view (Act action) = action_logged width_of view action
event_logged width_of view Looked = run_logged width_of view
event_logged width_of view (Resized width height) = run_logged width_of view ++ log.Resized (most_due width height) ∷ []
event_logged width_of view (Forgot number) = log.Forgotten number ∷ []

-- what is logged for events in turn
abbrev pub events_logged : (List ℕ → ℕ) → View → List Event → List LogStep
events_logged width_of view [] = []
events_logged width_of view (event ∷ events) =
    event_logged width_of view event ++ events_logged width_of (event_done width_of view event) events

-- what is logged for a history that goes on from a view
abbrev pub logged : (List ℕ → ℕ) → View → History → List LogStep
logged width_of view history = events_logged width_of view (events view.stream history)

-- the log after that history
abbrev pub log_after : (List ℕ → ℕ) → View → Sized → History → Sized
log_after width_of view log history = fold step_of_kept log (logged width_of view history)

-- the log of a history of a new plain terminal: its number counts the changes, and the new sizes that emptied a log
-- that was not empty
abbrev pub log_of : (List ℕ → ℕ) → ℕ → ℕ → History → Sized
log_of width_of width height history =
    log_of_kept (most_due width height) (logged width_of (new_view width height) history)
