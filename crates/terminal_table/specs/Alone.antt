-- One action by itself: its text and then a look, on a view with nothing unfinished and no held run.
use Rattle.std.specs.Prelude.{◌≡◌, ℕ, List, [], ◌∷◌, map, if◌then◌else◌}
use Rattle.screen_log.specs.LogSteps.{LogStep, Logged}
use Rattle.escape_framing.specs.Held.{held_of, nothing_held}
use Rattle.escape_stream.specs.StreamAction.{StreamAction, is_print, printed}
use Rattle.escape_stream.specs.StreamText.{stream_text}
use Rattle.terminal_table.specs.State.{State}
use Rattle.terminal_table.specs.Requests.{acted, acted_changes}
use Rattle.terminal_table.specs.History.{History, Piece, Look}
use Rattle.terminal_table.specs.Meaning.{View}
use Rattle.terminal_table.specs.Runs.{run_changes_of, run_step}

-- nothing of the stream is unfinished, and no run is held
pub record IsIdle (view : View) : Type 0 where
  pub run : view.held ≡ []
  pub stream : held_of view.stream ≡ nothing_held

-- the action's text, and a look
abbrev pub alone : StreamAction → History
alone action = Piece (stream_text (action ∷ [])) ∷ Look ∷ []

-- the state after the action's row of the table; the characters of a print action are a run
abbrev pub row_done : (List ℕ → ℕ) → StreamAction → State → State
row_done width_of action state =
    if is_print action then run_step width_of (printed action) state else acted width_of action state

-- the changes that the action's row of the table logs
abbrev pub row_logged : (List ℕ → ℕ) → StreamAction → State → List LogStep
row_logged width_of action state =
    map Logged
    (if is_print action then run_changes_of width_of (printed action) state
    else acted_changes width_of action state)
