-- The texts that a stream prints, and plain streams: only their runs change rows, and nothing scrolls.
use Rattle.std.specs.Prelude.{◌≡◌, ℕ, ◌+◌, ◌==◌, ⊤, Bool, true, false, not, List, [], ◌∷◌, ◌++◌, map, Option, Some}
use Rattle.std.specs.Prelude.{None, if◌then◌else◌}
use Rattle.cell_base.specs.Cluster.{clusters}
use Rattle.cell_base.specs.Screen.{Screen, height, put_run}
use Rattle.escape_stream.specs.StreamAction.{is_print}
use Rattle.screen_effects.specs.Strokes.{Stroke, Cluster}
use Rattle.screen_difference.specs.Prints.{PlacedText, strokes_print, strokes_scroll}
use Rattle.terminal_table.specs.Functions.{ControlFunction, LineFeed, NextRow, ReverseIndex, ScrollUp, ScrollDown}
use Rattle.terminal_table.specs.History.{Event, Act, Looked, Resized, Forgot, History, Piece, Look, events}
use Rattle.terminal_table.specs.Meaning.{View, settled, event_done}
use Rattle.terminal_table.specs.Request.{Request, Table, Xterm, Sets, SetsAlone, Switches, Repeats, Aligns, Replies}
use Rattle.terminal_table.specs.Request.{Nothing}
use Rattle.terminal_table.specs.Requests.{request_of}
use Rattle.terminal_table.specs.Runs.{run_screen}
use Rattle.terminal_table.specs.State.{State}

-- ---- runs

-- whether an event ends the held run
abbrev pub ends_run : Event → Bool
ends_run (Act action) = not (is_print action)
ends_run Looked = true
ends_run (Resized width height) = true
ends_run (Forgot number) = false

-- the clusters of the held run
abbrev pub run_strokes : View → List Stroke
run_strokes view = map Cluster (clusters view.held)

-- the view before the event's own effect: after the held run, if the event ends the run
abbrev pub run_ended : (List ℕ → ℕ) → View → Event → View
run_ended width_of view event = if ends_run event then settled width_of view else view

-- ---- what is printed

-- the texts that an event prints: those of the run that it ends
abbrev pub event_prints : (List ℕ → ℕ) → View → Event → List PlacedText
event_prints width_of view event =
    if ends_run event then strokes_print width_of view.state.screen (run_strokes view) else []

-- the texts that events print in turn
abbrev pub events_print : (List ℕ → ℕ) → View → List Event → List PlacedText
events_print width_of view [] = []
events_print width_of view (event ∷ events) =
    event_prints width_of view event ++ events_print width_of (event_done width_of view event) events

-- a stream that is read to its end: a look ends its last run
abbrev pub read : List ℕ → History
read bytes = Piece bytes ∷ Look ∷ []

-- the texts that a stream prints that goes on from a view
abbrev pub prints : (List ℕ → ℕ) → View → List ℕ → List PlacedText
prints width_of view bytes = events_print width_of view (events view.stream (read bytes))

-- ---- plain streams

-- whether a control function scrolls
abbrev pub function_scrolls : ControlFunction → Screen → Bool
function_scrolls LineFeed screen = screen.row + 1 == height screen
function_scrolls NextRow screen = screen.row + 1 == height screen
function_scrolls ReverseIndex screen = screen.row == 0
function_scrolls (ScrollUp n) screen = true
function_scrolls (ScrollDown n) screen = true
function_scrolls _ screen = false

-- whether what an action asks for scrolls, and whether an event by itself does; a function of xterm's own is logged as
-- what it changes, and not as a scroll; a cluster that is repeated may scroll
abbrev pub request_scrolls : Option Request → Screen → Bool
request_scrolls None screen = false
request_scrolls (Some (Table function)) screen = function_scrolls function screen
request_scrolls (Some (Xterm function)) screen = false
request_scrolls (Some (Sets setting function)) screen = function_scrolls function screen
request_scrolls (Some (SetsAlone setting)) screen = false
request_scrolls (Some (Switches function)) screen = false
request_scrolls (Some (Repeats count)) screen = true
request_scrolls (Some Aligns) screen = false
request_scrolls (Some (Replies text)) screen = false
request_scrolls (Some Nothing) screen = false

abbrev pub event_scrolls : Event → State → Bool
event_scrolls (Act action) state = request_scrolls (request_of state.modes state.screen action) state.screen
event_scrolls _ state = false

-- An event by itself changes no row, and neither it nor a run that it ends scrolls; the run is put as on a plain
-- terminal.
pub record IsPlainEvent (width_of : List ℕ → ℕ) (view : View) (event : Event) : Type 0 where
  pub rows : (event_done width_of view event).state.screen.rows ≡ (run_ended width_of view event).state.screen.rows
  pub still : event_scrolls event (run_ended width_of view event).state ≡ false
  pub run : ends_run event ≡ true → strokes_scroll width_of view.state.screen (run_strokes view) ≡ false
  pub put : ends_run event ≡ true
      → run_screen view.state.modes width_of view.state.screen view.held ≡ put_run width_of view.state.screen view.held

abbrev pub ArePlainEvents : (List ℕ → ℕ) → View → List Event → Type 0
ArePlainEvents width_of view [] = ⊤
ArePlainEvents width_of view (event ∷ events) =
    IsPlainEvent width_of view event × ArePlainEvents width_of (event_done width_of view event) events

-- a stream that goes on from a view is plain
abbrev pub IsPlain : (List ℕ → ℕ) → View → List ℕ → Type 0
IsPlain width_of view bytes = ArePlainEvents width_of view (events view.stream (read bytes))
