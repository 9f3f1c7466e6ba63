-- A recording that is played to a terminal.
use Rattle.std.specs.Prelude.{ℕ, Bool, nat_le, List, [], ◌∷◌, ◌++◌, map, take, drop}
use Rattle.std.specs.List.{prefix_len}
use Rattle.cell_base.specs.Cluster.{program_width}
use Rattle.cell_base.specs.Screen.{Screen}
use Rattle.recordings.specs.Events as recorded
use Rattle.terminal_table.specs.History.{History, Step, Piece, Look, Resize}
use Rattle.terminal_table.specs.Meaning.{View, after}

-- the step of a terminal's history for an event's act
abbrev pub step_of : recorded.Act → Step
step_of (recorded.Output bytes) = Piece bytes
step_of (recorded.Resize width height) = Resize width height

abbrev pub steps_of : List recorded.Event → History
steps_of events = map (λ (event : recorded.Event). step_of event.act) events

-- whether an event is at a time or before it
abbrev pub is_by : ℕ → recorded.Event → Bool
is_by time event = nat_le event.time time

-- the events at a time or before it, and the events after it; no event is before the event before it
abbrev pub until : ℕ → List recorded.Event → List recorded.Event
until time events = take (prefix_len (is_by time) events) events

abbrev pub events_after : ℕ → List recorded.Event → List recorded.Event
events_after time events = drop (prefix_len (is_by time) events) events

-- a view after the events up to a time, and a look at that time
unfoldable pub view_at : View → List recorded.Event → ℕ → View
view_at view events time = after program_width view (steps_of (until time events) ++ Look ∷ [])

-- the screens at some times, with a look for each, in order
abbrev pub screens_at : View → List recorded.Event → List ℕ → List Screen
screens_at view events [] = []
screens_at view events (time ∷ times) =
    (view_at view events time).state.screen ∷ screens_at (view_at view events time) (events_after time events) times
