-- Events in the order of their times.
use Rattle.std.specs.Prelude.{ℕ, ◌≤◌, ⊤, List, [], ◌∷◌}
use Rattle.recordings.specs.Events.{Event}

-- no event is before `time`, or before the event before it
abbrev pub AreFrom : ℕ → List Event → Type 0
AreFrom time [] = ⊤
AreFrom time (event ∷ events) = (time ≤ event.time) × AreFrom event.time events
