-- A log of numbered changes, and the changes that are due to a viewer who has seen the first ones.
use Rattle.std.specs.Option.{option_map}
use Rattle.std.specs.Prelude.{min, ◌^◌, ℕ, ◌+◌, ◌-◌, ◌*◌, ◌/◌, ◌||◌, ◌==◌, nat_lt, List, [], ◌∷◌, ◌++◌, length, drop}
use Rattle.std.specs.Prelude.{Option, Some, None, if◌then◌else◌}
use Rattle.screen_change.specs.ChangeValue.{ChangeValue}

-- the number of changes so far, and the last of them, in order
pub record Log : Type 0 where
  pub number : ℕ
  pub entries : List ChangeValue

-- the empty log
abbrev pub new_log : Log
new_log = record { number = 0; entries = [] }

-- the number after which the entries begin
abbrev pub first_number : Log → ℕ
first_number log = log.number - length log.entries

-- how many changes are due at most for a screen's size, cut at 2^64 - 1; where more would be, a repaint is shorter
abbrev pub most_due : ℕ → ℕ → ℕ
most_due width height = min (3 + (6 * width * height) / 5) (2 ^ 64 - 1)

-- the log with one change more
abbrev pub logged : ChangeValue → Log → Log
logged change log = record { number = log.number + 1; entries = log.entries ++ change ∷ [] }

-- only the last entries, at most `most`
abbrev pub kept : ℕ → Log → Log
kept most log = record log { entries = drop (length log.entries - most) log.entries }

-- drops the entries before a number; none where the number is above the log's
abbrev pub forgotten : ℕ → Log → Log
forgotten number log =
    if nat_lt log.number number then log else record log { entries = drop (number - first_number log) log.entries }

-- the log after a new size: where it isn't empty its number rises by one, and it is emptied
abbrev pub resized_log : Log → Log
resized_log log = elim log.entries [ [] ↦ log | ◌∷◌ change changes ↦ record { number = log.number + 1; entries = [] } ]

-- the entries from a number on. None, so that a repaint is due, at 0, before the first entry, above the log's number,
-- and where there are more than `most`
abbrev pub due : ℕ → Log → ℕ → Option (List ChangeValue)
due most log number =
    if number == 0 || nat_lt number (first_number log) || nat_lt log.number number || nat_lt most (log.number - number)
    then None
    else Some (drop (number - first_number log) log.entries)

-- after one more change: the changes due before it, and the change, as long as at most `most` are due
abbrev pub due_after : ℕ → Log → ChangeValue → ℕ → Option (List ChangeValue)
due_after most log change number =
    if nat_lt most (log.number + 1 - number) then None
    else option_map (λ changes. changes ++ change ∷ []) (due most log number)
