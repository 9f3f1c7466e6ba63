-- What `run` writes of an input.
use Rattle.std.specs.Prelude.{◌≡◌, ℕ, ◌≤◌, ◌^◌, ◌==◌, List, [], ◌∷◌, ◌++◌, length, Option, Some, None, if◌then◌else◌}
use Rattle.std.specs.Io.KnownBytes.{Appends}
use Rattle.cell_surface.specs.Surface.{number_of}
use Rattle.terminal.specs.Shown.{AppendsPrefix}
use Rattle.terminal.specs.Headline.{StandsAt, GoesBy}
use Rattle.terminal.specs.Terminal.{Terminal}
use Rattle.terminal_table.specs.History.{Look, Forget}
use Rattle.terminal_viewers.specs.Update.{update_of}
use Rattle.terminal_viewers.specs.Updates.{Standing, in_chunks, looks, standing_after, updates_after}

-- a terminal stands at a view, with a log
pub record IsAt {W : Type 0} (t : Terminal W) (s : Standing) : Type 0 where
  pub stands : StandsAt t s.view
  pub log : t.surface.log ≡ s.log

-- each change that the log keeps has a number
abbrev pub IsCounted : Standing → Type 0
IsCounted s = length s.log.log.entries ≤ s.log.log.number

-- ---- one update

abbrev pub looked : (List ℕ → ℕ) → Standing → Standing
looked width_of s = standing_after width_of s (Look ∷ [])

-- a standing whose changes before a number are forgotten, and whose replies are dropped
abbrev pub lightened : (List ℕ → ℕ) → ℕ → Standing → Standing
lightened width_of number s =
    let t = standing_after width_of s (Forget number ∷ []) in
    record t { view = record t.view { state = record t.view.state { replies = [] } } }

-- a terminal forgets the changes before a number, and drops its replies
pub record Lightens {W : Type 0} (width_of : W → List ℕ → ℕ) (before now : Terminal W) (number : ℕ) : Type 0 where
  pub forgotten : Terminal W
  pub goes : GoesBy width_of before forgotten (Forget number ∷ [])
  pub dropped : now ≡ record forgotten { replies = [] }

-- the number from which on the log must keep changes for a viewer at a number; a viewer at number 0 needs none, since
-- it gets the whole screen
abbrev pub due_from : {W : Type 0} → Terminal W → ℕ → ℕ
due_from t number = if number == 0 then number_of t.surface else number

-- the update for a viewer at a number
abbrev pub update_at : Standing → ℕ → List ℕ
update_at s number = update_of s.view.state.screen s.log number

-- after a look the update was written; `next` is the number that the viewer then holds, and the changes before it are
-- forgotten
pub record UpdateWritten {W : Type 0} (width_of : List ℕ → ℕ) (s : Standing) (number next : ℕ) (now : Terminal W)
    (old new : Option (List ℕ)) : Type 0 where
  pub appends : Appends old new (update_at (looked width_of s) number)
  pub next_is : next ≡ (looked width_of s).log.log.number
  pub at : IsAt now (lightened width_of next (looked width_of s))

abbrev pub Sends : {W : Type 0} → (W → List ℕ → ℕ) → Terminal W → Terminal W → ℕ → ℕ → Option (List ℕ) → Option (List ℕ)
    → Type 0
Sends width_of before now number next old new =
    (s : Standing) → IsAt before s → UpdateWritten (width_of before.surface.grid.widths) s number next now old new

-- a prefix of the update was written
abbrev pub SendsSome : {W : Type 0} → (W → List ℕ → ℕ) → Terminal W → ℕ → Option (List ℕ) → Option (List ℕ) → Type 0
SendsSome width_of before number old new =
    (s : Standing) → IsAt before s
    → AppendsPrefix old new (update_at (looked (width_of before.surface.grid.widths) s) number)

-- ---- all updates of an input

-- the updates of an input from a standing on, for a viewer at number 0
abbrev pub updates_from : (List ℕ → ℕ) → ℕ → Standing → List ℕ → List ℕ
updates_from width_of every start input = updates_after width_of start 0 (in_chunks every [] input)

-- the number of updates: one after each full chunk, and one at the end
abbrev pub update_count : ℕ → List ℕ → ℕ
update_count every input = length (in_chunks every [] input)

abbrev pub SendsAll : {W : Type 0} → (W → List ℕ → ℕ) → ℕ → Terminal W → Option (List ℕ) → Option (List ℕ)
    → Option (List ℕ) → Type 0
SendsAll width_of every before None old new = Unit {0}
SendsAll width_of every before (Some input) old new =
    (start : Standing) → IsAt before start → IsCounted start
    → Appends old new (updates_from (width_of before.surface.grid.widths) every start input)

-- some bytes of an input were read, and the rest is left
pub record IsPartRead (input : List ℕ) (left : Option (List ℕ)) : Type 0 where
  pub read : List ℕ
  pub rest : List ℕ
  pub whole : input ≡ read ++ rest
  pub remaining : left ≡ Some rest

-- a part of an input was read, and the bytes that were written are a prefix of the updates of that part, and of the
-- updates of the whole input
pub record SendsPart (width_of : List ℕ → ℕ) (every : ℕ) (start : Standing) (input : List ℕ)
    (left old new : Option (List ℕ)) : Type 0 where
  pub part : IsPartRead input left
  pub of_read : AppendsPrefix old new (updates_from width_of every start part.read)
  pub of_input : AppendsPrefix old new (updates_from width_of every start input)

abbrev pub SendsFirst : {W : Type 0} → (W → List ℕ → ℕ) → ℕ → Terminal W → Option (List ℕ) → Option (List ℕ)
    → Option (List ℕ) → Option (List ℕ) → Type 0
SendsFirst width_of every before None left old new = Unit {0}
SendsFirst width_of every before (Some input) left old new =
    (start : Standing) → IsAt before start → IsCounted start
    → SendsPart (width_of before.surface.grid.widths) every start input left old new

-- a part of an input was read, and the bytes that were written are the updates of its full chunks, without the chunk
-- that had begun
pub record SendsChunks (width_of : List ℕ → ℕ) (every : ℕ) (start : Standing) (input : List ℕ)
    (left old new : Option (List ℕ)) : Type 0 where
  pub part : IsPartRead input left
  pub chunks : List (List ℕ)
  pub begun : List ℕ
  pub cut : in_chunks every [] part.read ≡ chunks ++ (begun ∷ [])
  pub appends : Appends old new (updates_after width_of start 0 chunks)

abbrev pub SendsChunksOf : {W : Type 0} → (W → List ℕ → ℕ) → ℕ → Terminal W → Option (List ℕ) → Option (List ℕ)
    → Option (List ℕ) → Option (List ℕ) → Type 0
SendsChunksOf width_of every before None left old new = Unit {0}
SendsChunksOf width_of every before (Some input) left old new =
    (start : Standing) → IsAt before start → IsCounted start
    → SendsChunks (width_of before.surface.grid.widths) every start input left old new

-- the number after an input with a look after each chunk
abbrev pub number_after : (List ℕ → ℕ) → ℕ → Standing → List ℕ → ℕ
number_after width_of every start input =
    (standing_after width_of start (looks (in_chunks every [] input))).log.log.number

-- the number after an input with a look after each chunk doesn't fit in 64 bits, if the input is known
abbrev pub LooksNeedNumber : {W : Type 0} → (W → List ℕ → ℕ) → ℕ → Terminal W → Option (List ℕ) → Type 0
LooksNeedNumber width_of every before None = Unit {0}
LooksNeedNumber width_of every before (Some input) =
    (start : Standing) → IsAt before start → IsCounted start
    → 2 ^ 64 ≤ number_after (width_of before.surface.grid.widths) every start input
