-- When a terminal has no number left for a change, or is refused memory.
use Rattle.std.specs.Prelude.{◌≡◌, ◌≢◌, ◌⊎◌, ◌≤◌, ◌<◌, ◌^◌, ℕ, Bool, true, List, [], ◌∷◌, ◌++◌, length, Option, Some}
use Rattle.std.specs.Prelude.{None}
use Rattle.escape_stream.specs.Items.{items}
use Rattle.terminal.specs.Headline.{StandsAt, final_log}
use Rattle.terminal.specs.Terminal.{Terminal}
use Rattle.terminal.specs.Written.{IsAt, IsCounted, IsPartRead}
use Rattle.terminal_steps.specs.Items.{ParserNeedsMemory, SomeNeedsMemory}
use Rattle.terminal_steps.specs.Memory.{TakesMemory}
use Rattle.terminal_table.specs.History.{History, Piece, Look, Looked, pieces}
use Rattle.terminal_table.specs.Meaning.{View}
use Rattle.terminal_viewers.specs.Updates.{Standing, in_chunks, looks, standing_after}

-- the number after the history doesn't fit in 64 bits
abbrev pub NeedsNumber : {W : Type 0} → (W → List ℕ → ℕ) → Terminal W → History → Type 0
NeedsNumber width_of t history =
    (view : View) → StandsAt t view → 2 ^ 64 ≤ (final_log width_of t view history).log.number

-- A look at a standing is refused memory, and `failed` is whether the terminal has failed then. It isn't plain: the
-- first change of its held run has a number, and memory may be refused before a later one that has none.
abbrev pub LookTakesMemory : (List ℕ → ℕ) → Standing → Bool → Type 0
LookTakesMemory width_of s failed =
    (s.view.state.modes ≢ None) × TakesMemory width_of s.view s.log Looked failed

-- the number after a look fits in 64 bits; or the look is refused memory, after which the terminal has failed or hasn't
abbrev pub HasNumbersToLook : {W : Type 0} → (W → List ℕ → ℕ) → Terminal W → Bool → Type 0
HasNumbersToLook width_of t failed =
    (view : View) → StandsAt t view
    → ((final_log width_of t view (Look ∷ [])).log.number < 2 ^ 64)
    ⊎ LookTakesMemory (width_of t.surface.grid.widths) (record { view = view; log = t.surface.log }) failed

-- Feeding bytes at a standing is refused memory, and `failed` is whether the surface has failed then: the parser takes
-- memory for the bytes; or the terminal takes memory for one of their texts and actions, after those before it, which
-- had numbers for their changes.
abbrev pub FeedTakesMemory : (List ℕ → ℕ) → Standing → List ℕ → Bool → Type 0
FeedTakesMemory width_of s bytes failed =
    ParserNeedsMemory width_of s.view s.log s.view.stream bytes
    ⊎ SomeNeedsMemory width_of s.view s.log (items s.view.stream bytes) failed

-- feeding bytes to a terminal is refused memory
abbrev pub NeedsMemory : {W : Type 0} → (W → List ℕ → ℕ) → Terminal W → List ℕ → Terminal W → Type 0
NeedsMemory width_of before bytes after = (view : View) → StandsAt before view
    → FeedTakesMemory (width_of before.surface.grid.widths) (record { view = view; log = before.surface.log }) bytes
    after.surface.is_failed

-- ---- an input that is read

-- a terminal's history: it reads the input, and one look is taken, at the end
abbrev pub one_look : List ℕ → History
one_look input = Piece input ∷ Look ∷ []

-- a terminal's history: it reads the input, and a look is taken after each chunk and at the end
abbrev pub all_looks : ℕ → List ℕ → History
all_looks every input = looks (in_chunks every [] input)

-- the bytes of the last read, at most 4,096, are refused memory after the bytes that were read before, without the look
-- at the end of those
pub record LastTakesMemory (width_of : List ℕ → ℕ) (start : Standing) (history_of : List ℕ → History) (read : List ℕ)
    : Type 0 where
  pub before : List ℕ
  pub last : List ℕ
  pub whole : read ≡ before ++ last
  pub at_most : length last ≤ 4096
  pub history : History
  pub looked : history_of before ≡ history ++ Look ∷ []
  pub failed : Bool
  pub takes : FeedTakesMemory width_of (standing_after width_of start history) last failed

-- the look after all that was read is refused memory; no bytes are read after it
pub record LastLookTakesMemory (width_of : List ℕ → ℕ) (start : Standing) (history_of : List ℕ → History)
    (read : List ℕ) : Type 0 where
  pub history : History
  pub rest : History
  pub whole : history_of read ≡ history ++ Look ∷ rest
  pub last : pieces rest ≡ []
  pub takes : LookTakesMemory width_of (standing_after width_of start history) true

-- Memory is refused when a part of an input was read: feeding the bytes of the last read is refused memory; or on a
-- terminal that isn't plain the look after them is; or the number after all that was read, with its looks, fits in 64
-- bits.
pub record IsRefusedMemory (width_of : List ℕ → ℕ) (start : Standing) (history_of : List ℕ → History) (input : List ℕ)
    (left : Option (List ℕ)) : Type 0 where
  pub part : IsPartRead input left
  pub why : LastTakesMemory width_of start history_of part.read
      ⊎ LastLookTakesMemory width_of start history_of part.read
      ⊎ ((standing_after width_of start (history_of part.read)).log.log.number < 2 ^ 64)

-- reading an input is refused memory on a terminal, from whatever standing, if the input is known
abbrev pub ReadingIsRefusedMemory : {W : Type 0} → (W → List ℕ → ℕ) → (List ℕ → History) → Terminal W
    → Option (List ℕ) → Option (List ℕ) → Type 0
ReadingIsRefusedMemory width_of history_of before None left = Unit {0}
ReadingIsRefusedMemory width_of history_of before (Some input) left =
    (start : Standing) → IsAt before start → IsCounted start
    → IsRefusedMemory (width_of before.surface.grid.widths) start history_of input left

-- the number after reading an input doesn't fit in 64 bits, from whatever standing, if the input is known
abbrev pub ReadingNeedsNumber : {W : Type 0} → (W → List ℕ → ℕ) → (List ℕ → History) → Terminal W → Option (List ℕ)
    → Type 0
ReadingNeedsNumber width_of history_of before None = Unit {0}
ReadingNeedsNumber width_of history_of before (Some input) =
    (start : Standing) → IsAt before start → IsCounted start
    → 2 ^ 64 ≤ (standing_after (width_of before.surface.grid.widths) start (history_of input)).log.log.number
