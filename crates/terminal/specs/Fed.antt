-- The bytes of an input that were fed to a terminal, which forgets the changes and the replies that nobody reads.
use Rattle.std.specs.Prelude.{◌≡◌, ◌≤◌, ◌^◌, ℕ, List, [], ◌∷◌, ◌++◌, Option, Some, None}
use Rattle.std.specs.Io.KnownBytes.{Appends}
use Rattle.cell_base.specs.Screen.{screen_text}
use Rattle.terminal.specs.Shown.{AppendsPrefix}
use Rattle.terminal.specs.Written.{IsAt, IsCounted}
use Rattle.terminal.specs.Terminal.{Terminal}
use Rattle.terminal_table.specs.History.{History, Piece, Look}
use Rattle.terminal_viewers.specs.Updates.{Standing, standing_after}
use Rattle.terminal_viewers.specs.Viewers.{AnswersAs}

-- from a number on a terminal answers viewers as one at the standing `whole`, which keeps all changes
pub record AnswersAt {W : Type 0} (number : ℕ) (t : Terminal W) (whole : Standing) : Type 0 where
  pub kept : Standing
  pub at : IsAt t kept
  pub answers : AnswersAs number kept whole

-- from the current number on a terminal answers viewers as one at the standing `whole`
abbrev pub AnswersNow : {W : Type 0} → Terminal W → Standing → Type 0
AnswersNow t whole = AnswersAt whole.log.log.number t whole

-- the terminal has read some bytes: from whatever standing, it now answers as one that has read them and keeps all
-- changes
pub record IsFed {W : Type 0} (width_of : W → List ℕ → ℕ) (bytes : List ℕ) (before now : Terminal W) : Type 0 where
  pub answers : (start : Standing) → IsAt before start → IsCounted start
      → AnswersNow now (standing_after (width_of before.surface.grid.widths) start (Piece bytes ∷ []))
  pub widths : now.surface.grid.widths ≡ before.surface.grid.widths

-- the terminal has read some bytes of an input, and `rest` is left
pub record HasFed {W : Type 0} (width_of : W → List ℕ → ℕ) (input rest : List ℕ) (before now : Terminal W) : Type 0
  where
    pub fed : List ℕ
    pub whole : input ≡ fed ++ rest
    pub is : IsFed width_of fed before now

abbrev pub FeedsOn : {W : Type 0} → (W → List ℕ → ℕ) → Option (List ℕ) → Option (List ℕ) → Terminal W → Terminal W
    → Type 0
FeedsOn width_of None rest before now = Unit {0}
FeedsOn width_of (Some input) None before now = ⊥
FeedsOn width_of (Some input) (Some rest) before now = HasFed width_of input rest before now

-- all of the input was fed, if the input is known
abbrev pub Feeds : {W : Type 0} → (W → List ℕ → ℕ) → Option (List ℕ) → Terminal W → Terminal W → Type 0
Feeds width_of None before now = Unit {0}
Feeds width_of (Some input) before now = IsFed width_of input before now

-- From whatever standing, the terminal answers viewers, from the current number on, as one that has gone on by the history
-- of an input and keeps all changes, if the input is known.
abbrev pub Reads : {W : Type 0} → (W → List ℕ → ℕ) → (List ℕ → History) → Terminal W → Option (List ℕ) → Terminal W
    → Type 0
Reads width_of history_of before None now = Unit {0}
Reads width_of history_of before (Some input) now =
    (start : Standing) → IsAt before start → IsCounted start
    → AnswersNow now (standing_after (width_of before.surface.grid.widths) start (history_of input))

-- the rows of the screen to which an input leads from a standing, with one look at the end, each with a line feed after
-- it
abbrev pub rows_after : (List ℕ → ℕ) → Standing → List ℕ → List ℕ
rows_after width_of start input =
    screen_text (standing_after width_of start (Piece input ∷ Look ∷ [])).view.state.screen

-- From whatever standing, the bytes that were written are the rows of the screen to which an input leads, with one look
-- at the end; or they are a prefix of these, if the input is known.
abbrev pub ShowsRows : {W : Type 0} → (W → List ℕ → ℕ) → Terminal W → Option (List ℕ) → Option (List ℕ)
    → Option (List ℕ) → Type 0
ShowsRows width_of before None old new = Unit {0}
ShowsRows width_of before (Some input) old new =
    (start : Standing) → IsAt before start → IsCounted start
    → Appends old new (rows_after (width_of before.surface.grid.widths) start input)

abbrev pub ShowsSomeRows : {W : Type 0} → (W → List ℕ → ℕ) → Terminal W → Option (List ℕ) → Option (List ℕ)
    → Option (List ℕ) → Type 0
ShowsSomeRows width_of before None old new = Unit {0}
ShowsSomeRows width_of before (Some input) old new =
    (start : Standing) → IsAt before start → IsCounted start
    → AppendsPrefix old new (rows_after (width_of before.surface.grid.widths) start input)

-- the number after feeding an input doesn't fit in 64 bits, if the input is known
abbrev pub FeedingNeedsNumber : {W : Type 0} → (W → List ℕ → ℕ) → Option (List ℕ) → Terminal W → Type 0
FeedingNeedsNumber width_of None before = Unit {0}
FeedingNeedsNumber width_of (Some input) before =
    (start : Standing) → IsAt before start → IsCounted start
    → 2 ^ 64 ≤ (standing_after (width_of before.surface.grid.widths) start (Piece input ∷ [])).log.log.number
