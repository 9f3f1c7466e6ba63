-- What each call does with a terminal, and when it answers which code. The clauses are those of the terminal's own
-- calls.
use Rattle.std.specs.Prelude.{◌≡◌, ◌↔◌, ◌≤◌, ℕ, true, false, List, [], ◌∷◌, length, IsTrue, Option}
use Rattle.cell_base.specs.Cluster.{program_width}
use Rattle.cell_base.specs.ScreenSize.{IsScreenSize}
use Rattle.cell_base.specs.declared.widths.ProgramWidth.{ProgramWidth}
use Rattle.cell_surface.specs.Surface.{number_of}
use Rattle.screen_log.specs.Log.{most_due, new_log}
use Rattle.terminal.specs.Headline.{GoesBy, StandsAt}
use Rattle.terminal.specs.Refusals.{HasNumbersToLook, NeedsMemory, NeedsNumber}
use Rattle.terminal.specs.Terminal.{Terminal as TerminalOf}
use Rattle.terminal.specs.Viewing.{patch_from, update_for}
use Rattle.terminal_c.specs.Codes.{DONE, FAILED, is_among, MEMORY, NUMBER, OTHER_FAILED, RANGE, SIZE}
use Rattle.terminal_table.specs.History.{Forget, Look, Piece, Resize}
use Rattle.terminal_table.specs.Meaning.{new_view_with}
use Rattle.terminal_table.specs.Modes.{Modes}

abbrev pub Terminal : Type 0
Terminal = TerminalOf ProgramWidth

-- how many columns a text takes
abbrev pub widths : ProgramWidth → List ℕ → ℕ
widths _ text = program_width text

-- two terminals have screens of one size
pub record AreEven (one other : Terminal) : Type 0 where
  pub width : one.surface.grid.width ≡ other.surface.grid.width
  pub height : length one.surface.grid.lines ≡ length other.surface.grid.lines

-- a terminal is made
pub record Opens (modes : Option Modes) (width height : ℕ) (made : Terminal) : Type 0 where
  pub stands : StandsAt made (new_view_with modes width height)
  pub log : made.surface.log ≡ record { most = most_due width height; log = new_log }
  pub sound : made.is_failed ≡ false

-- bytes are fed
pub record Feeds (bytes : List ℕ) (before after : Terminal) (code : ℕ) : Type 0 where
  pub codes : is_among (DONE ∷ MEMORY ∷ NUMBER ∷ FAILED ∷ []) code ≡ true
  pub done : code ≡ DONE → GoesBy widths before after (Piece bytes ∷ [])
  pub failed : (code ≡ FAILED) ↔ IsTrue before.is_failed
  pub number : code ≡ NUMBER → NeedsNumber widths before (Piece bytes ∷ [])
  pub memory : code ≡ MEMORY → NeedsMemory widths before bytes after
  pub err : (code ≡ DONE → ⊥) → IsTrue after.is_failed
  pub nothing : bytes ≡ [] → before.is_failed ≡ false → code ≡ DONE

-- the held run ends
pub record Settles (before after : Terminal) (code : ℕ) : Type 0 where
  pub codes : is_among (DONE ∷ MEMORY ∷ NUMBER ∷ FAILED ∷ []) code ≡ true
  pub done : code ≡ DONE → GoesBy widths before after (Look ∷ [])
  pub failed : (code ≡ FAILED) ↔ IsTrue before.is_failed
  pub number : code ≡ NUMBER → NeedsNumber widths before (Look ∷ [])
  pub memory : code ≡ MEMORY → after.surface.is_failed ≡ true
  pub numbered : (code ≡ NUMBER → ⊥) → before.is_failed ≡ false → HasNumbersToLook widths before after.is_failed
  pub err : (code ≡ DONE → ⊥) → IsTrue after.is_failed
  pub nothing : before.run ≡ [] → before.is_failed ≡ false → code ≡ DONE
  pub size : code ≡ DONE → AreEven after before

-- the screen gets a size
pub record Resizes (width height : ℕ) (before after : Terminal) (code : ℕ) : Type 0 where
  pub codes : is_among (DONE ∷ MEMORY ∷ NUMBER ∷ FAILED ∷ SIZE ∷ []) code ≡ true
  pub size : (code ≡ SIZE) ↔ (IsScreenSize width height → ⊥)
  pub same : code ≡ SIZE → after ≡ before
  pub done : code ≡ DONE → GoesBy widths before after (Resize width height ∷ [])
  pub failed : (code ≡ FAILED) ↔ (IsScreenSize width height × IsTrue before.is_failed)
  pub number : code ≡ NUMBER → NeedsNumber widths before (Resize width height ∷ [])
  pub memory : code ≡ MEMORY → after.surface.is_failed ≡ true
  pub err : (code ≡ DONE → ⊥) → (code ≡ SIZE → ⊥) → IsTrue after.is_failed

-- the bytes for a viewer that has seen the changes before the number `since`, and the number of changes so far
pub record Updates (since : ℕ) (before after : Terminal) (now : ℕ) (bytes : List ℕ) (code : ℕ) : Type 0 where
  pub codes : is_among (DONE ∷ MEMORY ∷ NUMBER ∷ FAILED ∷ []) code ≡ true
  pub done : code ≡ DONE → GoesBy widths before after (Look ∷ [])
  pub answer : code ≡ DONE → now ≡ number_of after.surface
  pub sent : code ≡ DONE → bytes ≡ update_for after since
  pub failed : (code ≡ FAILED) ↔ IsTrue before.is_failed
  pub number : code ≡ NUMBER → NeedsNumber widths before (Look ∷ [])
  pub err : (code ≡ DONE → ⊥) → after.is_failed ≡ false → GoesBy widths before after (Look ∷ [])
  pub fails : code ≡ NUMBER → IsTrue after.is_failed
  pub memory : code ≡ MEMORY → after.is_failed ≡ true → after.surface.is_failed ≡ true
  pub numbered : (code ≡ NUMBER → ⊥) → before.is_failed ≡ false → HasNumbersToLook widths before after.is_failed
  pub stays : IsTrue before.is_failed → IsTrue after.is_failed
  pub nothing : before.run ≡ [] → before.is_failed ≡ false → after.is_failed ≡ false

-- the bytes for a viewer that shows the screen of the terminal `shown`, and the number of changes so far
pub record Patches (shown before after : Terminal) (now : ℕ) (bytes : List ℕ) (code : ℕ) : Type 0 where
  pub codes : is_among (DONE ∷ MEMORY ∷ NUMBER ∷ FAILED ∷ SIZE ∷ OTHER_FAILED ∷ []) code ≡ true
  pub done : code ≡ DONE → GoesBy widths before after (Look ∷ [])
  pub answer : code ≡ DONE → now ≡ number_of after.surface
  pub sent : code ≡ DONE → bytes ≡ patch_from after shown
  pub failed : (code ≡ FAILED) ↔ IsTrue before.is_failed
  pub other : (code ≡ OTHER_FAILED) ↔ ((before.is_failed ≡ false) × IsTrue shown.is_failed)
  pub size : (code ≡ SIZE)
      ↔ ((before.is_failed ≡ false) × (shown.is_failed ≡ false) × (AreEven shown before → ⊥))
  pub same : is_among (FAILED ∷ SIZE ∷ OTHER_FAILED ∷ []) code ≡ true → after ≡ before
  pub number : code ≡ NUMBER → NeedsNumber widths before (Look ∷ [])
  pub err : is_among (MEMORY ∷ NUMBER ∷ []) code ≡ true → after.is_failed ≡ false
      → GoesBy widths before after (Look ∷ [])
  pub fails : code ≡ NUMBER → IsTrue after.is_failed
  pub memory : code ≡ MEMORY → after.is_failed ≡ true → after.surface.is_failed ≡ true
  pub numbered : is_among (DONE ∷ MEMORY ∷ []) code ≡ true → HasNumbersToLook widths before after.is_failed
  pub nothing : before.run ≡ [] → before.is_failed ≡ false → after.is_failed ≡ false

-- changes are dropped from the log
pub record Forgets (before_number : ℕ) (before after : Terminal) (code : ℕ) : Type 0 where
  pub codes : is_among (DONE ∷ FAILED ∷ []) code ≡ true
  pub done : code ≡ DONE → GoesBy widths before after (Forget before_number ∷ [])
  pub failed : (code ≡ FAILED) ↔ IsTrue before.is_failed
  pub same : code ≡ FAILED → after ≡ before

-- the replies are handed out
pub record TakesReplies (before after : Terminal) (bytes : List ℕ) (code : ℕ) : Type 0 where
  pub done : code ≡ DONE
  pub replies : bytes ≡ before.replies
  pub none : after ≡ record before { replies = [] }

-- `wanted` is read from the screen
pub record Reads (wanted : List ℕ) (before after : Terminal) (bytes : List ℕ) (code : ℕ) : Type 0 where
  pub codes : is_among (DONE ∷ MEMORY ∷ FAILED ∷ []) code ≡ true
  pub same : after ≡ before
  pub failed : (code ≡ FAILED) ↔ IsTrue before.is_failed
  pub read : code ≡ DONE → bytes ≡ wanted

-- the screen is read: a part of it, or all in a format, the one of the number `at` of `count`
pub record ReadsPart (at count : ℕ) (before after : Terminal) (code : ℕ) : Type 0 where
  pub codes : is_among (DONE ∷ MEMORY ∷ FAILED ∷ RANGE ∷ []) code ≡ true
  pub same : after ≡ before
  pub failed : (code ≡ FAILED) ↔ IsTrue before.is_failed
  pub range : (code ≡ RANGE) ↔ ((before.is_failed ≡ false) × (count ≤ at))
