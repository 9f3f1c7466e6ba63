-- Definitions for the private functions of `characters`.
use Rattle.std.specs.Prelude.{◌≡◌, ◌≢◌, ℕ, true, false, List, [], ◌∷◌, ◌++◌, slice_index, is_none}
use Rattle.std.specs.Str.{is_utf8, chars}
use Rattle.std.specs.Str.Lossy.{utf8_error_len}
use Rattle.escape_framing.specs.Segment.{Begun, IsUnfinished}
use Rattle.escape_framing.specs.Decode.{segment_of}
use Rattle.escape_framing.specs.Dispatch as dispatch
use Rattle.escape_framing.specs.Dispatch.{Dispatch, dispatches_of}
use Rattle.escape_framing.specs.Held.{Kept, InCharacter, InEscape, Step, steps, before, character_step}
use Rattle.escape_framing.specs.declared.characters.Kind.{Kind}
use Rattle.escape_framing.specs.declared.characters.Kind.TheVariants as kind
use Rattle.escape_framing.specs.declared.characters.Own.{Own}
use Rattle.escape_framing.specs.declared.characters.Own.TheVariants as own

-- the bytes are the first ones of a character, and one byte more
abbrev pub IsAfterBegun : List ℕ → Type 0
IsAfterBegun bytes = (prefix : List ℕ) × (b : ℕ) × IsUnfinished (Begun prefix) × (bytes ≡ prefix ++ b ∷ [])

abbrev pub IsKind : List ℕ → Kind → Type 0
IsKind bytes (kind.Whole c) = (is_utf8 bytes ≡ true) × (slice_index (chars bytes) 0 ≡ c)
IsKind bytes kind.Begun = (is_utf8 bytes ≡ false) × (is_none (utf8_error_len bytes) ≡ true)
IsKind bytes kind.Broken = (is_utf8 bytes ≡ false) × (is_none (utf8_error_len bytes) ≡ false)

-- what a byte hands out by itself, and what is kept, where these bytes are the first ones of its character
abbrev pub own_step : Own → List ℕ → Step
own_step own.Waits bytes = steps [] (InCharacter bytes)
own_step own.Escape bytes = steps [] (InEscape [])
own_step (own.Print c) bytes = steps (dispatch.Print c ∷ []) (InCharacter [])
own_step (own.Control b) bytes = steps (dispatch.Control b ∷ []) (InCharacter [])
own_step own.Stray bytes = steps (dispatch.Print 0xFFFD ∷ []) (InCharacter [])

-- what a whole character hands out
abbrev pub segment_step : List ℕ → ℕ → Step
segment_step bytes c = steps (dispatches_of (segment_of bytes c)) (InCharacter [])

-- what is kept after a byte: an open escape sequence after ESC, else these bytes of a character
abbrev pub own_kept : Own → List ℕ → Kept
own_kept own.Escape bytes = InEscape []
own_kept _ bytes = InCharacter bytes

abbrev pub own_dispatches : Own → List Dispatch
own_dispatches o = (own_step o []).dispatches

-- what a byte hands out, and what is kept where these bytes are held after it
abbrev pub step_of : Own → List ℕ → Step
step_of o bytes = steps (own_dispatches o) (own_kept o bytes)

-- A byte breaks the character of these first bytes: it does what it does by itself, after U+FFFD.
pub record Breaks (bytes : List ℕ) (b : ℕ) : Type 0 where
  pub breaks : character_step bytes b ≡ before (dispatch.Print 0xFFFD ∷ []) (character_step [] b)
  pub some : bytes ≢ []
