-- The items that the bytes of one call hand out: texts, which are lent from the bytes, and single dispatches.
use Rattle.std.specs.Prelude.{◌≡◌, ◌≢◌, ◌≤◌, ◌<◌, ℕ, ◌+◌, ◌-◌, Bool, true, false, not, ◌&&◌, ◌||◌, nat_le, ◌==◌, List}
use Rattle.std.specs.Prelude.{[], ◌∷◌, ◌++◌, length, map, take, drop, encode_utf8, encode_utf8_all, if◌then◌else◌}
use Rattle.std.specs.Char.{IsScalar}
use Rattle.escape_framing.specs.Segment.{IsPrintable}
use Rattle.escape_framing.specs.Dispatch.{Dispatch, Print, Control, Escape, ControlSequence, OperatingSystemCommand}
use Rattle.escape_framing.specs.Dispatch.{Enter, Data, Exit}
use Rattle.escape_framing.specs.Held.{Kept, InCharacter, InEscape, InControlSequence, InCommand, InHeader, InDevice}
use Rattle.escape_framing.specs.Held.{InString, Held, held_step, hand_out, held_of}

-- a text, with the count of the stream's bytes before it; or a dispatch
pub data Framed : Type 0 where
  Text : ℕ → List ℕ → Framed
  Single : Dispatch → Framed

-- A character is lent where all its bytes follow the start of the call. U+FFFD never is, since it also replaces bytes
-- that are ill-formed.
abbrev pub is_lent : ℕ → ℕ → ℕ → Bool
is_lent start offset c = not (c == 0xFFFD) && nat_le (start + length (encode_utf8 c)) offset

-- a text before the rest, joined to the first text of the rest where that begins where it ends
abbrev pub put_text : ℕ → List ℕ → List Framed → List Framed
put_text from text [] = Text from text ∷ []
put_text from text (Single d ∷ rest) = Text from text ∷ Single d ∷ rest
put_text from text (Text next more ∷ rest) =
    if next == from + length text then Text from (text ++ more) ∷ rest else Text from text ∷ Text next more ∷ rest

-- a character before the rest
abbrev pub put_character : ℕ → ℕ → ℕ → List Framed → List Framed
put_character start offset c rest =
    if is_lent start offset c then put_text (offset - length (encode_utf8 c)) (encode_utf8 c) rest
    else Single (Print c) ∷ rest

abbrev pub put_dispatch : ℕ → ℕ → Dispatch → List Framed → List Framed
put_dispatch start offset (Print c) rest = put_character start offset c rest
put_dispatch start offset (Control b) rest = Single (Control b) ∷ rest
put_dispatch start offset (Escape intermediate final) rest = Single (Escape intermediate final) ∷ rest
put_dispatch start offset (ControlSequence tokens truncated final) rest =
    Single (ControlSequence tokens truncated final) ∷ rest
put_dispatch start offset (OperatingSystemCommand body) rest = Single (OperatingSystemCommand body) ∷ rest
put_dispatch start offset (Enter header final) rest = Single (Enter header final) ∷ rest
put_dispatch start offset (Data b) rest = Single (Data b) ∷ rest
put_dispatch start offset Exit rest = Single Exit ∷ rest

-- the items of the placed dispatches of a call whose bytes begin at `start`: adjacent characters are one text
abbrev pub framed : ℕ → List (ℕ × Dispatch) → List Framed
framed start [] = []
framed start (p ∷ placed) = put_dispatch start p.0 p.1 (framed start placed)

-- dispatches at one offset
abbrev pub at_offset : ℕ → List Dispatch → List (ℕ × Dispatch)
at_offset offset dispatches = map (λ d. (offset, d)) dispatches

-- the placed dispatches of bytes, after `count` bytes of which `held` is held
unfoldable pub placed_after : ℕ → Held → List ℕ → List (ℕ × Dispatch)
placed_after count held [] = []
placed_after count held (b ∷ bytes) =
    let first = held_step held b in at_offset (count + 1) first.dispatches ++ placed_after (count + 1) first.held bytes

-- a C2, where it waits
abbrev pub lead_in : Bool → List ℕ
lead_in waiting = if waiting then 0xC2 ∷ [] else []

abbrev pub bytes_begun : Kept → Bool → List ℕ
bytes_begun (InCharacter bytes) waiting = bytes ++ lead_in waiting
bytes_begun (InEscape xs) waiting = lead_in waiting
bytes_begun (InControlSequence p) waiting = lead_in waiting
bytes_begun (InCommand body) waiting = []
bytes_begun (InHeader header) waiting = lead_in waiting
bytes_begun InDevice waiting = []
bytes_begun InString waiting = []

abbrev pub kept_takes : Kept → Bool → ℕ → Bool
kept_takes (InCharacter bytes) waiting b = true
kept_takes (InEscape xs) waiting b = waiting || nat_le 0x80 b
kept_takes (InControlSequence p) waiting b = waiting || nat_le 0x80 b
kept_takes (InCommand body) waiting b = false
kept_takes (InHeader header) waiting b = waiting || nat_le 0x80 b
kept_takes InDevice waiting b = false
kept_takes InString waiting b = false

-- the items of the bytes that follow the first `count`, of which `held` is held, in a call whose bytes begin at `start`
abbrev pub framed_after : ℕ → ℕ → Held → List ℕ → List Framed
framed_after start count held bytes = framed start (placed_after count held bytes)

-- a character of which a text is made
abbrev pub IsLendable : ℕ → Type 0
IsLendable c = IsScalar c × IsPrintable c × (c ≢ 0xFFFD)

-- lendable characters, one after the other
pub data IsText : List ℕ → Type 0 where
  no_text : IsText []
  text_of : (c : ℕ) (more : List ℕ) → IsLendable c → IsText more → IsText (encode_utf8 c ++ more)

-- no lendable character is at the start
pub record BeginsNoText (bytes : List ℕ) : Type 0 where
  pub none : (c : ℕ) (more : List ℕ) → IsLendable c → bytes ≢ encode_utf8 c ++ more

-- the first bytes of a character that are held: also a C2 that waits, unless it belongs to a body
abbrev pub begun_bytes : Held → List ℕ
begun_bytes held = bytes_begun held.kept held.waiting

-- A character that has begun and that can become one to lend has begun before the start of the call.
pub record IsCarried (start count : ℕ) (held : Held) (rest : List ℕ) : Type 0 where
  pub carried : (c : ℕ) (more : List ℕ) → IsLendable c → begun_bytes held ++ rest ≡ encode_utf8 c ++ more
      → begun_bytes held ≢ [] → count < start + length (begun_bytes held)

-- this is held of some stream
abbrev pub IsReached : Held → Type 0
IsReached held = (stream : List ℕ) × (held ≡ held_of stream)

-- In every call of which `count` bytes were read and left `held`: the bytes hand out `items`, and then what the bytes
-- after the first n of them hand out after `after`.
pub record Frames (count : ℕ) (held : Held) (bytes : List ℕ) (items : ℕ → List Framed) (n : ℕ) (after : Held) : Type 0
  where
    pub within : n ≤ length bytes
    pub lends : (start : ℕ)
        → framed_after start (start + count) held bytes
        ≡ items (start + count) ++ framed_after start (start + count + n) after (drop n bytes)
    pub keeps : (hand_out held bytes).held ≡ (hand_out after (drop n bytes)).held
    pub reached : IsReached after
    pub carried : IsCarried 0 (count + n) after (drop n bytes)

-- ---- how texts are found

-- the first n bytes are the character at the start, which is lendable; n is 0 where there is none
pub record IsCharacterLen (bytes : List ℕ) (n : ℕ) : Type 0 where
  pub none : n ≡ 0 → BeginsNoText bytes
  pub some : 0 < n
      → (c : ℕ) × (more : List ℕ) × IsLendable c × (bytes ≡ encode_utf8 c ++ more) × (length (encode_utf8 c) ≡ n)

-- the first n bytes are a text; n is 0 only where no text can begin there
pub record IsRunLen (bytes : List ℕ) (n : ℕ) : Type 0 where
  pub none : n ≡ 0 → BeginsNoText bytes
  pub text : IsText (take n bytes)
  pub within : n ≤ length bytes

-- the first n bytes are a text, and no text follows them
pub record IsTextLen (bytes : List ℕ) (n : ℕ) : Type 0 where
  pub within : n ≤ length bytes
  pub text : IsText (take n bytes)
  pub rest : BeginsNoText (drop n bytes)

-- whether a character at the start can be one of a text: no body is open, and its first byte is no byte of an open
-- sequence
abbrev pub takes_text : Held → ℕ → Bool
takes_text held b = kept_takes held.kept held.waiting b

-- ---- what texts are

-- the dispatches, where each text is printed character by character; no text is empty
pub data Spells : List Framed → List Dispatch → Type 0 where
  nothing : Spells [] []
  alone : (d : Dispatch) (items : List Framed) (ds : List Dispatch) → Spells items ds
      → Spells (Single d ∷ items) (d ∷ ds)
  in_text : (from c : ℕ) (cs text : List ℕ) (items : List Framed) (ds all : List Dispatch)
      → text ≡ encode_utf8_all (c ∷ cs) → all ≡ map Print (c ∷ cs) ++ ds → Spells items ds
      → Spells (Text from text ∷ items) all

-- other bytes lie between two adjacent texts
abbrev pub AreSeparate : List Framed → Type 0
AreSeparate [] = Unit {0}
AreSeparate (Single d ∷ items) = AreSeparate items
AreSeparate (Text from text ∷ []) = Unit {0}
AreSeparate (Text from text ∷ Single d ∷ items) = AreSeparate items
AreSeparate (Text from text ∷ Text next more ∷ items) =
    (next ≢ from + length text) × AreSeparate (Text next more ∷ items)
