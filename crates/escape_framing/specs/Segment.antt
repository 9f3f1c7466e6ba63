-- The segments of a byte stream, as cases on whole byte strings (ECMA-48, 5 and 8.3; Unicode, table 3-7).
use Rattle.std.specs.Prelude.{◌≡◌, ◌≢◌, ℕ, ◌<◌, ◌≤◌, ◌⊎◌, Bool, true, false, not, ◌||◌, IsTrue, ◌==◌, List, [], ◌∷◌}
use Rattle.std.specs.Prelude.{◌++◌, if◌then◌else◌, encode_utf8}
use Rattle.std.specs.Char.{IsScalar}
use Rattle.std.specs.List.{flat_map, list_all, list_any}
use Rattle.escape_framing.specs.SevenBit.{seven_bit}
use Rattle.escape_framing.specs.Bytes.{is_stop, is_embedded, is_intermediate, is_final, is_escape_final}
use Rattle.escape_framing.specs.Bytes.{is_string_opener, is_opener, is_cut, in_escape, in_parameters, ends_command}

-- ---- What is open

-- What a stream can end in: nothing, the first bytes of a character, or a sequence that ESC has begun. The first list
-- of each sequence holds the bytes between ESC and the byte that opens it.
pub data Tail : Type 0 where
  -- the first bytes of a character, or none
  Begun : List ℕ → Tail
  -- ESC and intermediate bytes
  OpenEscape : List ℕ → Tail
  -- ESC [ and parameter bytes
  OpenControlSequence : List ℕ → List ℕ → Tail
  -- ESC ] and a body
  OpenCommand : List ℕ → List ℕ → Tail
  -- ESC P and parameter bytes
  OpenHeader : List ℕ → List ℕ → Tail
  -- ESC P, parameter bytes, a final byte, and data
  OpenDevice : List ℕ → List ℕ → ℕ → List ℕ → Tail
  -- ESC, an opener of strings, and a body
  OpenString : List ℕ → ℕ → List ℕ → Tail

abbrev pub bytes_of_tail : Tail → List ℕ
bytes_of_tail (Begun bytes) = bytes
bytes_of_tail (OpenEscape body) = 0x1B ∷ body
bytes_of_tail (OpenControlSequence opening body) = 0x1B ∷ opening ++ 0x5B ∷ body
bytes_of_tail (OpenCommand opening body) = 0x1B ∷ opening ++ 0x5D ∷ body
bytes_of_tail (OpenHeader opening header) = 0x1B ∷ opening ++ 0x50 ∷ header
bytes_of_tail (OpenDevice opening header final body) = (0x1B ∷ opening ++ 0x50 ∷ header) ++ final ∷ body
bytes_of_tail (OpenString opening opener body) = 0x1B ∷ opening ++ opener ∷ body

-- the bytes are the first of some character's, or all of them
abbrev pub BeginsCharacter : List ℕ → Type 0
BeginsCharacter bytes = (c : ℕ) × (more : List ℕ) × IsScalar c × (encode_utf8 c ≡ bytes ++ more)

-- the bytes are a proper, non-empty prefix of a character
abbrev pub IsBegun : List ℕ → Type 0
IsBegun bytes = (c : ℕ) × (more : List ℕ) × IsScalar c × (encode_utf8 c ≡ bytes ++ more) × (bytes ≢ []) × (more ≢ [])

-- Nothing, or bytes that some continuation makes a segment of, longer than they are. A body that CAN, SUB and ESC end
-- (and BEL, of a command) may hold any other byte.
abbrev pub IsUnfinished : Tail → Type 0
IsUnfinished (Begun bytes) = (bytes ≡ []) ⊎ IsBegun bytes
IsUnfinished (OpenEscape body) = IsTrue (list_all in_escape body)
IsUnfinished (OpenControlSequence opening body) =
    IsTrue (list_all is_embedded opening) × IsTrue (list_all in_parameters body)
IsUnfinished (OpenCommand opening body) =
    IsTrue (list_all is_embedded opening) × IsTrue (list_all (λ b. not (ends_command b)) body)
IsUnfinished (OpenHeader opening header) =
    IsTrue (list_all is_embedded opening) × IsTrue (list_all in_parameters header)
IsUnfinished (OpenDevice opening header final body) =
    IsTrue (list_all is_embedded opening) × IsTrue (list_all in_parameters header) × IsTrue (is_final final)
    × IsTrue (list_all (λ b. not (is_stop b)) body)
IsUnfinished (OpenString opening opener body) =
    IsTrue (list_all is_embedded opening) × IsTrue (is_string_opener opener)
    × IsTrue (list_all (λ b. not (is_stop b)) body)

-- an escape sequence, a control sequence or a header, whose final byte hasn't come
abbrev pub is_before_final : Tail → Bool
is_before_final (OpenEscape body) = true
is_before_final (OpenControlSequence opening body) = true
is_before_final (OpenHeader opening header) = true
is_before_final _ = false

-- ---- What is whole

-- The nine shapes. The first list of a sequence holds the bytes between ESC and the byte that opens it.
pub data Segment : Type 0 where
  Character : ℕ → Segment
  IllFormed : List ℕ → Segment
  Control : ℕ → Segment
  -- intermediate bytes, and the final byte
  Escape : List ℕ → ℕ → Segment
  -- ESC [, parameter bytes, and the final byte
  ControlSequence : List ℕ → List ℕ → ℕ → Segment
  -- ESC ], a body, and the byte that ends it
  OperatingSystemCommand : List ℕ → List ℕ → ℕ → Segment
  -- ESC P, parameter bytes, the final byte, and data
  DeviceControl : List ℕ → List ℕ → ℕ → List ℕ → Segment
  -- the opener of a string, and its body
  String : List ℕ → ℕ → List ℕ → Segment
  -- a sequence or a header that is cut off before its final byte
  CutOff : Tail → Segment

-- the bytes of a segment: a BEL that ends a command belongs to it, any other end of one to the next segment
abbrev pub bytes_of : Segment → List ℕ
bytes_of (Character c) = encode_utf8 c
bytes_of (IllFormed bytes) = bytes
bytes_of (Control b) = b ∷ []
bytes_of (Escape body final) = 0x1B ∷ body ++ final ∷ []
bytes_of (ControlSequence opening body final) = (0x1B ∷ opening ++ 0x5B ∷ body) ++ final ∷ []
bytes_of (OperatingSystemCommand opening body ender) =
    (0x1B ∷ opening ++ 0x5D ∷ body) ++ (if ender == 0x07 then ender ∷ [] else [])
bytes_of (DeviceControl opening header final body) = (0x1B ∷ opening ++ 0x50 ∷ header) ++ final ∷ body
bytes_of (String opening opener body) = 0x1B ∷ opening ++ opener ∷ body
bytes_of (CutOff tail) = bytes_of_tail tail

-- U+0020 to U+007E, or above U+009F
abbrev pub IsPrintable : ℕ → Type 0
IsPrintable c = ((0x20 ≤ c) × (c ≤ 0x7E)) ⊎ (0x9F < c)

-- a C0 control except ESC, or DEL
abbrev pub IsControl : ℕ → Type 0
IsControl b = ((b < 0x20) × (b ≢ 0x1B)) ⊎ (b ≡ 0x7F)

-- The bytes are a maximal subpart of an ill-formed sequence (Unicode, 3.9): one byte that begins no character, or the
-- longest prefix of the bytes there that begins one. `String::from_utf8_lossy` writes one U+FFFD for it.
abbrev pub IsIllFormed : List ℕ → List ℕ → Type 0
IsIllFormed bytes following =
    ((b : ℕ) × (bytes ≡ b ∷ []) × (BeginsCharacter bytes → ⊥))
    ⊎ (IsBegun bytes
    × ((next : ℕ) × (remaining : List ℕ) × (following ≡ next ∷ remaining) × (BeginsCharacter (bytes ++ next ∷ []) → ⊥)))

-- whether the list begins with a byte that passes the test
abbrev pub follows : (ℕ → Bool) → List ℕ → Bool
follows test [] = false
follows test (b ∷ bytes) = test b

-- the segment may come before the bytes that follow it
abbrev pub IsSegment : Segment → List ℕ → Type 0
IsSegment (Character c) following = IsScalar c × IsPrintable c
IsSegment (IllFormed bytes) following = IsIllFormed bytes following
IsSegment (Control b) following = IsControl b
IsSegment (Escape body final) following =
    IsTrue (list_all in_escape body) × IsTrue (is_escape_final final)
    × IsTrue (list_any is_intermediate body || not (is_opener final))
IsSegment (ControlSequence opening body final) following =
    IsTrue (list_all is_embedded opening) × IsTrue (list_all in_parameters body) × IsTrue (is_final final)
IsSegment (OperatingSystemCommand opening body ender) following =
    IsTrue (list_all is_embedded opening) × IsTrue (list_all (λ b. not (ends_command b)) body)
    × IsTrue (ends_command ender) × IsTrue (ender == 0x07 || follows (λ b. b == ender) following)
IsSegment (DeviceControl opening header final body) following =
    IsTrue (list_all is_embedded opening) × IsTrue (list_all in_parameters header) × IsTrue (is_final final)
    × IsTrue (list_all (λ b. not (is_stop b)) body) × IsTrue (follows is_stop following)
IsSegment (String opening opener body) following =
    IsTrue (list_all is_embedded opening) × IsTrue (is_string_opener opener)
    × IsTrue (list_all (λ b. not (is_stop b)) body) × IsTrue (follows is_stop following)
IsSegment (CutOff tail) following =
    IsUnfinished tail × IsTrue (is_before_final tail) × IsTrue (follows is_cut following)

-- ---- The cut

-- each segment may come before those after it and the tail
abbrev pub StandInRow : List Segment → List ℕ → Type 0
StandInRow [] tail = Unit {0}
StandInRow (segment ∷ segments) tail = IsSegment segment (flat_map bytes_of segments ++ tail) × StandInRow segments tail

-- The segments, and the tail that is unfinished, are a cut of the stream: joined they are its seven-bit form.
pub record IsCut (stream : List ℕ) (segments : List Segment) (tail : Tail) : Type 0 where
  pub joined : seven_bit stream ≡ flat_map bytes_of segments ++ bytes_of_tail tail
  pub each : StandInRow segments (bytes_of_tail tail)
  pub unfinished : IsUnfinished tail
