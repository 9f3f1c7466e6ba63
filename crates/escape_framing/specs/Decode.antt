-- The plain reading of a seven-bit form, byte by byte: what each byte makes of what is open.
use Rattle.std.specs.Prelude.{ℕ, not, ◌||◌, ◌==◌, List, [], ◌∷◌, ◌++◌, slice_index, is_none, if◌then◌else◌}
use Rattle.std.specs.List.{list_any}
use Rattle.std.specs.Str.{is_utf8, chars}
use Rattle.std.specs.Str.Lossy.{utf8_error_len}
use Rattle.std.specs.Char.{is_ascii_control}
use Rattle.text_clusters.specs.Controls.{in_c1}
use Rattle.escape_framing.specs.Bytes.{is_stop, is_intermediate, is_opener, is_cut, in_escape, in_parameters}
use Rattle.escape_framing.specs.Segment.{Tail, Begun, OpenEscape, OpenControlSequence, OpenCommand, OpenHeader}
use Rattle.escape_framing.specs.Segment.{OpenDevice, OpenString, Segment, Character, IllFormed, Control, Escape}
use Rattle.escape_framing.specs.Segment.{ControlSequence, OperatingSystemCommand, DeviceControl, String, CutOff}

-- the segments that were decided, and what is open
pub record Reading : Type 0 where
  pub segments : List Segment
  pub tail : Tail

-- the byte stays open
abbrev pub waits : Tail → Reading
waits tail = record { segments = []; tail = tail }

-- the byte ends a segment
abbrev pub ends : Segment → Reading
ends segment = record { segments = segment ∷ []; tail = Begun [] }

-- the segment ends before the byte, from which the rest is read
abbrev pub ends_before : Segment → Reading → Reading
ends_before segment first = record { segments = segment ∷ first.segments; tail = first.tail }

-- ---- Characters

-- a character by itself; no seven-bit form holds a C1 control
abbrev pub segment_of : List ℕ → ℕ → Segment
segment_of bytes c =
    if in_c1 c then IllFormed bytes
    else if is_ascii_control c then Control c
    else Character c

-- a whole character, the beginning of one, or bytes that are neither, of which the rest is read
abbrev pub reading_of : List ℕ → Reading → Reading
reading_of bytes broken =
    if is_utf8 bytes then ends (segment_of bytes (slice_index (chars bytes) 0))
    else if is_none (utf8_error_len bytes) then waits (Begun bytes)
    else broken

-- a byte where no character has begun
unfoldable pub first_byte : ℕ → Reading
first_byte b = if b == 0x1B then waits (OpenEscape []) else reading_of (b ∷ []) (ends (IllFormed (b ∷ [])))

-- a byte after the first ones of a character
unfoldable pub in_character : List ℕ → ℕ → Reading
in_character [] b = first_byte b
in_character (t ∷ tail) b = reading_of ((t ∷ tail) ++ b ∷ []) (ends_before (IllFormed (t ∷ tail)) (first_byte b))

-- ---- Sequences

-- what a byte opens after ESC
unfoldable pub opened_by : List ℕ → ℕ → Tail
opened_by body b =
    if b == 0x5B then OpenControlSequence body []
    else if b == 0x5D then OpenCommand body []
    else if b == 0x50 then OpenHeader body []
    else OpenString body b []

-- a byte from 30 to 7E after ESC and intermediate bytes
unfoldable pub after_escape : List ℕ → ℕ → Reading
after_escape body b =
    if list_any is_intermediate body || not (is_opener b) then ends (Escape body b) else waits (opened_by body b)

-- a byte after what is open
unfoldable pub next_byte : Tail → ℕ → Reading
next_byte (Begun bytes) b = in_character bytes b
next_byte (OpenEscape body) b =
    if in_escape b then waits (OpenEscape (body ++ b ∷ []))
    else if is_cut b then ends_before (CutOff (OpenEscape body)) (first_byte b)
    else after_escape body b
next_byte (OpenControlSequence opening body) b =
    if in_parameters b then waits (OpenControlSequence opening (body ++ b ∷ []))
    else if is_cut b then ends_before (CutOff (OpenControlSequence opening body)) (first_byte b)
    else ends (ControlSequence opening body b)
next_byte (OpenCommand opening body) b =
    if b == 0x07 then ends (OperatingSystemCommand opening body b)
    else if is_stop b then ends_before (OperatingSystemCommand opening body b) (first_byte b)
    else waits (OpenCommand opening (body ++ b ∷ []))
next_byte (OpenHeader opening header) b =
    if in_parameters b then waits (OpenHeader opening (header ++ b ∷ []))
    else if is_cut b then ends_before (CutOff (OpenHeader opening header)) (first_byte b)
    else waits (OpenDevice opening header b [])
next_byte (OpenDevice opening header final body) b =
    if is_stop b then ends_before (DeviceControl opening header final body) (first_byte b)
    else waits (OpenDevice opening header final (body ++ b ∷ []))
next_byte (OpenString opening opener body) b =
    if is_stop b then ends_before (String opening opener body) (first_byte b)
    else waits (OpenString opening opener (body ++ b ∷ []))

-- the reading of the bytes after what is open
unfoldable pub read_on : Tail → List ℕ → Reading
read_on tail [] = waits tail
read_on tail (b ∷ bytes) =
    let step = next_byte tail b in
    let rest = read_on step.tail bytes in
    record { segments = step.segments ++ rest.segments; tail = rest.tail }
