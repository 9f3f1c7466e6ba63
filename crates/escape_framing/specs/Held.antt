-- What has to be kept of a stream to go on with it, and what each byte then hands out.
use Rattle.std.specs.Prelude.{ℕ, ◌-◌, Bool, true, false, ◌==◌, List, [], ◌∷◌, ◌++◌, take, if◌then◌else◌}
use Rattle.std.specs.List.{flat_map}
use Rattle.std.specs.Char.{is_ascii_control}
use Rattle.text_clusters.specs.Controls.{is_c1}
use Rattle.escape_framing.specs.Bytes.{is_stop, is_embedded, is_intermediate, is_opener, is_cut, taken}
use Rattle.csi_codec.specs.Tokens.{is_parameter}
use Rattle.escape_framing.specs.Segment.{Tail, Begun, OpenEscape, OpenControlSequence, OpenCommand, OpenHeader}
use Rattle.escape_framing.specs.Segment.{OpenDevice, OpenString}
use Rattle.escape_framing.specs.Decode.{in_character}
use Rattle.escape_framing.specs.Dispatch.{Dispatch, Print, ControlSequence, OperatingSystemCommand, Enter, Data, Exit}
use Rattle.escape_framing.specs.Dispatch.{controls_in, escape_dispatch, dispatches_of}
use Rattle.csi_codec.specs.Tokens.{Parameters, no_parameters, with_byte, parameters_of}

-- what is kept of what is open: the first bytes of a character, intermediate bytes (the first two tell whether there is
-- none, one or more), tokens, the bytes of a command's body, those of a header, and of data and strings nothing
pub data Kept : Type 0 where
  InCharacter : List ℕ → Kept
  InEscape : List ℕ → Kept
  InControlSequence : Parameters → Kept
  InCommand : List ℕ → Kept
  InHeader : List ℕ → Kept
  InDevice : Kept
  InString : Kept

abbrev pub kept_of : Tail → Kept
kept_of (Begun bytes) = InCharacter bytes
kept_of (OpenEscape body) = InEscape (take 2 (taken body))
kept_of (OpenControlSequence opening body) = InControlSequence (parameters_of (taken body))
kept_of (OpenCommand opening body) = InCommand (taken body)
kept_of (OpenHeader opening header) = InHeader (taken header)
kept_of (OpenDevice opening header final body) = InDevice
kept_of (OpenString opening opener body) = InString

-- the body of a command and a header take memory
abbrev pub TakesMemory : Kept → Type 0
TakesMemory (InCharacter bytes) = ⊥
TakesMemory (InEscape xs) = ⊥
TakesMemory (InControlSequence p) = ⊥
TakesMemory (InCommand body) = Unit {0}
TakesMemory (InHeader header) = Unit {0}
TakesMemory InDevice = ⊥
TakesMemory InString = ⊥

-- what a byte hands out, and what is kept after it
pub record Step : Type 0 where
  pub dispatches : List Dispatch
  pub kept : Kept

abbrev pub steps : List Dispatch → Kept → Step
steps dispatches kept = record { dispatches = dispatches; kept = kept }

-- dispatches before those of another step
abbrev pub before : List Dispatch → Step → Step
before dispatches step = record { dispatches = dispatches ++ step.dispatches; kept = step.kept }

-- ---- A byte of the seven-bit form

unfoldable pub character_step : List ℕ → ℕ → Step
character_step bytes b = let r = in_character bytes b in steps (flat_map dispatches_of r.segments) (kept_of r.tail)

-- what a byte opens after ESC
unfoldable pub opened : ℕ → Kept
opened b =
    if b == 0x5B then InControlSequence no_parameters
    else if b == 0x5D then InCommand []
    else if b == 0x50 then InHeader []
    else InString

-- a byte from 30 to 7E after ESC and intermediate bytes
abbrev pub final_step : List ℕ → ℕ → Step
final_step [] b = if is_opener b then steps [] (opened b) else steps (escape_dispatch [] b) (InCharacter [])
final_step (x ∷ xs) b = steps (escape_dispatch (x ∷ xs) b) (InCharacter [])

unfoldable pub escape_step : List ℕ → ℕ → Step
escape_step xs b =
    if is_embedded b then steps (controls_in (b ∷ [])) (InEscape xs)
    else if is_intermediate b then steps [] (InEscape (take 2 (xs ++ b ∷ [])))
    else if is_cut b then character_step [] b
    else final_step xs b

unfoldable pub control_sequence_step : Parameters → ℕ → Step
control_sequence_step p b =
    if is_embedded b then steps (controls_in (b ∷ [])) (InControlSequence p)
    else if is_parameter b then steps [] (InControlSequence (with_byte p b))
    else if is_cut b then character_step [] b
    else steps (ControlSequence p.tokens p.truncated b ∷ []) (InCharacter [])

unfoldable pub command_step : List ℕ → ℕ → Step
command_step body b =
    if b == 0x07 then steps (OperatingSystemCommand body ∷ []) (InCharacter [])
    else if is_stop b then before (if b == 0x1B then OperatingSystemCommand body ∷ [] else []) (character_step [] b)
    else if is_ascii_control b then steps [] (InCommand body)
    else steps [] (InCommand (body ++ b ∷ []))

unfoldable pub header_step : List ℕ → ℕ → Step
header_step header b =
    if is_embedded b then steps [] (InHeader header)
    else if is_parameter b then steps [] (InHeader (header ++ b ∷ []))
    else if is_cut b then character_step [] b
    else steps (Enter header b ∷ []) InDevice

unfoldable pub device_step : ℕ → Step
device_step b = if is_stop b then before (Exit ∷ []) (character_step [] b) else steps (Data b ∷ []) InDevice

unfoldable pub string_step : ℕ → Step
string_step b = if is_stop b then character_step [] b else steps [] InString

-- a byte after what is kept
abbrev pub kept_step : Kept → ℕ → Step
kept_step (InCharacter bytes) b = character_step bytes b
kept_step (InEscape xs) b = escape_step xs b
kept_step (InControlSequence p) b = control_sequence_step p b
kept_step (InCommand body) b = command_step body b
kept_step (InHeader header) b = header_step header b
kept_step InDevice b = device_step b
kept_step InString b = string_step b

-- ---- A byte of the stream

-- what is kept, and whether a C2 waits for the byte after it
pub record Held : Type 0 where
  pub kept : Kept
  pub waiting : Bool

pub record Handed : Type 0 where
  pub dispatches : List Dispatch
  pub held : Held

abbrev pub handed : Step → Bool → Handed
handed step waiting = record { dispatches = step.dispatches; held = record { kept = step.kept; waiting = waiting } }

-- a C2 ends a character that has begun, whatever it turns out to be itself
abbrev pub interrupted : Kept → Step
interrupted (InCharacter []) = steps [] (InCharacter [])
interrupted (InCharacter (b ∷ bytes)) = steps (Print 0xFFFD ∷ []) (InCharacter [])
interrupted (InEscape xs) = steps [] (InEscape xs)
interrupted (InControlSequence p) = steps [] (InControlSequence p)
interrupted (InCommand body) = steps [] (InCommand body)
interrupted (InHeader header) = steps [] (InHeader header)
interrupted InDevice = steps [] InDevice
interrupted InString = steps [] InString

-- a byte where no C2 waits
unfoldable pub fresh_step : Kept → ℕ → Handed
fresh_step kept b = if b == 0xC2 then handed (interrupted kept) true else handed (kept_step kept b) false

-- a step, and what is handed out after it
abbrev pub handed_after : Step → Handed → Handed
handed_after step rest = record { dispatches = step.dispatches ++ rest.dispatches; held = rest.held }

-- a byte after a C2: half of a C1 control, which is two bytes of the seven-bit form, or another byte
unfoldable pub waiting_step : Kept → ℕ → Handed
waiting_step kept b =
    if is_c1 0xC2 b
    then (let escape = kept_step kept 0x1B in handed_after escape (handed (kept_step escape.kept (b - 0x40)) false))
    else (let plain = kept_step kept 0xC2 in handed_after plain (fresh_step plain.kept b))

-- a byte of the stream
unfoldable pub held_step : Held → ℕ → Handed
held_step held b = if held.waiting then waiting_step held.kept b else fresh_step held.kept b

-- what is held before the first byte
abbrev pub nothing_held : Held
nothing_held = record { kept = InCharacter []; waiting = false }

-- what the bytes hand out in turn, and what is held after them
unfoldable pub hand_out : Held → List ℕ → Handed
hand_out held [] = record { dispatches = []; held = held }
hand_out held (b ∷ bytes) =
    let first = held_step held b in
    let rest = hand_out first.held bytes in
    record { dispatches = first.dispatches ++ rest.dispatches; held = rest.held }

-- what is held once the stream was read
abbrev pub held_of : List ℕ → Held
held_of stream = (hand_out nothing_held stream).held
