-- What segments hand out, in order: the dispatches.
use Rattle.std.specs.Prelude.{ℕ, Bool, nat_lt, ◌||◌, ◌==◌, List, [], ◌∷◌, ◌++◌, Option, Some, None, length, take, map}
use Rattle.std.specs.Prelude.{filter, if◌then◌else◌}
use Rattle.escape_framing.specs.Bytes.{taken}
use Rattle.escape_framing.specs.Segment.{Tail, Begun, OpenEscape, OpenControlSequence, OpenCommand, OpenHeader}
use Rattle.escape_framing.specs.Segment.{OpenDevice, OpenString, Segment}
use Rattle.escape_framing.specs.Segment as segment
use Rattle.csi_codec.specs.Texts.{tokens_of}
use Rattle.csi_codec.specs.Prefixes.{most_tokens}
use Rattle.csi_codec.specs.declared.parameters.CsiParam.{CsiParam}

-- a character to print; a control; an escape sequence by its intermediate byte, where it has one, and its final byte; a
-- control sequence by its tokens, whether there were more, and its final byte; the body of an operating system
-- command; the begin of a device control string by its header and final byte, its data byte by byte, and its end
pub data Dispatch : Type 0 where
  Print : ℕ → Dispatch
  Control : ℕ → Dispatch
  Escape : Option ℕ → ℕ → Dispatch
  ControlSequence : List CsiParam → Bool → ℕ → Dispatch
  OperatingSystemCommand : List ℕ → Dispatch
  Enter : List ℕ → ℕ → Dispatch
  Data : ℕ → Dispatch
  Exit : Dispatch

-- the controls within a sequence act at once; DEL does nothing there
abbrev pub controls_in : List ℕ → List Dispatch
controls_in bytes = map Control (filter (λ b. nat_lt b 0x20) bytes)

-- with two intermediate bytes or more an escape sequence does nothing
unfoldable pub escape_dispatch : List ℕ → ℕ → List Dispatch
escape_dispatch [] final = Escape None final ∷ []
escape_dispatch (intermediate ∷ []) final = Escape (Some intermediate) final ∷ []
escape_dispatch (intermediate ∷ second ∷ remaining) final = []

unfoldable pub control_sequence_dispatch : List ℕ → ℕ → Dispatch
control_sequence_dispatch parameters final =
    let tokens = tokens_of parameters in
    ControlSequence (take most_tokens tokens) (nat_lt most_tokens (length tokens)) final

-- a command that CAN or SUB ends does nothing
unfoldable pub command_dispatch : List ℕ → ℕ → List Dispatch
command_dispatch body ender = if ender == 0x07 || ender == 0x1B then OperatingSystemCommand (taken body) ∷ [] else []

-- the bytes without a C2 at the end, which waits for the byte after it: it may be half of a C1 control
abbrev pub settled : List ℕ → List ℕ
settled [] = []
settled (b ∷ []) = if b == 0xC2 then [] else b ∷ []
settled (b ∷ c ∷ bytes) = b ∷ settled (c ∷ bytes)

-- the dispatches that are decided while this is still open
abbrev pub decided_of : Tail → List Dispatch
decided_of (Begun bytes) = []
decided_of (OpenEscape body) = controls_in body
decided_of (OpenControlSequence opening body) = controls_in opening ++ controls_in body
decided_of (OpenCommand opening body) = controls_in opening
decided_of (OpenHeader opening header) = controls_in opening
decided_of (OpenDevice opening header final body) =
    controls_in opening ++ Enter (taken header) final ∷ map Data (settled body)
decided_of (OpenString opening opener body) = controls_in opening

-- the dispatches of a segment: U+FFFD for an ill-formed one
abbrev pub dispatches_of : Segment → List Dispatch
dispatches_of (segment.Character c) = Print c ∷ []
dispatches_of (segment.IllFormed bytes) = Print 0xFFFD ∷ []
dispatches_of (segment.Control b) = Control b ∷ []
dispatches_of (segment.Escape body final) = controls_in body ++ escape_dispatch (taken body) final
dispatches_of (segment.ControlSequence opening body final) =
    controls_in opening ++ controls_in body ++ control_sequence_dispatch (taken body) final ∷ []
dispatches_of (segment.OperatingSystemCommand opening body ender) = controls_in opening ++ command_dispatch body ender
dispatches_of (segment.DeviceControl opening header final body) =
    controls_in opening ++ Enter (taken header) final ∷ map Data body ++ Exit ∷ []
dispatches_of (segment.String opening opener body) = controls_in opening
dispatches_of (segment.CutOff tail) = decided_of tail
