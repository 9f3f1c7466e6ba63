-- Lists of actions that a byte stream can carry: their bytes read back as the same actions.
use Rattle.std.specs.Prelude.{◌≡◌, ◌≢◌, ℕ, ◌≤◌, ◌<◌, List, [], ◌∷◌, ◌++◌, All, map, Option, None, Some, Bool, true}
use Rattle.std.specs.Prelude.{false, not, length, ◌&&◌, if◌then◌else◌}
use Rattle.std.specs.Str.{IsUtf8, chars}
use Rattle.std.specs.Char.{IsScalar}
use Rattle.text_clusters.specs.Controls.{is_c1, holds_c1}
use Rattle.csi_codec.specs.Actions.{csi_reading}
use Rattle.csi_codec.specs.Actions as codec
use Rattle.csi_codec.specs.Sequences.{csi_text}
use Rattle.csi_codec.specs.Prefixes.{Prefix, HasPrefix, most_tokens}
use Rattle.csi_codec.specs.Texts.{is_spellable}
use Rattle.csi_codec.specs.Laws.{is_exempt}
use Rattle.csi_codec.specs.Writable.{ArePairBytes}
use Rattle.csi_codec.specs.declared.parameters.CsiParam.{CsiParam}
use Rattle.csi_codec.specs.Escapes.{esc_reading}
use Rattle.csi_codec.specs.declared.escapes.EscCode.TheVariants as code
use Rattle.csi_codec.specs.declared.escapes.Esc.{Esc}
use Rattle.csi_codec.specs.declared.escapes.Esc.TheVariants as pair
use Rattle.escape_osc.specs.Parts.{parts_of}
use Rattle.escape_osc.specs.Reading.{osc_reading}
use Rattle.escape_osc.specs.Writable as osc
use Rattle.escape_framing.specs.Bytes.{taken}
use Rattle.escape_framing.specs.Segment.{IsPrintable, IsControl, Begun}
use Rattle.escape_framing.specs.Cut.{tail_of}
use Rattle.escape_stream.specs.StreamAction.{StreamAction, print, print_string, control, enter, data_byte, exit}
use Rattle.escape_stream.specs.StreamAction.{command, csi, esc}
use Rattle.escape_stream.specs.StreamText.{closes_string, is_string_terminator, stream_text}
use Rattle.escape_stream.specs.StreamActions.{stream_actions, newly_decided_actions}

-- a text of printable characters, not empty
pub record IsPrintableText (text : List ℕ) : Type 0 where
  pub utf8 : IsUtf8 text
  pub some : text ≢ []
  pub printable : All IsPrintable (chars text)

-- the text of the CSI action is one sequence with nothing after it, and its tokens encode that action and no other
pub record IsReadBack (a : codec.Action) : Type 0 where
  pub prefix : Prefix
  pub stands : HasPrefix (csi_text a) prefix
  pub whole : prefix.rest ≡ []
  pub action : csi_reading prefix.params prefix.truncated prefix.control ≡ a ∷ []

-- the ESC pair is the reading of bytes that an ESC pair can have
pub record IsReadPair (e : Esc) : Type 0 where
  pub intermediate : Option ℕ
  pub final : ℕ
  pub bytes : ArePairBytes intermediate final
  pub reading : e ≡ esc_reading intermediate final

-- an action outside of device control strings that reads back by itself
abbrev pub IsWritableAction : StreamAction → Type 0
IsWritableAction (print character) = IsScalar character × IsPrintable character
IsWritableAction (print_string text) = IsPrintableText text
IsWritableAction (control number) = IsControl number
IsWritableAction (command c) = osc.IsWritable c
IsWritableAction (csi a) = IsReadBack a
IsWritableAction (esc e) = IsReadPair e
IsWritableAction (enter header byte) = ⊥
IsWritableAction (data_byte byte) = ⊥
IsWritableAction exit = ⊥

-- the header of a device control string, 20h to 3Fh, and its final byte, 40h to 7Eh
pub record IsOpening (header : List ℕ) (byte : ℕ) : Type 0 where
  pub header_bytes : All (λ b. (32 ≤ b) × (b ≤ 63)) header
  pub low : 64 ≤ byte
  pub high : byte ≤ 126

-- a byte of the data after another: not CAN, SUB or ESC, and with the one before it no C1 control in UTF-8
pub record IsDataByte (before byte : ℕ) : Type 0 where
  pub byte_range : byte < 256
  pub not_cancel : byte ≢ 24
  pub not_substitute : byte ≢ 26
  pub not_escape : byte ≢ 27
  pub not_c1 : is_c1 before byte ≡ false

-- actions after the data byte of a device control string, or outside of one: each device control string is its opening,
-- its data and its end
abbrev pub IsWritableAfter : Option ℕ → List StreamAction → Type 0
IsWritableAfter None [] = Unit {0}
IsWritableAfter None (enter header byte ∷ remaining) = IsOpening header byte × IsWritableAfter (Some byte) remaining
IsWritableAfter None (a ∷ remaining) = IsWritableAction a × IsWritableAfter None remaining
IsWritableAfter (Some before) [] = ⊥
IsWritableAfter (Some before) (data_byte byte ∷ remaining) =
    IsDataByte before byte × IsWritableAfter (Some byte) remaining
IsWritableAfter (Some before) (exit ∷ remaining) = IsWritableAfter None remaining
IsWritableAfter (Some before) (a ∷ remaining) = ⊥

-- a list of actions that reads back from its bytes
abbrev pub IsWritable : List StreamAction → Type 0
IsWritable actions = IsWritableAfter None actions

-- ---- What is read back

-- the characters of a text, one by one; every other action by itself
abbrev pub characters_of : StreamAction → List StreamAction
characters_of (print_string text) = map print (chars text)
characters_of (print character) = print character ∷ []
characters_of (control number) = control number ∷ []
characters_of (enter header byte) = enter header byte ∷ []
characters_of (data_byte byte) = data_byte byte ∷ []
characters_of exit = exit ∷ []
characters_of (command c) = command c ∷ []
characters_of (csi a) = csi a ∷ []
characters_of (esc e) = esc e ∷ []

abbrev pub string_terminator : StreamAction
string_terminator = esc (pair.Code code.StringTerminator)

-- the string terminator that closes a string, where the action after it is none
abbrev pub terminator_before : Bool → Bool → List StreamAction
terminator_before closed stands = if closed && not stands then string_terminator ∷ [] else []

-- the list as which the bytes of a list are read: prints as characters, and a string terminator after each operating
-- system command and each end of a device control string that has none
abbrev pub read_form_after : Bool → List StreamAction → List StreamAction
read_form_after closed [] = terminator_before closed false
read_form_after closed (a ∷ remaining) =
    terminator_before closed (is_string_terminator a) ++ characters_of a ++ read_form_after (closes_string a) remaining

abbrev pub read_form : List StreamAction → List StreamAction
read_form actions = read_form_after false actions

-- every text is UTF-8
abbrev pub HasTexts : List StreamAction → Type 0
HasTexts [] = Unit {0}
HasTexts (print_string text ∷ remaining) = IsUtf8 text × HasTexts remaining
HasTexts (a ∷ remaining) = HasTexts remaining

-- the list as which the bytes of a list are read has the same bytes
abbrev pub ReadFormsEncodeAlike : Type 0
ReadFormsEncodeAlike =
    (actions : List StreamAction) → HasTexts actions → stream_text (read_form actions) ≡ stream_text actions

-- the bytes of a writable list read back as the list, with prints split into characters and string terminators added
abbrev pub WritableListsReadBack : Type 0
WritableListsReadBack =
    (actions : List StreamAction) → IsWritable actions → stream_actions (stream_text actions) ≡ read_form actions

-- the bytes of a writable list leave no segment unfinished
abbrev pub WritableListsEndWhole : Type 0
WritableListsEndWhole = (actions : List StreamAction) → IsWritable actions → tail_of (stream_text actions) ≡ Begun []

-- after any stream that leaves no segment unfinished the text decides the actions, and leaves none either
abbrev pub WritableListsReadOn : Type 0
WritableListsReadOn =
    (stream : List ℕ) (actions : List StreamAction) → tail_of stream ≡ Begun [] → IsWritable actions
    → newly_decided_actions stream (stream_text actions) ≡ read_form actions

abbrev pub WritableListsEndOn : Type 0
WritableListsEndOn =
    (stream : List ℕ) (actions : List StreamAction) → tail_of stream ≡ Begun [] → IsWritable actions
    → tail_of (stream ++ stream_text actions) ≡ Begun []

-- ---- Control sequences that were read

-- each action reads back by itself, except the rest of modes that the round trip of parameters exempts
abbrev pub EachIsReadBack : List CsiParam → ℕ → List codec.Action → Type 0
EachIsReadBack ts final [] = Unit {0}
EachIsReadBack ts final (a ∷ remaining) =
    (is_exempt ts final a ≡ false → IsReadBack a) × EachIsReadBack ts final remaining

-- the actions of a spellable list of no more tokens than are kept, with a final byte from @ to ~, can be written
abbrev pub ReadSequencesAreWritable : Type 0
ReadSequencesAreWritable =
    (ts : List CsiParam) (final : ℕ) → is_spellable ts ≡ true → length ts ≤ most_tokens → 64 ≤ final → final ≤ 126
    → EachIsReadBack ts final (csi_reading ts false final)

-- ---- Commands that were read

-- the command that is read from a body, from which C0 controls and DEL are dropped, can be written, unless one of these
-- lay within a C1 control
abbrev pub ReadCommandsAreWritable : Type 0
ReadCommandsAreWritable =
    (body : List ℕ) → All (λ b. b < 256) body → holds_c1 (taken body) ≡ false
    → osc.IsWritable (osc_reading (parts_of (taken body)))
