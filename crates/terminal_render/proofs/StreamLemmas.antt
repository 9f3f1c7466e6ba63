-- The texts that a stream prints, and the requests that it makes, have an encoding.
use Rattle.std.proofs.Common.{ℕ, zero, suc, inr, Bool, true, false, List, [], ◌∷◌, ◌++◌, length, drop, map, fold, refl, arith}
use Rattle.std.specs.Prelude.{⊤, ◌==◌, ◌||◌, Option, Some, None, filter, nat_lt, if◌then◌else◌}
use Rattle.std.specs.Char.{IsScalar}
use Rattle.std.specs.List.{AllByRecursion, flat_map}
use Rattle.std.proofs.lemmas.Bool.{cond_both}
use Rattle.cell_base.proofs.Fields.{all_joined}
use Rattle.csi_codec.specs.Actions as codec
use Rattle.csi_codec.specs.Actions.{csi_reading}
use Rattle.csi_codec.specs.Escapes.{esc_reading}
use Rattle.csi_codec.specs.Writable.{IsWritableSgr}
use Rattle.csi_codec.specs.declared.cursors.Cursor.{Cursor}
use Rattle.csi_codec.specs.declared.cursors.Cursor.TheVariants as cursor
use Rattle.csi_codec.specs.declared.devices.Device.{Device}
use Rattle.csi_codec.specs.declared.devices.Device.TheVariants as device
use Rattle.csi_codec.specs.declared.edits.Edit.{Edit}
use Rattle.csi_codec.specs.declared.edits.Edit.TheVariants as edit
use Rattle.csi_codec.specs.declared.edits.EraseInDisplay.TheVariants as display
use Rattle.csi_codec.specs.declared.edits.EraseInLine.TheVariants as line
use Rattle.csi_codec.specs.declared.escapes.Esc.{Esc}
use Rattle.csi_codec.specs.declared.escapes.Esc.TheVariants as pair
use Rattle.csi_codec.specs.declared.escapes.EscCode.{EscCode}
use Rattle.csi_codec.specs.declared.escapes.EscCode.TheVariants as escape
use Rattle.csi_codec.specs.declared.modes.DecPrivateMode.TheVariants as private
use Rattle.csi_codec.specs.declared.modes.DecPrivateModeCode.TheVariants as dec
use Rattle.csi_codec.specs.declared.modes.Mode.{Mode}
use Rattle.csi_codec.specs.declared.modes.Mode.TheVariants as mode
use Rattle.csi_codec.specs.declared.rendition.Sgr.{Sgr}
use Rattle.csi_codec.specs.declared.rendition.Sgr.TheVariants as sgr
use Rattle.escape_framing.specs.Bytes.{taken}
use Rattle.escape_framing.specs.Segment.{IsPrintable, StandInRow, bytes_of_tail, Tail, Begun, OpenEscape, OpenControlSequence, OpenCommand, OpenHeader, OpenDevice, OpenString, Segment}
use Rattle.escape_framing.specs.Segment as segment
use Rattle.escape_framing.specs.Dispatch.{Dispatch, Print, Control, Escape, ControlSequence, OperatingSystemCommand, Enter, Data, Exit, controls_in, escape_dispatch, control_sequence_dispatch, command_dispatch, settled, decided_of, dispatches_of}
use Rattle.escape_framing.specs.Cut.{the_cut, tail_of, dispatches, newly_decided}
use Rattle.escape_osc.specs.Parts.{parts_of}
use Rattle.escape_osc.specs.Reading.{osc_reading}
use Rattle.escape_stream.specs.declared.control.ControlCode.{ControlCode}
use Rattle.escape_stream.specs.Controls.{control_named, control_number}
use Rattle.escape_stream.specs.StreamAction.{StreamAction, printed, control, csi}
use Rattle.escape_stream.specs.StreamActions.{named_control, actions_of_dispatch, actions_of, newly_decided_actions}
use Rattle.terminal_table.specs.Functions.{ControlFunction, control_function, escape_function, cursor_function, edit_function, mode_function, device_function, rendition_function, sequence_function, pair_function, function_of}
use Rattle.terminal_table.specs.History.{History, Piece, Look, Resize, Forget, Event, Act, events}
use Rattle.terminal_table.specs.Meaning.{View, event_done, after}
use Rattle.terminal_table.specs.Turns.{AreEvents, AreSizes, IsView}
use Rattle.terminal_table.proofs.EventLemmas.{event_is}
use Rattle.terminal_table.proofs.PrintLemmas.{AllCut, events_are}
use Rattle.terminal_render.specs.Spelling.{IsSpelledText, IsSpelledRequest, IsSpelledView, AreSpelledEvents}
use Rattle.terminal_render.proofs.TextLemmas.{spelled_nil, spelled_character}
use Rattle.terminal_render.proofs.SequenceLemmas.{IsSpelledSequence, AreSpelledSequences, reading_spelled}
use Rattle.terminal_render.proofs.CommandLemmas.{ArePlain, command_request, read_spelled, taken_plain}
use Rattle.terminal_render.proofs.ViewLemmas.{event_spelled}

-- ---- dispatches whose prints are printable, and whose bodies hold no controls

abbrev IsClean : Dispatch → Type 0
IsClean (Print c) = IsScalar c × IsPrintable c
IsClean (OperatingSystemCommand body) = ArePlain body
IsClean _ = ⊤

abbrev AreClean : List Dispatch → Type 0
AreClean = AllByRecursion IsClean

dropped : (n : ℕ) (xs : List Dispatch) → AreClean xs → AreClean (drop n xs)
dropped zero xs h = h
dropped (suc n) [] h = tt
dropped (suc n) (x ∷ xs) h = dropped n xs h.1

controls : (bytes : List ℕ) → AreClean (map Control bytes)
controls [] = tt
controls (b ∷ bytes) = (tt, controls bytes)

controls_clean : (bytes : List ℕ) → AreClean (controls_in bytes)
controls_clean bytes = controls (filter (λ b. nat_lt b 0x20) bytes)

data_clean : (bytes : List ℕ) → AreClean (map Data bytes)
data_clean [] = tt
data_clean (b ∷ bytes) = (tt, data_clean bytes)

escape_clean : (body : List ℕ) (final : ℕ) → AreClean (escape_dispatch body final)
unfolding escape_dispatch
escape_clean [] final = (tt, tt)
escape_clean (a ∷ []) final = (tt, tt)
escape_clean (a ∷ b ∷ body) final = tt

sequence_clean : (parameters : List ℕ) (final : ℕ) → AreClean (control_sequence_dispatch parameters final ∷ [])
unfolding control_sequence_dispatch
sequence_clean parameters final = (tt, tt)

command_clean : (body : List ℕ) (ender : ℕ) → AreClean (command_dispatch body ender)
unfolding command_dispatch
command_clean body ender = cond_both (ender == 0x07 || ender == 0x1B) _ _ AreClean (λ e. (taken_plain body, tt)) (λ e. tt)

decided_clean : (tail : Tail) → AreClean (decided_of tail)
decided_clean (Begun bytes) = tt
decided_clean (OpenEscape body) = controls_clean body
decided_clean (OpenControlSequence opening body) = all_joined IsClean (controls_in opening) (controls_in body) (controls_clean opening) (controls_clean body)
decided_clean (OpenCommand opening body) = controls_clean opening
decided_clean (OpenHeader opening header) = controls_clean opening
decided_clean (OpenDevice opening header final body) = all_joined IsClean (controls_in opening) (Enter (taken header) final ∷ map Data (settled body)) (controls_clean opening) (tt, data_clean (settled body))
decided_clean (OpenString opening opener body) = controls_clean opening

replacement : IsScalar 0xFFFD × IsPrintable 0xFFFD
replacement = (refl, inr (omega arith))

segment_clean : (s : Segment) (following : List ℕ) → segment.IsSegment s following → AreClean (dispatches_of s)
segment_clean (segment.Character c) following h = (h, tt)
segment_clean (segment.IllFormed bytes) following h = (replacement, tt)
segment_clean (segment.Control b) following h = (tt, tt)
segment_clean (segment.Escape body final) following h = all_joined IsClean (controls_in body) (escape_dispatch (taken body) final) (controls_clean body) (escape_clean (taken body) final)
segment_clean (segment.ControlSequence opening body final) following h =
    all_joined IsClean (controls_in opening ++ controls_in body) _ (all_joined IsClean (controls_in opening) (controls_in body) (controls_clean opening) (controls_clean body)) (sequence_clean (taken body) final)
segment_clean (segment.OperatingSystemCommand opening body ender) following h = all_joined IsClean (controls_in opening) (command_dispatch body ender) (controls_clean opening) (command_clean body ender)
segment_clean (segment.DeviceControl opening header final body) following h =
    all_joined IsClean (controls_in opening ++ Enter (taken header) final ∷ map Data body) (Exit ∷ [])
    (all_joined IsClean (controls_in opening) (Enter (taken header) final ∷ map Data body) (controls_clean opening) (tt, data_clean body)) (tt, tt)
segment_clean (segment.String opening opener body) following h = controls_clean opening
segment_clean (segment.CutOff tail) following h = decided_clean tail

segments_clean : (segments : List Segment) (tail : List ℕ) → StandInRow segments tail → AreClean (flat_map dispatches_of segments)
segments_clean [] tail h = tt
segments_clean (s ∷ segments) tail h = all_joined IsClean (dispatches_of s) (flat_map dispatches_of segments) (segment_clean s _ h.0) (segments_clean segments tail h.1)

stream_clean : AllCut → (stream : List ℕ) → AreClean (dispatches stream)
stream_clean cut stream = all_joined IsClean (flat_map dispatches_of (the_cut stream).segments) (decided_of (tail_of stream)) (segments_clean (the_cut stream).segments (bytes_of_tail (tail_of stream)) (cut stream).each) (decided_clean (tail_of stream))

-- ---- actions

abbrev IsSpelledAction : StreamAction → Type 0
IsSpelledAction action = IsSpelledText (printed action) × IsSpelledRequest (function_of action)

abbrev AreSpelledActions : List StreamAction → Type 0
AreSpelledActions = AllByRecursion IsSpelledAction

either : (b : Bool) (x y : Option ControlFunction) → IsSpelledRequest x → IsSpelledRequest y → IsSpelledRequest (if b then x else y)
either true x y h k = h
either false x y h k = k

control_request : (n : ℕ) → IsSpelledRequest (control_function n)
control_request n =
    either (n == 8) _ _ tt (either (n == 9) _ _ tt (either (n == 10 || n == 11 || n == 12) _ _ tt (either (n == 13) _ _ tt tt)))

escape_request : (code : EscCode) → IsSpelledRequest (escape_function code)
escape_request escape.Index = tt
escape_request escape.NextLine = tt
escape_request escape.ReverseIndex = tt
escape_request escape.FullReset = tt
escape_request escape.DecSaveCursorPosition = tt
escape_request escape.DecRestoreCursorPosition = tt
escape_request _ = tt

pair_request : (e : Esc) → IsSpelledRequest (pair_function e)
pair_request (pair.Code known) = escape_request known
pair_request _ = tt

cursor_request : (c : Cursor) → IsSpelledRequest (cursor_function c)
cursor_request (cursor.Up n) = tt
cursor_request (cursor.LinePositionBackward n) = tt
cursor_request (cursor.Down n) = tt
cursor_request (cursor.LinePositionForward n) = tt
cursor_request (cursor.Left n) = tt
cursor_request (cursor.CharacterPositionBackward n) = tt
cursor_request (cursor.Right n) = tt
cursor_request (cursor.CharacterPositionForward n) = tt
cursor_request (cursor.NextLine n) = tt
cursor_request (cursor.PrecedingLine n) = tt
cursor_request (cursor.CharacterAbsolute column) = tt
cursor_request (cursor.CharacterPositionAbsolute column) = tt
cursor_request (cursor.LinePositionAbsolute line) = tt
cursor_request (cursor.Position line column) = tt
cursor_request (cursor.CharacterAndLinePosition line column) = tt
cursor_request cursor.SaveCursor = tt
cursor_request cursor.RestoreCursor = tt
cursor_request cursor.RequestActivePositionReport = tt
cursor_request _ = tt

edit_request : (e : Edit) → IsSpelledRequest (edit_function e)
edit_request (edit.EraseInDisplay display.EraseToEndOfDisplay) = tt
edit_request (edit.EraseInDisplay display.EraseDisplay) = tt
edit_request (edit.EraseInLine line.EraseToEndOfLine) = tt
edit_request (edit.EraseInLine line.EraseLine) = tt
edit_request (edit.ScrollUp n) = tt
edit_request (edit.ScrollDown n) = tt
edit_request _ = tt

mode_request : (m : Mode) → IsSpelledRequest (mode_function m)
mode_request (mode.SetDecPrivateMode (private.Code dec.ShowCursor)) = tt
mode_request (mode.ResetDecPrivateMode (private.Code dec.ShowCursor)) = tt
mode_request _ = tt

device_request : (d : Device) → IsSpelledRequest (device_function d)
device_request device.StatusReport = tt
device_request _ = tt

rendition_request : (v : Sgr) → IsWritableSgr v → IsSpelledRequest (rendition_function v)
rendition_request (sgr.Font font) h = tt
rendition_request _ h = h

sequence_request : (a : codec.Action) → IsSpelledSequence a → IsSpelledRequest (sequence_function a)
sequence_request (codec.sgr value) h = rendition_request value h
sequence_request (codec.cursor value) h = cursor_request value
sequence_request (codec.edit value) h = edit_request value
sequence_request (codec.mode value) h = mode_request value
sequence_request (codec.device value) h = device_request value
sequence_request (codec.unspecified params truncated final) h = tt

sequence_spelled : (a : codec.Action) → IsSpelledSequence a → IsSpelledAction (csi a)
unfolding function_of
sequence_spelled a h = (spelled_nil, sequence_request a h)

sequences_spelled : (actions : List codec.Action) → AreSpelledSequences actions → AreSpelledActions (map csi actions)
sequences_spelled [] h = tt
sequences_spelled (a ∷ actions) h = (sequence_spelled a h.0, sequences_spelled actions h.1)

control_spelled : (n : ℕ) → IsSpelledAction (control n)
unfolding function_of
control_spelled n = (spelled_nil, control_request n)

named_spelled : (code : Option ControlCode) → AreSpelledActions (named_control code)
named_spelled None = tt
named_spelled (Some code) = (control_spelled (control_number code), tt)

dispatch_spelled : (d : Dispatch) → IsClean d → AreSpelledActions (actions_of_dispatch d)
unfolding function_of
dispatch_spelled (Print c) h = ((spelled_character c h.0 h.1, tt), tt)
dispatch_spelled (Control b) h = named_spelled (control_named b)
dispatch_spelled (Escape intermediate final) h = ((spelled_nil, pair_request (esc_reading intermediate final)), tt)
dispatch_spelled (ControlSequence tokens truncated final) h = sequences_spelled (csi_reading tokens truncated final) (reading_spelled tokens truncated final)
dispatch_spelled (OperatingSystemCommand body) h = ((spelled_nil, command_request (osc_reading (parts_of body)) (read_spelled body h)), tt)
dispatch_spelled (Enter header final) h = ((spelled_nil, tt), tt)
dispatch_spelled (Data b) h = ((spelled_nil, tt), tt)
dispatch_spelled Exit h = ((spelled_nil, tt), tt)

actions_spelled : (ds : List Dispatch) → AreClean ds → AreSpelledActions (actions_of ds)
actions_spelled [] h = tt
actions_spelled (d ∷ ds) h = all_joined IsSpelledAction (actions_of_dispatch d) (actions_of ds) (dispatch_spelled d h.0) (actions_spelled ds h.1)

decided_spelled : AllCut → (stream more : List ℕ) → AreSpelledActions (newly_decided_actions stream more)
decided_spelled cut stream more = actions_spelled (newly_decided stream more) (dropped (length (dispatches stream)) (dispatches (stream ++ more)) (stream_clean cut (stream ++ more)))

-- ---- events

acts_before : (actions : List StreamAction) (remaining : List Event) → AreSpelledActions actions → AreSpelledEvents remaining → AreSpelledEvents (map Act actions ++ remaining)
acts_before [] remaining h k = k
acts_before (a ∷ actions) remaining h k = (h.0, acts_before actions remaining h.1 k)

pub events_spelled : AllCut → (stream : List ℕ) (history : History) → AreSpelledEvents (events stream history)
events_spelled cut stream [] = tt
events_spelled cut stream (Piece bytes ∷ history) = acts_before (newly_decided_actions stream bytes) (events (stream ++ bytes) history) (decided_spelled cut stream bytes) (events_spelled cut (stream ++ bytes) history)
events_spelled cut stream (Look ∷ history) = (tt, events_spelled cut stream history)
events_spelled cut stream (Resize width height ∷ history) = (tt, events_spelled cut stream history)
events_spelled cut stream (Forget number ∷ history) = (tt, events_spelled cut stream history)

-- ---- histories

all_spelled : (width_of : List ℕ → ℕ) (v : View) (es : List Event) → IsView width_of v → AreEvents es → IsSpelledView v → AreSpelledEvents es → IsSpelledView (fold (event_done width_of) v es)
all_spelled width_of v [] h k p q = p
all_spelled width_of v (e ∷ es) h k p q = all_spelled width_of (event_done width_of v e) es (event_is width_of v e h k.0) k.1 (event_spelled width_of v e h k.0 p q.0) q.1

pub history_spelled : AllCut → (width_of : List ℕ → ℕ) (v : View) (history : History) → IsView width_of v → AreSizes history → IsSpelledView v → IsSpelledView (after width_of v history)
history_spelled cut width_of v history h k p =
    let kept = all_spelled width_of v (events v.stream history) h (events_are cut v.stream history k) p (events_spelled cut v.stream history) in
    assumption kept
