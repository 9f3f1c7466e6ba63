-- The texts that a stream prints are UTF-8 and hold no controls.
use Rattle.std.proofs.Common.{ℕ, zero, suc, inr, Bool, true, false, List, [], ◌∷◌, ◌++◌, length, drop, map, refl, arith}
use Rattle.std.specs.Prelude.{⊤, ◌==◌, ◌||◌, Option, Some, None, filter, nat_lt, if◌then◌else◌}
use Rattle.std.specs.Char.{IsScalar}
use Rattle.std.specs.List.{flat_map}
use Rattle.csi_codec.specs.Actions as codec
use Rattle.csi_codec.specs.Actions.{csi_reading}
use Rattle.escape_framing.specs.Bytes.{taken}
use Rattle.escape_framing.specs.Segment.{IsPrintable, StandInRow, IsCut, bytes_of_tail, Tail, Begun, OpenEscape, OpenControlSequence, OpenCommand, OpenHeader, OpenDevice, OpenString, Segment}
use Rattle.escape_framing.specs.Segment as segment
use Rattle.escape_framing.specs.Dispatch.{Dispatch, Print, Control, Escape, ControlSequence, OperatingSystemCommand, Enter, Data, Exit, controls_in, escape_dispatch, control_sequence_dispatch, command_dispatch, settled, decided_of, dispatches_of}
use Rattle.escape_framing.specs.Cut.{the_cut, tail_of, dispatches, newly_decided}
use Rattle.escape_stream.specs.declared.control.ControlCode.{ControlCode}
use Rattle.escape_stream.specs.Controls.{control_named}
use Rattle.escape_stream.specs.StreamAction.{StreamAction, printed, csi}
use Rattle.escape_stream.specs.StreamActions.{named_control, actions_of_dispatch, actions_of, newly_decided_actions}
use Rattle.terminal_table.specs.History.{History, Piece, Look, Resize, Forget, Event, Act, events}
use Rattle.terminal_table.specs.RunText.{IsRunText}
use Rattle.terminal_table.specs.Turns.{AreEvents, AreSizes}
use Rattle.terminal_table.proofs.RunLemmas.{character_runs, no_text}

-- ---- dispatches whose prints are printable

abbrev Prints : Dispatch → Type 0
Prints (Print c) = IsScalar c × IsPrintable c
Prints _ = ⊤

abbrev PrintAll : List Dispatch → Type 0
PrintAll [] = ⊤
PrintAll (d ∷ ds) = Prints d × PrintAll ds

append : (xs ys : List Dispatch) → PrintAll xs → PrintAll ys → PrintAll (xs ++ ys)
append [] ys h k = k
append (x ∷ xs) ys h k = (h.0, append xs ys h.1 k)

dropped : (n : ℕ) (xs : List Dispatch) → PrintAll xs → PrintAll (drop n xs)
dropped zero xs h = h
dropped (suc n) [] h = tt
dropped (suc n) (x ∷ xs) h = dropped n xs h.1

controls : (bytes : List ℕ) → PrintAll (map Control bytes)
controls [] = tt
controls (b ∷ bytes) = (tt, controls bytes)

controls_print : (bytes : List ℕ) → PrintAll (controls_in bytes)
controls_print bytes = controls (filter (λ b. nat_lt b 0x20) bytes)

data_print : (bytes : List ℕ) → PrintAll (map Data bytes)
data_print [] = tt
data_print (b ∷ bytes) = (tt, data_print bytes)

escape_prints : (body : List ℕ) (final : ℕ) → PrintAll (escape_dispatch body final)
unfolding escape_dispatch
escape_prints [] final = (tt, tt)
escape_prints (a ∷ []) final = (tt, tt)
escape_prints (a ∷ b ∷ body) final = tt

sequence_prints : (parameters : List ℕ) (final : ℕ) → PrintAll (control_sequence_dispatch parameters final ∷ [])
unfolding control_sequence_dispatch
sequence_prints parameters final = (tt, tt)

command_prints : (body : List ℕ) (ender : ℕ) → PrintAll (command_dispatch body ender)
unfolding command_dispatch
command_prints body ender = by_test (ender == 0x07 || ender == 0x1B)
  where
    by_test : (b : Bool) → PrintAll (if b then OperatingSystemCommand (taken body) ∷ [] else [])
    by_test true = (tt, tt)
    by_test false = tt

decided_prints : (tail : Tail) → PrintAll (decided_of tail)
decided_prints (Begun bytes) = tt
decided_prints (OpenEscape body) = controls_print body
decided_prints (OpenControlSequence opening body) = append (controls_in opening) (controls_in body) (controls_print opening) (controls_print body)
decided_prints (OpenCommand opening body) = controls_print opening
decided_prints (OpenHeader opening header) = controls_print opening
decided_prints (OpenDevice opening header final body) = append (controls_in opening) (Enter (taken header) final ∷ map Data (settled body)) (controls_print opening) (tt, data_print (settled body))
decided_prints (OpenString opening opener body) = controls_print opening

replacement : IsScalar 0xFFFD × IsPrintable 0xFFFD
replacement = (refl, inr (omega arith))

segment_prints : (s : Segment) (following : List ℕ) → segment.IsSegment s following → PrintAll (dispatches_of s)
segment_prints (segment.Character c) following h = (h, tt)
segment_prints (segment.IllFormed bytes) following h = (replacement, tt)
segment_prints (segment.Control b) following h = (tt, tt)
segment_prints (segment.Escape body final) following h = append (controls_in body) (escape_dispatch (taken body) final) (controls_print body) (escape_prints (taken body) final)
segment_prints (segment.ControlSequence opening body final) following h =
    append (controls_in opening ++ controls_in body) _ (append (controls_in opening) (controls_in body) (controls_print opening) (controls_print body)) (sequence_prints (taken body) final)
segment_prints (segment.OperatingSystemCommand opening body ender) following h = append (controls_in opening) (command_dispatch body ender) (controls_print opening) (command_prints body ender)
segment_prints (segment.DeviceControl opening header final body) following h =
    append (controls_in opening ++ Enter (taken header) final ∷ map Data body) (Exit ∷ [])
    (append (controls_in opening) (Enter (taken header) final ∷ map Data body) (controls_print opening) (tt, data_print body)) (tt, tt)
segment_prints (segment.String opening opener body) following h = controls_print opening
segment_prints (segment.CutOff tail) following h = decided_prints tail

segments_print : (segments : List Segment) (tail : List ℕ) → StandInRow segments tail → PrintAll (flat_map dispatches_of segments)
segments_print [] tail h = tt
segments_print (s ∷ segments) tail h = append (dispatches_of s) (flat_map dispatches_of segments) (segment_prints s _ h.0) (segments_print segments tail h.1)

-- each stream has the cut that is read
abbrev pub AllCut : Type 0
AllCut = (stream : List ℕ) → IsCut stream (the_cut stream).segments (tail_of stream)

stream_prints : AllCut → (stream : List ℕ) → PrintAll (dispatches stream)
stream_prints cut stream = append (flat_map dispatches_of (the_cut stream).segments) (decided_of (tail_of stream)) (segments_print (the_cut stream).segments (bytes_of_tail (tail_of stream)) (cut stream).each) (decided_prints (tail_of stream))

-- ---- actions

abbrev AllPrinted : List StreamAction → Type 0
AllPrinted [] = ⊤
AllPrinted (a ∷ actions) = IsRunText (printed a) × AllPrinted actions

joined : (xs ys : List StreamAction) → AllPrinted xs → AllPrinted ys → AllPrinted (xs ++ ys)
joined [] ys h k = k
joined (x ∷ xs) ys h k = (h.0, joined xs ys h.1 k)

sequences_print : (actions : List codec.Action) → AllPrinted (map csi actions)
sequences_print [] = tt
sequences_print (a ∷ actions) = (no_text, sequences_print actions)

named_print : (code : Option ControlCode) → AllPrinted (named_control code)
named_print None = tt
named_print (Some code) = (no_text, tt)

dispatch_prints : (d : Dispatch) → Prints d → AllPrinted (actions_of_dispatch d)
dispatch_prints (Print c) h = (character_runs c h.0 h.1, tt)
dispatch_prints (Control b) h = named_print (control_named b)
dispatch_prints (Escape intermediate final) h = (no_text, tt)
dispatch_prints (ControlSequence tokens truncated final) h = sequences_print (csi_reading tokens truncated final)
dispatch_prints (OperatingSystemCommand body) h = (no_text, tt)
dispatch_prints (Enter header final) h = (no_text, tt)
dispatch_prints (Data b) h = (no_text, tt)
dispatch_prints Exit h = (no_text, tt)

actions_print : (ds : List Dispatch) → PrintAll ds → AllPrinted (actions_of ds)
actions_print [] h = tt
actions_print (d ∷ ds) h = joined (actions_of_dispatch d) (actions_of ds) (dispatch_prints d h.0) (actions_print ds h.1)

decided_printed : AllCut → (stream more : List ℕ) → AllPrinted (newly_decided_actions stream more)
decided_printed cut stream more = actions_print (newly_decided stream more) (dropped (length (dispatches stream)) (dispatches (stream ++ more)) (stream_prints cut (stream ++ more)))

-- ---- events

acts_before : (actions : List StreamAction) (remaining : List Event) → AllPrinted actions → AreEvents remaining → AreEvents (map Act actions ++ remaining)
acts_before [] remaining h k = k
acts_before (a ∷ actions) remaining h k = (h.0, acts_before actions remaining h.1 k)

pub events_are : AllCut → (stream : List ℕ) (history : History) → AreSizes history → AreEvents (events stream history)
events_are cut stream [] h = tt
events_are cut stream (Piece bytes ∷ history) h = acts_before (newly_decided_actions stream bytes) (events (stream ++ bytes) history) (decided_printed cut stream bytes) (events_are cut (stream ++ bytes) history h)
events_are cut stream (Look ∷ history) h = (tt, events_are cut stream history h)
events_are cut stream (Resize width height ∷ history) h = ((h.0, h.1), events_are cut stream history h.2)
events_are cut stream (Forget number ∷ history) h = (tt, events_are cut stream history h)
