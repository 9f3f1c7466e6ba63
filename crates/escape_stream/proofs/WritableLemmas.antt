-- A writable list reads back: at the start of a segment, after an action that closed a string, and within a device control string.
use Rattle.std.proofs.Common.{◌≡◌, arith, Bool, true, false, cond, List, [], ◌∷◌, ◌++◌, map, refl, sym, ap, ◌∙◌, append_assoc, Some, None}
use Rattle.std.specs.Prelude.{ℕ, ◌≢◌, not}
use Rattle.std.proofs.lemmas.Bool.Decides.{nat_tests}
use Rattle.std.specs.List.{flat_map, list_all}
use Rattle.std.proofs.lemmas.Grind.{flat_map-append}
use Rattle.std.proofs.lemmas.List.{map-append}
use Rattle.csi_codec.specs.Escapes.{esc_text}
use Rattle.csi_codec.specs.declared.escapes.EscCode.TheVariants as code
use Rattle.csi_codec.specs.declared.escapes.Esc.{Esc}
use Rattle.csi_codec.specs.declared.escapes.Esc.TheVariants as pair
use Rattle.escape_framing.specs.Bytes.{is_stop, taken}
use Rattle.escape_framing.specs.Segment.{Begun, OpenDevice, DeviceControl}
use Rattle.escape_framing.specs.Dispatch.{Data, Exit, dispatches_of}
use Rattle.escape_framing.specs.Decode.{Reading, ends_before, first_byte, next_byte, read_on}
use Rattle.escape_framing.specs.Cut.{tail_of}
use Rattle.escape_framing.proofs.Existence.SevenBitLemmas.{no_pair, no_pair_after}
use Rattle.escape_framing.proofs.ReadLemmas.{after, step_waits, step_ends_before}
use Rattle.escape_framing.proofs.SequenceReading.{stays_device}
use Rattle.escape_framing.proofs.UniqueLemmas.{reads_tail}
use Rattle.escape_stream.specs.StreamAction.{StreamAction, print, print_string, control, enter, data_byte, exit, command, csi, esc}
use Rattle.escape_stream.specs.StreamActions.{actions_of_dispatch, actions_of, stream_actions, newly_decided_actions}
use Rattle.escape_stream.specs.StreamText.{is_terminator_pair, texts_after, stream_text}
use Rattle.escape_stream.specs.StreamWritable.{IsOpening, IsDataByte, IsWritableAfter, IsWritable, string_terminator, terminator_before, read_form_after, read_form}
use Rattle.escape_stream.proofs.PlainBytes.{low_byte, is_plain, header_bytes, taken_plain, parameters_plain, parameters_inside, parameters_low}
use Rattle.escape_stream.proofs.TextSegments.{Says, says_nothing, says_same, stream_says, stream_says_after, pair_stands, low_stands, low_text, before_escape}
use Rattle.escape_stream.proofs.PairText.{says_pair, says_terminator}
use Rattle.escape_stream.proofs.PrintedText.{says_print, says_text, says_control}
use Rattle.escape_stream.proofs.CommandText.{final_byte, says_csi, says_command}

-- ---- Device control strings

-- After the opening of a device control string and some data the bytes give these actions, with those of the string, and
-- leave nothing open; there is no C1 control in them, even if the byte `before` comes before them.
record Feeds (header : List ℕ) (final : ℕ) (body : List ℕ) (before : ℕ) (bytes : List ℕ) (actions : List StreamAction) : Type 0 where
  asks : actions_of (flat_map dispatches_of (read_on (OpenDevice [] header final body) bytes).segments) ≡ actions
  whole : (read_on (OpenDevice [] header final body) bytes).tail ≡ Begun []
  unpaired : no_pair (before ∷ bytes) ≡ true

feeds_same : {header : List ℕ} {final : ℕ} {body : List ℕ} {before : ℕ} {bytes : List ℕ} {a b : List StreamAction} → a ≡ b → Feeds header final body before bytes a → Feeds header final body before bytes b
feeds_same q h = record { asks = h.asks ∙ q; whole = h.whole; unpaired = h.unpaired }

escape_ends : (header : List ℕ) (final : ℕ) (body : List ℕ) → next_byte (OpenDevice [] header final body) 27 ≡ ends_before (DeviceControl [] header final body) (first_byte 27)
unfolding next_byte is_stop
escape_ends header final body = refl

data_asks : (body : List ℕ) → actions_of (map Data body ++ Exit ∷ []) ≡ map data_byte body ++ exit ∷ []
data_asks [] = refl
data_asks (b ∷ body) = ap (λ l. data_byte b ∷ l) (data_asks body)

-- ESC ends the data
feeds_end : (header : List ℕ) (final : ℕ) (body : List ℕ) (before : ℕ) (bytes : List ℕ) (actions : List StreamAction) → list_all is_plain header ≡ true → Says (27 ∷ bytes) actions
    → Feeds header final body before (27 ∷ bytes) (enter header final ∷ (map data_byte body ++ exit ∷ actions))
feeds_end header final body before bytes actions p h =
    record {
      asks = ap (λ (r : Reading). actions_of (flat_map dispatches_of r.segments)) e
          ∙ flat_map-append actions_of_dispatch (dispatches_of (DeviceControl [] header final body)) (flat_map dispatches_of (read_on (Begun []) (27 ∷ bytes)).segments)
          ∙ ap (λ l. actions_of (dispatches_of (DeviceControl [] header final body)) ++ l) h.asks
          ∙ ap (λ l. (enter (taken header) final ∷ l) ++ actions) (data_asks body)
          ∙ ap (λ l. enter l final ∷ ((map data_byte body ++ exit ∷ []) ++ actions)) (taken_plain header p)
          ∙ ap (λ l. enter header final ∷ l) (append_assoc (map data_byte body) (exit ∷ []) actions);
      whole = ap (λ (r : Reading). r.tail) e ∙ h.whole;
      unpaired = pair_stands before 27 bytes (before_escape before) (no_pair_after (0xC2 ∷ []) (27 ∷ bytes) h.unpaired);
    }
  where
    e : read_on (OpenDevice [] header final body) (27 ∷ bytes) ≡ after (DeviceControl [] header final body) (read_on (Begun []) (27 ∷ bytes))
    e = step_ends_before (OpenDevice [] header final body) (DeviceControl [] header final body) 27 bytes (escape_ends header final body)

no_stop : (b : ℕ) → b ≢ 24 → b ≢ 26 → b ≢ 27 → not (is_stop b) ≡ true
unfolding is_stop
no_stop b k l m = grind (arith, nat_tests)

-- a byte of the data
feeds_byte : (header : List ℕ) (final : ℕ) (body : List ℕ) (before b : ℕ) (bytes : List ℕ) (actions : List StreamAction) → IsDataByte before b → Feeds header final (body ++ b ∷ []) b bytes actions
    → Feeds header final body before (b ∷ bytes) actions
feeds_byte header final body before b bytes actions d h =
    let s = stays_device [] header final body b (no_stop b d.not_cancel d.not_substitute d.not_escape) in
    let e = step_waits (OpenDevice [] header final body) (OpenDevice [] header final (body ++ b ∷ [])) b bytes s in
    record {
      asks = ap (λ (r : Reading). actions_of (flat_map dispatches_of r.segments)) e ∙ h.asks;
      whole = ap (λ (r : Reading). r.tail) e ∙ h.whole;
      unpaired = pair_stands before b bytes d.not_c1 h.unpaired;
    }

-- the opening
says_device : (header : List ℕ) (final : ℕ) (bytes : List ℕ) (actions : List StreamAction) → IsOpening header final → Feeds header final [] final bytes actions
    → Says (27 ∷ 80 ∷ ((header ++ final ∷ []) ++ bytes)) actions
says_device header final bytes actions o h = record {
  asks = ap (λ (r : Reading). actions_of (flat_map dispatches_of r.segments)) e ∙ h.asks;
  whole = ap (λ (r : Reading). r.tail) e ∙ h.whole;
  unpaired = ap (λ l. no_pair (0xC2 ∷ 27 ∷ 80 ∷ l)) (append_assoc header (final ∷ []) bytes) ∙ low_text (27 ∷ 80 ∷ []) (header ++ final ∷ bytes) refl later;
}
  where
    e : read_on (Begun []) (27 ∷ 80 ∷ ((header ++ final ∷ []) ++ bytes)) ≡ read_on (OpenDevice [] header final []) bytes
    e = reads_tail (OpenDevice [] header final []) bytes (refl, parameters_inside header (header_bytes header o.header_bytes), final_byte final o.low o.high, refl)

    later : no_pair (0xC2 ∷ (header ++ final ∷ bytes)) ≡ true
    later = low_text header (final ∷ bytes) (parameters_low header (header_bytes header o.header_bytes)) (low_stands final bytes (low_byte final o.high) (no_pair_after (final ∷ []) bytes h.unpaired))

-- ---- The lists

-- the bytes of the list read back: at the start of a segment, after an action that closed a string, and within the data of a
-- device control string
record Back (actions : List StreamAction) : Type 0 where
  start : IsWritableAfter None actions → Says (texts_after false actions) (read_form_after false actions)
  closed : IsWritableAfter None actions → Says (27 ∷ 92 ∷ texts_after true actions) (read_form_after true actions)
  within : (header : List ℕ) (final : ℕ) (body : List ℕ) (before : ℕ) → list_all is_plain header ≡ true → IsWritableAfter (Some before) actions
      → Feeds header final body before (texts_after false actions) (enter header final ∷ (map data_byte body ++ read_form_after false actions))

-- a list that no string terminator begins, and no part of a device control string
outside : (actions : List StreamAction) → (IsWritableAfter None actions → Says (texts_after false actions) (read_form_after false actions)) → texts_after true actions ≡ texts_after false actions
    → read_form_after true actions ≡ string_terminator ∷ read_form_after false actions → ((before : ℕ) → IsWritableAfter (Some before) actions → ⊥) → Back actions
outside actions start text form n = record {
  start = start;
  closed = λ w. says_same (ap (λ l. 27 ∷ 92 ∷ l) (sym text)) (sym form) (says_terminator (texts_after false actions) (read_form_after false actions) (start w));
  within = λ header final body before p w. absurd (n before w);
}

is_the_terminator : (e : Esc) → is_terminator_pair e ≡ true → esc e ≡ string_terminator
is_the_terminator (pair.Code code.StringTerminator) h = refl
is_the_terminator e h = cc

pair_closed : (e : Esc) (bytes : List ℕ) (actions : List StreamAction) (u : Bool) → is_terminator_pair e ≡ u → Says (esc_text e ++ bytes) (esc e ∷ actions) → Says bytes actions
    → Says (27 ∷ 92 ∷ (cond u [] (esc_text e) ++ bytes)) ((terminator_before true u ++ esc e ∷ []) ++ actions)
pair_closed e bytes actions true h s r = says_same refl (ap (λ x. x ∷ actions) (sym (is_the_terminator e h))) (says_terminator bytes actions r)
pair_closed e bytes actions false h s r = says_terminator (esc_text e ++ bytes) (esc e ∷ actions) s

data_moves : (body : List ℕ) (b : ℕ) (actions : List StreamAction) → map data_byte (body ++ b ∷ []) ++ actions ≡ map data_byte body ++ data_byte b ∷ actions
data_moves body b actions = ap (λ l. l ++ actions) (map-append data_byte body (b ∷ [])) ∙ append_assoc (map data_byte body) (data_byte b ∷ []) actions

back : (actions : List StreamAction) → Back actions
back [] = record { start = λ w. says_nothing; closed = λ w. says_terminator [] [] says_nothing; within = λ header final body before p w. absurd w }
back (print c ∷ remaining) =
    let r = back remaining in
    outside (print c ∷ remaining) (λ w. says_print c (texts_after false remaining) (read_form_after false remaining) w.0.0 w.0.1 (r.start w.1)) refl refl (λ before w. w)
back (print_string text ∷ remaining) =
    let r = back remaining in
    outside (print_string text ∷ remaining) (λ w. says_text text (texts_after false remaining) (read_form_after false remaining) w.0 (r.start w.1)) refl refl (λ before w. w)
back (control n ∷ remaining) =
    let r = back remaining in
    outside (control n ∷ remaining) (λ w. says_control n (texts_after false remaining) (read_form_after false remaining) w.0 (r.start w.1)) refl refl (λ before w. w)
back (enter header final ∷ remaining) =
    let r = back remaining in
    outside (enter header final ∷ remaining) (λ w. says_device header final (texts_after false remaining) (enter header final ∷ read_form_after false remaining) w.0
    (r.within header final [] final (parameters_plain header (header_bytes header w.0.header_bytes)) w.1)) refl refl (λ before w. w)
back (data_byte b ∷ remaining) =
    let r = back remaining in
    record {
      start = λ w. absurd w.0;
      closed = λ w. absurd w.0;
      within = λ header final body before p w. feeds_byte header final body before b (texts_after false remaining) (enter header final ∷ (map data_byte body ++ data_byte b ∷ read_form_after false remaining)) w.0
          (feeds_same (ap (λ l. enter header final ∷ l) (data_moves body b (read_form_after false remaining))) (r.within header final (body ++ b ∷ []) b p w.1));
    }
back (exit ∷ remaining) =
    let r = back remaining in
    record {
      start = λ w. absurd w.0;
      closed = λ w. absurd w.0;
      within = λ header final body before p w. feeds_end header final body before (92 ∷ texts_after true remaining) (read_form_after true remaining) p (r.closed w);
    }
back (command c ∷ remaining) =
    let r = back remaining in
    outside (command c ∷ remaining) (λ w. says_command c (texts_after true remaining) (read_form_after true remaining) w.0 (r.closed w.1)) refl refl (λ before w. w)
back (csi a ∷ remaining) =
    let r = back remaining in
    outside (csi a ∷ remaining) (λ w. says_csi a (texts_after false remaining) (read_form_after false remaining) w.0 (r.start w.1)) refl refl (λ before w. w)
back (esc e ∷ remaining) =
    let r = back remaining in
    record {
      start = λ w. says_pair e (texts_after false remaining) (read_form_after false remaining) w.0 (r.start w.1);
      closed = λ w. pair_closed e (texts_after false remaining) (read_form_after false remaining) (is_terminator_pair e) refl
          (says_pair e (texts_after false remaining) (read_form_after false remaining) w.0 (r.start w.1)) (r.start w.1);
      within = λ header final body before p w. absurd w;
    }

pub writable_lists : (actions : List StreamAction) → IsWritable actions → (stream_actions (stream_text actions) ≡ read_form actions) × (tail_of (stream_text actions) ≡ Begun [])
writable_lists actions w = stream_says (stream_text actions) (read_form actions) ((back actions).start w)

-- after a stream that leaves nothing unfinished, too
pub writable_after : (stream : List ℕ) (actions : List StreamAction) → tail_of stream ≡ Begun [] → IsWritable actions
    → (newly_decided_actions stream (stream_text actions) ≡ read_form actions) × (tail_of (stream ++ stream_text actions) ≡ Begun [])
writable_after stream actions e w = stream_says_after stream (stream_text actions) (read_form actions) e ((back actions).start w)
