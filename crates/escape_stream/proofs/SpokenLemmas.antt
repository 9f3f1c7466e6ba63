-- Pieces, their texts by their characters, are the actions that bytes newly decide; and how they are joined.
use Rattle.std.proofs.Common.{◌≡◌, ℕ, ◌+◌, Bool, true, false, List, [], ◌∷◌, ◌++◌, length, map, drop, zero, suc, refl, ap, sym, subst, ◌∙◌, append_assoc, append-nil}
use Rattle.std.specs.Prelude.{◌==◌, ◌||◌, encode_utf8}
use Rattle.std.specs.Char.{IsScalar}
use Rattle.std.specs.List.{flat_map}
use Rattle.std.specs.Str.{IsUtf8, chars}
use Rattle.std.proofs.lemmas.Grind.{flat_map-append}
use Rattle.std.proofs.lemmas.List.{map-append}
use Rattle.std.proofs.lemmas.Str.{IsUtf8-encode, chars-append, chars_past_char, chars-nil}
use Rattle.escape_framing.specs.Segment.{Segment, Character, IllFormed, CutOff, Tail, Begun, OpenEscape, OpenControlSequence, OpenCommand, OpenHeader, OpenDevice, OpenString, IsSegment, StandInRow}
use Rattle.escape_framing.specs.Segment as segment
use Rattle.escape_framing.specs.Bytes.{taken}
use Rattle.escape_framing.specs.Dispatch.{Dispatch, Print, Control, Escape, ControlSequence, OperatingSystemCommand, Enter, Data, Exit, controls_in, escape_dispatch, control_sequence_dispatch, command_dispatch, settled, decided_of, dispatches_of}
use Rattle.escape_framing.specs.Cut.{the_cut, tail_of, dispatches, newly_decided}
use Rattle.escape_framing.proofs.Existence.CutLemmas.{is_the_cut}
use Rattle.escape_framing.specs.Placed.{placed_from}
use Rattle.escape_framing.specs.Framed as framing
use Rattle.escape_framing.specs.Framed.{Framed, framed, is_lent, put_text, put_character}
use Rattle.escape_framing.proofs.PlacedLemmas.{newly_join}
use Rattle.escape_stream.specs.StreamAction.{StreamAction, print}
use Rattle.escape_stream.specs.StreamActions.{actions_of_dispatch, actions_of, newly_decided_actions}
use Rattle.escape_stream.specs.Pieces.{Piece, Single, pieces_of, pieces, actions_of_piece, actions_of_pieces}

-- ---- a character that is printed is a scalar value

abbrev Prints : Dispatch → Type 0
Prints (Print c) = IsScalar c
Prints (Control b) = Unit {0}
Prints (Escape i f) = Unit {0}
Prints (ControlSequence t x f) = Unit {0}
Prints (OperatingSystemCommand body) = Unit {0}
Prints (Enter h f) = Unit {0}
Prints (Data b) = Unit {0}
Prints Exit = Unit {0}

abbrev AllPrint : List Dispatch → Type 0
AllPrint [] = Unit {0}
AllPrint (d ∷ ds) = Prints d × AllPrint ds

both_print : (xs ys : List Dispatch) → AllPrint xs → AllPrint ys → AllPrint (xs ++ ys)
both_print [] ys h k = k
both_print (d ∷ xs) ys h k = (h.0, both_print xs ys h.1 k)

drop_print : (n : ℕ) (xs : List Dispatch) → AllPrint xs → AllPrint (drop n xs)
drop_print zero xs h = h
drop_print (suc n) [] h = tt
drop_print (suc n) (d ∷ xs) h = drop_print n xs h.1

map_print : (f : ℕ → Dispatch) (xs : List ℕ) → ((b : ℕ) → Prints (f b)) → AllPrint (map f xs)
map_print f [] h = tt
map_print f (b ∷ xs) h = (h b, map_print f xs h)

controls_print : (bytes : List ℕ) → AllPrint (controls_in bytes)
controls_print bytes = map_print Control _ (λ b. tt)

data_print : (bytes : List ℕ) → AllPrint (map Data bytes)
data_print bytes = map_print Data bytes (λ b. tt)

escape_print : (xs : List ℕ) (f : ℕ) → AllPrint (escape_dispatch xs f)
unfolding escape_dispatch
escape_print [] f = (tt, tt)
escape_print (x ∷ []) f = (tt, tt)
escape_print (x ∷ y ∷ xs) f = tt

sequence_print : (parameters : List ℕ) (final : ℕ) → Prints (control_sequence_dispatch parameters final)
unfolding control_sequence_dispatch
sequence_print parameters final = tt

command_print : (body : List ℕ) (ender : ℕ) → AllPrint (command_dispatch body ender)
unfolding command_dispatch
command_print body ender = by_test (ender == 0x07 || ender == 0x1B) refl
  where
    by_test : (t : Bool) → (ender == 0x07 || ender == 0x1B) ≡ t → AllPrint (command_dispatch body ender)
    by_test true e = rw e (tt, tt)
    by_test false e = rw e tt

tail_print : (t : Tail) → AllPrint (decided_of t)
tail_print (Begun bytes) = tt
tail_print (OpenEscape body) = controls_print body
tail_print (OpenControlSequence opening body) = both_print _ _ (controls_print opening) (controls_print body)
tail_print (OpenCommand opening body) = controls_print opening
tail_print (OpenHeader opening header) = controls_print opening
tail_print (OpenDevice opening header final body) = both_print (controls_in opening) (Enter (taken header) final ∷ map Data (settled body)) (controls_print opening) (tt, data_print (settled body))
tail_print (OpenString opening opener body) = controls_print opening

segment_print : (s : Segment) (following : List ℕ) → IsSegment s following → AllPrint (dispatches_of s)
segment_print (segment.Character c) following h = (h.0, tt)
segment_print (segment.IllFormed bytes) following h = (refl, tt)
segment_print (segment.Control b) following h = (tt, tt)
segment_print (segment.Escape body final) following h = both_print _ _ (controls_print body) (escape_print (taken body) final)
segment_print (segment.ControlSequence opening body final) following h = both_print (controls_in opening ++ controls_in body) _ (both_print _ _ (controls_print opening) (controls_print body)) (sequence_print (taken body) final, tt)
segment_print (segment.OperatingSystemCommand opening body ender) following h = both_print _ _ (controls_print opening) (command_print body ender)
segment_print (segment.DeviceControl opening header final body) following h = both_print (controls_in opening ++ Enter (taken header) final ∷ map Data body) (Exit ∷ []) (both_print (controls_in opening) (Enter (taken header) final ∷ map Data body) (controls_print opening) (tt, data_print body)) (tt, tt)
segment_print (segment.String opening opener body) following h = controls_print opening
segment_print (segment.CutOff tail) following h = tail_print tail

row_print : (segments : List Segment) (tail : List ℕ) → StandInRow segments tail → AllPrint (flat_map dispatches_of segments)
row_print [] tail h = tt
row_print (s ∷ segments) tail h = both_print (dispatches_of s) (flat_map dispatches_of segments) (segment_print s _ h.0) (row_print segments tail h.1)

newly_print : (stream more : List ℕ) → AllPrint (newly_decided stream more)
newly_print stream more =
    let all = stream ++ more in
    drop_print _ (dispatches all) (both_print (flat_map dispatches_of (the_cut all).segments) (decided_of (tail_of all)) (row_print (the_cut all).segments _ (is_the_cut all).each) (tail_print (tail_of all)))

-- ---- pieces by their actions

single_actions : (actions : List StreamAction) → actions_of_pieces (map Single actions) ≡ actions
single_actions [] = refl
single_actions (a ∷ actions) = ap (λ (l : List StreamAction). a ∷ l) (single_actions actions)

pub single_after : (actions : List StreamAction) (items : List Piece) → actions_of_pieces (map Single actions ++ items) ≡ actions ++ actions_of_pieces items
single_after actions items = flat_map-append actions_of_piece (map Single actions) items ∙ ap (λ (l : List StreamAction). l ++ actions_of_pieces items) (single_actions actions)

single_framed : (d : Dispatch) (rest : List Framed) → actions_of_pieces (pieces_of (framing.Single d ∷ rest)) ≡ actions_of_dispatch d ++ actions_of_pieces (pieces_of rest)
single_framed d rest = single_after (actions_of_dispatch d) (pieces_of rest)

put_actions : (from : ℕ) (text : List ℕ) (rest : List Framed) → IsUtf8 text → actions_of_pieces (pieces_of (put_text from text rest)) ≡ map print (chars text) ++ actions_of_pieces (pieces_of rest)
put_actions from text [] u = refl
put_actions from text (framing.Single d ∷ rest) u = refl
put_actions from text (framing.Text next more ∷ rest) u = by_test (next == from + length text) refl
  where
    by_test : (t : Bool) → (next == from + length text) ≡ t → actions_of_pieces (pieces_of (put_text from text (framing.Text next more ∷ rest))) ≡ map print (chars text) ++ actions_of_pieces (pieces_of (framing.Text next more ∷ rest))
    by_test true e = rw e
        (ap (λ (l : List StreamAction). l ++ actions_of_pieces (pieces_of rest)) (ap (map print) (chars-append text more u) ∙ map-append print (chars text) (chars more))
        ∙ append_assoc (map print (chars text)) (map print (chars more)) (actions_of_pieces (pieces_of rest)))
    by_test false e = rw e refl

chars_of_one : (c : ℕ) → IsScalar c → chars (encode_utf8 c) ≡ c ∷ []
chars_of_one c s = chars_past_char (encode_utf8 c) [] c (IsUtf8-encode c s) (sym (append-nil (encode_utf8 c))) ∙ ap (λ (l : List ℕ). c ∷ l) chars-nil

character_actions : (start offset c : ℕ) (rest : List Framed) → IsScalar c → actions_of_pieces (pieces_of (put_character start offset c rest)) ≡ print c ∷ actions_of_pieces (pieces_of rest)
character_actions start offset c rest s = by_test (is_lent start offset c) refl
  where
    by_test : (t : Bool) → is_lent start offset c ≡ t → actions_of_pieces (pieces_of (put_character start offset c rest)) ≡ print c ∷ actions_of_pieces (pieces_of rest)
    by_test true e = rw e (put_actions _ (encode_utf8 c) rest (IsUtf8-encode c s) ∙ ap (λ (l : List ℕ). map print l ++ actions_of_pieces (pieces_of rest)) (chars_of_one c s))
    by_test false e = rw e refl

abbrev seconds : List (ℕ × Dispatch) → List Dispatch
seconds placed = map (λ (p : ℕ × Dispatch). p.1) placed

framed_actions : (start : ℕ) (placed : List (ℕ × Dispatch)) → AllPrint (seconds placed) → actions_of_pieces (pieces_of (framed start placed)) ≡ actions_of (seconds placed)
framed_actions start [] h = refl
framed_actions start ((n, Print c) ∷ placed) h = character_actions start n c (framed start placed) h.0 ∙ ap (λ (l : List StreamAction). print c ∷ l) (framed_actions start placed h.1)
framed_actions start ((n, Control b) ∷ placed) h = single_framed (Control b) (framed start placed) ∙ ap (λ (l : List StreamAction). actions_of_dispatch (Control b) ++ l) (framed_actions start placed h.1)
framed_actions start ((n, Escape i f) ∷ placed) h = single_framed (Escape i f) (framed start placed) ∙ ap (λ (l : List StreamAction). actions_of_dispatch (Escape i f) ++ l) (framed_actions start placed h.1)
framed_actions start ((n, ControlSequence t x f) ∷ placed) h = single_framed (ControlSequence t x f) (framed start placed) ∙ ap (λ (l : List StreamAction). actions_of_dispatch (ControlSequence t x f) ++ l) (framed_actions start placed h.1)
framed_actions start ((n, OperatingSystemCommand body) ∷ placed) h = single_framed (OperatingSystemCommand body) (framed start placed) ∙ ap (λ (l : List StreamAction). actions_of_dispatch (OperatingSystemCommand body) ++ l) (framed_actions start placed h.1)
framed_actions start ((n, Enter x f) ∷ placed) h = single_framed (Enter x f) (framed start placed) ∙ ap (λ (l : List StreamAction). actions_of_dispatch (Enter x f) ++ l) (framed_actions start placed h.1)
framed_actions start ((n, Data b) ∷ placed) h = single_framed (Data b) (framed start placed) ∙ ap (λ (l : List StreamAction). actions_of_dispatch (Data b) ++ l) (framed_actions start placed h.1)
framed_actions start ((n, Exit) ∷ placed) h = single_framed Exit (framed start placed) ∙ ap (λ (l : List StreamAction). actions_of_dispatch Exit ++ l) (framed_actions start placed h.1)

-- the dispatches of a call, without their offsets, are those that its bytes newly decide
at_one_offset : (n : ℕ) (ds : List Dispatch) → seconds (map (λ d. (n, d)) ds) ≡ ds
at_one_offset n [] = refl
at_one_offset n (d ∷ ds) = ap (λ (l : List Dispatch). d ∷ l) (at_one_offset n ds)

nothing_new : (stream : List ℕ) → newly_decided stream [] ≡ []
nothing_new stream = ap (λ (s : List ℕ). drop (length (dispatches stream)) (dispatches s)) (append-nil stream) ∙ all_dropped (dispatches stream)
  where
    all_dropped : (xs : List Dispatch) → drop (length xs) xs ≡ []
    all_dropped [] = refl
    all_dropped (x ∷ xs) = all_dropped xs

pub newly_placed : (stream bytes : List ℕ) → seconds (placed_from stream bytes) ≡ newly_decided stream bytes
newly_placed stream [] = sym (nothing_new stream)
newly_placed stream (b ∷ bytes) =
    map-append (λ (p : ℕ × Dispatch). p.1) (map (λ d. (length stream + 1, d)) (newly_decided stream (b ∷ []))) (placed_from (stream ++ b ∷ []) bytes)
    ∙ (λ i. at_one_offset (length stream + 1) (newly_decided stream (b ∷ [])) i ++ newly_placed (stream ++ b ∷ []) bytes i)
    ∙ sym (newly_join stream (b ∷ []) bytes)

-- the actions of the pieces of a call are those that its bytes newly decide
pub pieces_say : (stream bytes : List ℕ) → actions_of_pieces (pieces stream bytes) ≡ newly_decided_actions stream bytes
pieces_say stream bytes =
    framed_actions (length stream) (placed_from stream bytes) (subst AllPrint (sym (newly_placed stream bytes)) (newly_print stream bytes))
    ∙ ap actions_of (newly_placed stream bytes)
