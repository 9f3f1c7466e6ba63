-- Between two neighbouring texts is a segment that hands nothing out.
use Rattle.std.proofs.Common.{◌≡◌, ◌≢◌, ℕ, ◌+◌, ◌-◌, ◌≤◌, ◌⊎◌, inl, inr, true, false, List, [], ◌∷◌, ◌++◌, length, map, refl, sym, ap, subst, ◌∙◌, arith, append_assoc, append-nil, length-append, ⊎_elim}
use Rattle.std.specs.Prelude.{◌==◌, not, nat_le, ◌||◌, encode_utf8, Contains}
use Rattle.std.specs.Char.{IsScalar}
use Rattle.std.specs.List.{flat_map}
use Rattle.std.proofs.lemmas.List.{map-append}
use Rattle.text_clusters.specs.Controls.{is_c1}
use lib.Utf8.{encode}
use Rattle.escape_framing.specs.SevenBit.{seven_bit}
use Rattle.escape_framing.specs.Bytes.{taken}
use Rattle.escape_framing.specs.Segment.{Tail, Begun, OpenEscape, OpenControlSequence, OpenCommand, OpenHeader, OpenDevice, OpenString, Segment, Character, IllFormed, CutOff, bytes_of, IsPrintable}
use Rattle.escape_framing.specs.Segment as segment
use Rattle.escape_framing.specs.Dispatch.{Dispatch, Print, Control, Enter, Data, Exit, controls_in, escape_dispatch, control_sequence_dispatch, command_dispatch, settled, decided_of, dispatches_of}
use Rattle.escape_framing.specs.Cut.{the_cut, dispatches, newly_decided}
use Rattle.escape_framing.specs.Placed.{placed_from}
use Rattle.escape_framing.specs.PlacedSegments.{placed_segments, LiesBetween}
use Rattle.escape_framing.specs.Held.{Held, held_step, nothing_held, hand_out, held_of}
use Rattle.escape_framing.specs.Framed.{Framed, Text, Single, is_lent, put_text, framed, at_offset, placed_after, begun_bytes, IsLendable}
use Rattle.escape_framing.proofs.Begun.{is_body}
use Rattle.escape_framing.proofs.Existence.Utf8Lemmas.{Spelled, in_one, in_two, in_three, in_four, spelled}
use Rattle.escape_framing.proofs.HeldLemmas.{decided, newly_handed, held_append, step_decides}
use Rattle.escape_framing.proofs.PlacedLemmas.{newly_join}
use Rattle.escape_framing.proofs.IdleLemmas.{idle_is_whole}
use Rattle.escape_framing.proofs.FramedLemmas.{never_lent}
use Rattle.escape_framing.proofs.TextLemmas.{lent_character}
use Rattle.escape_framing.proofs.PrintLemmas.{PrintNone, none_append, escape_quiet, Ending, goes_on, prints, quiet, replaces, Printing, whole_one, breaks_one, controls_quiet}
use Rattle.escape_framing.proofs.SoundLemmas.{stream_sound, held_prints, held_body}
use Rattle.escape_framing.proofs.SingleLemmas.{IsAlone, none_alone, print_alone}
use Rattle.escape_framing.proofs.SpellLemmas.{placed_same}
use Rattle.escape_framing.proofs.SegmentOffsets.{whole_form, whole_length, stands_after}
use Rattle.std.proofs.lemmas.Bool.{cond_both, cases_Bool, leb-true, and_parts, eqb-true, eqb-false}
use Rattle.escape_framing.proofs.CharacterReading.{no_escape}

-- ---- segments that print

none_last : (ds : List Dispatch) (c : ℕ) → PrintNone (ds ++ Print c ∷ []) → ⊥
none_last [] c p = p
none_last (Print d ∷ ds) c p = p
none_last (_ ∷ ds) c p = none_last ds c p

data_print_none : (bytes : List ℕ) → PrintNone (map Data bytes)
data_print_none [] = tt
data_print_none (b ∷ bytes) = data_print_none bytes

command_print_none : (body : List ℕ) (ender : ℕ) → PrintNone (command_dispatch body ender)
unfolding command_dispatch
command_print_none body ender = cond_both (ender == 0x07 || ender == 0x1B) _ _ PrintNone (λ e. tt) (λ e. tt)

device_print_none : (opening header : List ℕ) (final : ℕ) (bytes : List ℕ) → PrintNone (controls_in opening ++ Enter (taken header) final ∷ map Data bytes)
device_print_none opening header final bytes = none_append (controls_in opening) (Enter (taken header) final ∷ map Data bytes) (controls_quiet opening) (data_print_none bytes)

tail_print_none : (t : Tail) → PrintNone (decided_of t)
tail_print_none (Begun bytes) = tt
tail_print_none (OpenEscape body) = controls_quiet body
tail_print_none (OpenControlSequence o body) = none_append (controls_in o) (controls_in body) (controls_quiet o) (controls_quiet body)
tail_print_none (OpenCommand o body) = controls_quiet o
tail_print_none (OpenHeader o header) = controls_quiet o
tail_print_none (OpenDevice o header f body) = device_print_none o header f (settled body)
tail_print_none (OpenString o x body) = controls_quiet o

-- a segment whose last dispatch prints a character to lend is that character
prints_last : (s : Segment) (ds : List Dispatch) (c : ℕ) → c ≢ 0xFFFD → dispatches_of s ≡ ds ++ Print c ∷ [] → s ≡ Character c
prints_last s ds c n e = by_shape s e
  where
    no_print : (xs : List Dispatch) → PrintNone xs → xs ≡ ds ++ Print c ∷ [] → ⊥
    no_print xs p k = none_last ds c (subst PrintNone k p)

    alone : (d : ℕ) (prefix : List Dispatch) → Print d ∷ [] ≡ prefix ++ Print c ∷ [] → d ≡ c
    alone d [] k = cc
    alone d (x ∷ []) k = cc
    alone d (x ∷ y ∷ prefix) k = cc

    by_shape : (s : Segment) → dispatches_of s ≡ ds ++ Print c ∷ [] → s ≡ Character c
    by_shape (Character d) k = ap Character (alone d ds k)
    by_shape (IllFormed bytes) k = absurd (n (sym (alone 0xFFFD ds k)))
    by_shape (segment.Control b) k = absurd (no_print (Control b ∷ []) tt k)
    by_shape (segment.Escape body final) k =
        absurd (no_print (controls_in body ++ escape_dispatch (taken body) final) (none_append (controls_in body) (escape_dispatch (taken body) final) (controls_quiet body) (escape_quiet (taken body) final)) k)
    by_shape (segment.ControlSequence o body final) k =
        absurd (no_print ((controls_in o ++ controls_in body) ++ control_sequence_dispatch (taken body) final ∷ [])
        (none_append (controls_in o ++ controls_in body) (control_sequence_dispatch (taken body) final ∷ [])
        (none_append (controls_in o) (controls_in body) (controls_quiet o) (controls_quiet body)) (unfold control_sequence_dispatch in tt)) k)
    by_shape (segment.OperatingSystemCommand o body ender) k =
        absurd (no_print (controls_in o ++ command_dispatch body ender) (none_append (controls_in o) (command_dispatch body ender) (controls_quiet o) (command_print_none body ender)) k)
    by_shape (segment.DeviceControl o header final body) k =
        absurd (no_print ((controls_in o ++ Enter (taken header) final ∷ map Data body) ++ Exit ∷ [])
        (none_append (controls_in o ++ Enter (taken header) final ∷ map Data body) (Exit ∷ []) (device_print_none o header final body) tt) k)
    by_shape (segment.String o x body) k = absurd (no_print (controls_in o) (controls_quiet o) k)
    by_shape (CutOff tail) k = absurd (no_print (decided_of tail) (tail_print_none tail) k)

-- ---- where the last of two joined lists of dispatches falls

data Falls (xs ys ds : List Dispatch) (d : Dispatch) : Type 0 where
  in_second : (rest : List Dispatch) → ds ≡ xs ++ rest → ys ≡ rest ++ d ∷ [] → Falls xs ys ds d
  in_first : xs ≡ ds ++ d ∷ [] → Falls xs ys ds d

no_prefix : (xs ys : List Dispatch) → xs ++ ys ≡ [] → xs ≡ []
no_prefix [] ys e = refl
no_prefix (x ∷ xs) ys e = cc

falls : (xs ys ds : List Dispatch) (d : Dispatch) → xs ++ ys ≡ ds ++ d ∷ [] → Falls xs ys ds d
falls [] ys ds d e = in_second ds refl e
falls (x ∷ xs) ys [] d e =
    let f : x ≡ d = cc in
    let g : xs ++ ys ≡ [] = cc in
    in_first (λ i. f i ∷ no_prefix xs ys g i)
falls (x ∷ xs) ys (y ∷ ds) d e = one_more (falls xs ys ds d (let k : xs ++ ys ≡ ds ++ d ∷ [] = cc in k))
  where
    same : x ≡ y
    same = cc

    one_more : Falls xs ys ds d → Falls (x ∷ xs) ys (y ∷ ds) d
    one_more (in_second rest f g) = in_second rest (λ i. sym same i ∷ f i) g
    one_more (in_first f) = in_first (λ i. same i ∷ f i)

-- segments that print a character to lend have its bytes
holds_character : (segments : List Segment) (ds : List Dispatch) (c : ℕ) → c ≢ 0xFFFD → flat_map dispatches_of segments ≡ ds ++ Print c ∷ [] → length (encode_utf8 c) ≤ length (flat_map bytes_of segments)
holds_character [] [] c n e = cc
holds_character [] (d ∷ ds) c n e = cc
holds_character (s ∷ segments) ds c n e = by_part (falls (dispatches_of s) (flat_map dispatches_of segments) ds (Print c) e) (λ rest k. holds_character segments rest c n k)
  where
    by_part : Falls (dispatches_of s) (flat_map dispatches_of segments) ds (Print c)
        → ((rest : List Dispatch) → flat_map dispatches_of segments ≡ rest ++ Print c ∷ [] → length (encode_utf8 c) ≤ length (flat_map bytes_of segments))
        → length (encode_utf8 c) ≤ length (bytes_of s ++ flat_map bytes_of segments)
    by_part (in_second rest f g) later = omega (arith, later rest g, length-append (bytes_of s) (flat_map bytes_of segments))
    by_part (in_first f) later =
        let k : length (bytes_of s) ≡ length (encode_utf8 c) = ap (λ (x : Segment). length (bytes_of x)) (prints_last s ds c n f) in
        omega (arith, k, length-append (bytes_of s) (flat_map bytes_of segments))

-- ---- a character at the start of a seven-bit form

-- no byte is ESC
abbrev NoEscape : List ℕ → Type 0
NoEscape [] = Unit {0}
NoEscape (b ∷ bytes) = (b ≢ 0x1B) × NoEscape bytes

no_escape_in : (c : ℕ) → IsScalar c → IsPrintable c → NoEscape (encode c)
no_escape_in c s p = by_kind (spelled c s)
  where
    by_kind : Spelled c → NoEscape (encode c)
    by_kind (in_one l e) = subst NoEscape (sym e) (no_escape c p, tt)
    by_kind (in_two g l e) = subst NoEscape (sym e) (λ k. omega arith, (λ k. omega arith, tt))
    by_kind (in_three g l t e) = subst NoEscape (sym e) (λ k. omega arith, (λ k. omega arith, (λ k. omega arith, tt)))
    by_kind (in_four g l e) = subst NoEscape (sym e) (λ k. omega arith, (λ k. omega arith, (λ k. omega arith, (λ k. omega arith, tt))))

-- bytes at the start of the form are those of the stream
prefix_is : (p s l : List ℕ) → NoEscape p → seven_bit s ≡ p ++ l → (rest : List ℕ) × (s ≡ p ++ rest)
prefix_is [] s l n e = (s, refl)
prefix_is (a ∷ p) [] l n e = cc
prefix_is (a ∷ p) (x ∷ []) l n e = (l, e)
prefix_is (a ∷ p) (x ∷ y ∷ s) l n e = ⊎_elim
    (λ f. let k : 0x1B ∷ (y - 0x40) ∷ seven_bit s ≡ a ∷ p ++ l = rw f at e in
    let m : 0x1B ≡ a = cc in absurd (n.0 (sym m)))
    (λ f. let k : x ∷ seven_bit (y ∷ s) ≡ a ∷ p ++ l = rw f at e in
    let m : x ≡ a = cc in
    let r = prefix_is p (y ∷ s) l n.1 (let g : seven_bit (y ∷ s) ≡ p ++ l = cc in g) in (r.0, (λ i. m i ∷ r.1 i)))
    (cases_Bool (is_c1 x y))

-- ---- one byte

-- What a byte hands out: each dispatch by itself, or at last a character to lend, and nothing is held after it.
data HandsOut (start offset : ℕ) (ds : List Dispatch) (after : Held) : Type 0 where
  each_alone : IsAlone start offset ds → HandsOut start offset ds after
  last_lent : (prefix : List Dispatch) (c : ℕ) → IsLendable c → ds ≡ prefix ++ Print c ∷ [] → IsAlone start offset prefix → is_lent start offset c ≡ true → after ≡ nothing_held → HandsOut start offset ds after

lent_is_other : (start offset c : ℕ) → is_lent start offset c ≡ true → c ≢ 0xFFFD
lent_is_other start offset c h e = let k : true ≡ false = sym h ∙ never_lent start offset c e in cc

lent_within : (start offset c : ℕ) → is_lent start offset c ≡ true → start + length (encode_utf8 c) ≤ offset
lent_within start offset c h = leb-true _ _ (and_parts (not (c == 0xFFFD)) (nat_le (start + length (encode_utf8 c)) offset) h).1

of_ending : (start offset b : ℕ) (p : List ℕ) (ds : List Dispatch) (h : Held) → Ending p b ds h.kept h.waiting → HandsOut start offset ds h
of_ending start offset b p ds h (goes_on e f) = each_alone (subst (IsAlone start offset) (sym e) (λ placed. refl))
of_ending start offset b p ds h (prints c s q e f g w) = ⊎_elim
    (λ k. last_lent [] c (s, q, lent_is_other start offset c k) f (λ placed. refl) k (λ i. record { kept = g i; waiting = w i }))
    (λ k. each_alone (subst (IsAlone start offset) (sym f) (print_alone start offset c [] k (λ placed. refl))))
    (cases_Bool (is_lent start offset c))
of_ending start offset b p ds h (quiet q g w) = each_alone (none_alone start offset ds q)
of_ending start offset b p ds h (replaces f g w) = each_alone (subst (IsAlone start offset) (sym f) (print_alone start offset 0xFFFD [] (never_lent start offset 0xFFFD refl) (λ placed. refl)))

of_printing : (start offset b : ℕ) (p : List ℕ) (ds : List Dispatch) (h : Held) → Printing p b ds h.kept h.waiting → HandsOut start offset ds h
of_printing start offset b p ds h (whole_one t) = of_ending start offset b p ds h t
of_printing start offset b p ds h (breaks_one remaining e t) = after_broken (of_ending start offset b [] remaining h t)
  where
    never : is_lent start offset 0xFFFD ≡ false
    never = never_lent start offset 0xFFFD refl

    after_broken : HandsOut start offset remaining h → HandsOut start offset ds h
    after_broken (each_alone a) = each_alone (subst (IsAlone start offset) (sym e) (print_alone start offset 0xFFFD remaining never a))
    after_broken (last_lent prefix c l f a k n) = last_lent (Print 0xFFFD ∷ prefix) c l (e ∙ ap (λ (x : List Dispatch). Print 0xFFFD ∷ x) f) (print_alone start offset 0xFFFD prefix never a) k n

step_hands_out : (stream : List ℕ) (b start offset : ℕ) → HandsOut start offset (held_step (held_of stream) b).dispatches (held_step (held_of stream) b).held
step_hands_out stream b start offset = ⊎_elim
    (λ e. each_alone (none_alone start offset (held_step (held_of stream) b).dispatches (held_body (held_of stream) b (stream_sound stream) e).0))
    (λ e. of_printing start offset b (begun_bytes (held_of stream)) (held_step (held_of stream) b).dispatches (held_step (held_of stream) b).held (held_prints (held_of stream) b (stream_sound stream) e))
    (cases_Bool (is_body (held_of stream).kept))

byte_hands_out : (stream : List ℕ) (b start offset : ℕ) → HandsOut start offset (newly_decided stream (b ∷ [])) (held_of (stream ++ b ∷ []))
byte_hands_out stream b start offset =
    let d = step_decides stream b in
    subst (λ (ds : List Dispatch). HandsOut start offset ds (held_of (stream ++ b ∷ []))) (sym d.0)
    (subst (λ (h : Held). HandsOut start offset (held_step (held_of stream) b).dispatches h) (sym d.1) (step_hands_out stream b start offset))

-- a character to lend is put before the items after it
lends_text : (start offset c : ℕ) (ds prefix : List Dispatch) (placed : List (ℕ × Dispatch)) → ds ≡ prefix ++ Print c ∷ [] → IsAlone start offset prefix → is_lent start offset c ≡ true
    → framed start (at_offset offset ds ++ placed) ≡ map Single prefix ++ put_text (offset - length (encode_utf8 c)) (encode_utf8 c) (framed start placed)
lends_text start offset c ds prefix placed e a k =
    let one : List (ℕ × Dispatch) = at_offset offset (Print c ∷ []) in
    ap (λ (l : List Dispatch). framed start (at_offset offset l ++ placed)) e
    ∙ ap (λ (l : List (ℕ × Dispatch)). framed start (l ++ placed)) (map-append (λ d. (offset, d)) prefix (Print c ∷ []))
    ∙ ap (framed start) (append_assoc (at_offset offset prefix) one placed)
    ∙ a (one ++ placed)
    ∙ (rw k refl)

-- ---- items in a row

no_items : (before : List Framed) (i : Framed) (remaining : List Framed) → [] ≡ before ++ i ∷ remaining → ⊥
no_items [] i remaining e = cc
no_items (x ∷ before) i remaining e = cc

-- after dispatches by themselves
after_single : (xs : List Dispatch) (rest before : List Framed) (from : ℕ) (text : List ℕ) (remaining : List Framed) → map Single xs ++ rest ≡ before ++ Text from text ∷ remaining
    → (prefix : List Framed) × (rest ≡ prefix ++ Text from text ∷ remaining)
after_single [] rest before from text remaining e = (before, e)
after_single (x ∷ xs) rest [] from text remaining e = cc
after_single (x ∷ xs) rest (y ∷ before) from text remaining e = after_single xs rest before from text remaining (let k : map Single xs ++ rest ≡ before ++ Text from text ∷ remaining = cc in k)

-- some of those before a text
record Left (xs ds : List Dispatch) (rest : List Framed) (next : ℕ) (more : List ℕ) (remaining : List Framed) : Type 0 where
  left : List Dispatch
  joined : ds ≡ xs ++ left
  after : rest ≡ map Single left ++ Text next more ∷ remaining

left_of : (xs ds : List Dispatch) (rest : List Framed) (next : ℕ) (more : List ℕ) (remaining : List Framed) → map Single xs ++ rest ≡ map Single ds ++ Text next more ∷ remaining → Left xs ds rest next more remaining
left_of [] ds rest next more remaining e = record { left = ds; joined = refl; after = e }
left_of (x ∷ xs) [] rest next more remaining e = cc
left_of (x ∷ xs) (d ∷ ds) rest next more remaining e =
    let k = left_of xs ds rest next more remaining (let f : map Single xs ++ rest ≡ map Single ds ++ Text next more ∷ remaining = cc in f) in
    let same : d ≡ x = cc in
    record { left = k.left; joined = (λ i. same i ∷ k.joined i); after = k.after }

-- a text that is put begins the items
record Begins (from : ℕ) (items : List Framed) : Type 0 where
  text : List ℕ
  remaining : List Framed
  are : items ≡ Text from text ∷ remaining

put_begins : (from : ℕ) (text : List ℕ) (rest : List Framed) → Begins from (put_text from text rest)
put_begins from text [] = record { text = text; remaining = []; are = refl }
put_begins from text (Single d ∷ rest) = record { text = text; remaining = Single d ∷ rest; are = refl }
put_begins from text (Text next more ∷ rest) =
    cond_both (next == from + length text) _ _ (Begins from) (λ e. record { text = text ++ more; remaining = rest; are = refl }) (λ e. record { text = text; remaining = Text next more ∷ rest; are = refl })

first_is : (from : ℕ) (text : List ℕ) (rest : List Framed) (ds : List Dispatch) (next : ℕ) (more : List ℕ) (remaining : List Framed) → put_text from text rest ≡ map Single ds ++ Text next more ∷ remaining → (ds ≡ []) × (from ≡ next)
first_is from text rest ds next more remaining e = by_dispatches ds (sym (put_begins from text rest).are ∙ e)
  where
    by_dispatches : (ds : List Dispatch) → Text from (put_begins from text rest).text ∷ (put_begins from text rest).remaining ≡ map Single ds ++ Text next more ∷ remaining → (ds ≡ []) × (from ≡ next)
    by_dispatches [] k = (refl, cc)
    by_dispatches (d ∷ ds) k = cc

-- Where a text is once another was put before the items: it is that one, or it was there and ended where it ends now.
data Put (first : ℕ) (characters : List ℕ) (rest : List Framed) (from : ℕ) (text : List ℕ) (remaining : List Framed) : Type 0 where
  is_put : remaining ≡ rest → first + length characters ≡ from + length text → ((next : ℕ) (more : List ℕ) (after : List Framed) → rest ≡ Text next more ∷ after → next ≢ first + length characters) → Put first characters rest from text remaining
  stood : (before : List Framed) (old : ℕ) (shown : List ℕ) → rest ≡ before ++ Text old shown ∷ remaining → old + length shown ≡ from + length text → Put first characters rest from text remaining

put_where : (first : ℕ) (characters : List ℕ) (rest before : List Framed) (from : ℕ) (text : List ℕ) (remaining : List Framed) → put_text first characters rest ≡ before ++ Text from text ∷ remaining → Put first characters rest from text remaining
put_where first characters [] [] from text remaining e =
    let k : [] ≡ remaining = cc in
    let f : first ≡ from = cc in
    let t : characters ≡ text = cc in
    is_put (sym k) (λ i. f i + length (t i)) (λ next more after m. cc)
put_where first characters [] (y ∷ before) from text remaining e = absurd (no_items before (Text from text) remaining (let k : [] ≡ before ++ Text from text ∷ remaining = cc in k))
put_where first characters (Single d ∷ rest) [] from text remaining e =
    let k : Single d ∷ rest ≡ remaining = cc in
    let f : first ≡ from = cc in
    let t : characters ≡ text = cc in
    is_put (sym k) (λ i. f i + length (t i)) (λ next more after m. cc)
put_where first characters (Single d ∷ rest) (y ∷ before) from text remaining e = stood before from text (let k : Single d ∷ rest ≡ before ++ Text from text ∷ remaining = cc in k) refl
put_where first characters (Text next more ∷ rest) before from text remaining e =
    ⊎_elim (λ k. joins before (eqb-true next (first + length characters) k) (rw k at e)) (λ k. separate before (eqb-false next (first + length characters) k) (rw k at e)) (cases_Bool (next == first + length characters))
  where
    joins : (before : List Framed) → next ≡ first + length characters → Text first (characters ++ more) ∷ rest ≡ before ++ Text from text ∷ remaining → Put first characters (Text next more ∷ rest) from text remaining
    joins [] n k =
        let f : first ≡ from = cc in
        let t : characters ++ more ≡ text = cc in
        let r : rest ≡ remaining = cc in
        stood [] next more (λ i. Text next more ∷ r i) (omega (arith, n, f, ap length t, length-append characters more))
    joins (y ∷ before) n k =
        let r : rest ≡ before ++ Text from text ∷ remaining = cc in
        stood (Text next more ∷ before) from text (λ i. Text next more ∷ r i) refl

    separate : (before : List Framed) → next ≢ first + length characters → Text first characters ∷ Text next more ∷ rest ≡ before ++ Text from text ∷ remaining → Put first characters (Text next more ∷ rest) from text remaining
    separate [] n k =
        let r : Text next more ∷ rest ≡ remaining = cc in
        let f : first ≡ from = cc in
        let t : characters ≡ text = cc in
        is_put (sym r) (λ i. f i + length (t i)) (λ m l after g. let same : next ≡ m = cc in subst (λ (a : ℕ). a ≢ first + length characters) same n)
    separate (y ∷ before) n k = stood before from text (let r : Text next more ∷ rest ≡ before ++ Text from text ∷ remaining = cc in r) refl

-- ---- up to the next text

-- After a stream, the bytes hand these dispatches out, and then a text that begins at offset `next`: the first bytes are
-- read up to the first character of this text.
record Reaches (prefix bytes : List ℕ) (ds : List Dispatch) (next : ℕ) : Type 0 where
  read : List ℕ
  left : List ℕ
  character : ℕ
  lendable : IsLendable character
  split : bytes ≡ read ++ left
  says : newly_decided prefix read ≡ ds ++ Print character ∷ []
  offset : next + length (encode_utf8 character) ≡ length prefix + length read
  nothing : held_of (prefix ++ read) ≡ nothing_held

reaches : (bytes prefix : List ℕ) (start : ℕ) (ds : List Dispatch) (next : ℕ) (more : List ℕ) (remaining : List Framed) → framed start (placed_from prefix bytes) ≡ map Single ds ++ Text next more ∷ remaining → Reaches prefix bytes ds next
reaches [] prefix start ds next more remaining e = absurd (no_items (map Single ds) (Text next more) remaining e)
reaches (b ∷ bytes) prefix start ds next more remaining e = by_step (byte_hands_out prefix b start (length prefix + 1)) (λ left k. reaches bytes (prefix ++ b ∷ []) start left next more remaining k)
  where
    by_step : HandsOut start (length prefix + 1) (newly_decided prefix (b ∷ [])) (held_of (prefix ++ b ∷ []))
        → ((left : List Dispatch) → framed start (placed_from (prefix ++ b ∷ []) bytes) ≡ map Single left ++ Text next more ∷ remaining → Reaches (prefix ++ b ∷ []) bytes left next)
        → Reaches prefix (b ∷ bytes) ds next
    by_step (each_alone a) later =
        let l = left_of (newly_decided prefix (b ∷ [])) ds (framed start (placed_from (prefix ++ b ∷ []) bytes)) next more remaining (sym (a (placed_from (prefix ++ b ∷ []) bytes)) ∙ e) in
        let w = later l.left l.after in
        record {
          read = b ∷ w.read;
          left = w.left;
          character = w.character;
          lendable = w.lendable;
          split = ap (λ (x : List ℕ). b ∷ x) w.split;
          says = newly_join prefix (b ∷ []) w.read ∙ ap (λ (x : List Dispatch). newly_decided prefix (b ∷ []) ++ x) w.says ∙ sym (append_assoc (newly_decided prefix (b ∷ [])) l.left (Print w.character ∷ [])) ∙ ap (λ (x : List Dispatch). x ++ Print w.character ∷ []) (sym l.joined);
          offset = omega (arith, w.offset, length-append prefix (b ∷ []));
          nothing = ap held_of (sym (append_assoc prefix (b ∷ []) w.read)) ∙ w.nothing;
        }
    by_step (last_lent f c l g a k n) later =
        let put : List Framed = put_text (length prefix + 1 - length (encode_utf8 c)) (encode_utf8 c) (framed start (placed_from (prefix ++ b ∷ []) bytes)) in
        let x = left_of f ds put next more remaining (sym (lends_text start (length prefix + 1) c (newly_decided prefix (b ∷ [])) f (placed_from (prefix ++ b ∷ []) bytes) g a k) ∙ e) in
        let i = first_is (length prefix + 1 - length (encode_utf8 c)) (encode_utf8 c) (framed start (placed_from (prefix ++ b ∷ []) bytes)) x.left next more remaining x.after in
        let same : ds ≡ f = x.joined ∙ ap (λ (y : List Dispatch). f ++ y) i.0 ∙ append-nil f in
        record {
          read = b ∷ [];
          left = bytes;
          character = c;
          lendable = l;
          split = refl;
          says = g ∙ ap (λ (y : List Dispatch). y ++ Print c ∷ []) (sym same);
          offset = omega (arith, i.1, lent_within start (length prefix + 1) c k);
          nothing = n;
        }

-- ---- between two texts

-- between the offsets is a segment, and its dispatches are the first of these
pub record IsBetween (stream : List ℕ) (from to : ℕ) (ds : List Dispatch) : Type 0 where
  pub segment : Segment
  pub lies : LiesBetween stream from to segment
  pub rest : List Dispatch
  pub first : ds ≡ dispatches_of segment ++ rest

-- the dispatches of a stream of which nothing is held
whole_dispatches : (s : List ℕ) → held_of s ≡ nothing_held → dispatches s ≡ flat_map dispatches_of (the_cut s).segments
whole_dispatches s h = ap (λ (t : Tail). flat_map dispatches_of (the_cut s).segments ++ decided_of t) (idle_is_whole s h) ∙ append-nil _

-- from where nothing is held up to the next text
idle_between : (bytes prefix : List ℕ) (start : ℕ) (ds : List Dispatch) (next : ℕ) (more : List ℕ) (remaining : List Framed) → held_of prefix ≡ nothing_held → start ≤ length prefix
    → framed start (placed_from prefix bytes) ≡ map Single ds ++ Text next more ∷ remaining → ((ds ≡ []) × (next ≡ length prefix)) ⊎ IsBetween (prefix ++ bytes) (length prefix) next ds
idle_between bytes prefix start ds next more remaining idle l e = by_segments (the_cut w.read).segments refl
  where
    w : Reaches prefix bytes ds next
    w = reaches bytes prefix start ds next more remaining e

    held : held_of w.read ≡ nothing_held
    held = sym (ap (λ (h : Held). (hand_out h w.read).held) idle) ∙ sym (held_append prefix w.read) ∙ w.nothing

    says : flat_map dispatches_of (the_cut w.read).segments ≡ ds ++ Print w.character ∷ []
    says = sym (whole_dispatches w.read held) ∙ decided w.read ∙ ap (λ (h : Held). (hand_out h w.read).dispatches) (sym idle) ∙ sym (newly_handed prefix w.read) ∙ w.says

    by_segments : (segments : List Segment) → segments ≡ (the_cut w.read).segments → ((ds ≡ []) × (next ≡ length prefix)) ⊎ IsBetween (prefix ++ bytes) (length prefix) next ds
    by_segments [] k = absurd (none ds (ap (flat_map dispatches_of) k ∙ says))
      where
        none : (xs : List Dispatch) → [] ≡ xs ++ Print w.character ∷ [] → ⊥
        none [] m = cc
        none (x ∷ xs) m = cc
    by_segments (s ∷ segments) k = by_part (falls (dispatches_of s) (flat_map dispatches_of segments) ds (Print w.character) (ap (flat_map dispatches_of) k ∙ says))
      where
        by_part : Falls (dispatches_of s) (flat_map dispatches_of segments) ds (Print w.character) → ((ds ≡ []) × (next ≡ length prefix)) ⊎ IsBetween (prefix ++ bytes) (length prefix) next ds
        by_part (in_second rest f g) =
            let long = holds_character segments rest w.character w.lendable.2 g in
            let all : length (bytes_of s ++ flat_map bytes_of segments) ≡ length w.read = ap (λ (x : List Segment). length (flat_map bytes_of x)) k ∙ whole_length w.read held in
            let offset = w.offset in
            inr (record {
              segment = s;
              lies = record {
                offset = length prefix;
                stands = subst (λ (x : List ℕ). Contains (placed_segments (prefix ++ x)) (length prefix, s)) (sym w.split) (stands_after prefix w.read w.left s segments idle held k);
                after = omega arith;
                before = omega (arith, long, all, offset, length-append (bytes_of s) (flat_map bytes_of segments));
              };
              rest = rest;
              first = f;
            })
        by_part (in_first f) =
            let is = prints_last s ds w.character w.lendable.2 f in
            let form : seven_bit w.read ≡ encode w.character ++ flat_map bytes_of segments
            = sym (whole_form w.read held) ∙ ap (flat_map bytes_of) (sym k) ∙ ap (λ (x : Segment). bytes_of x ++ flat_map bytes_of segments) is in
            let stands = prefix_is (encode w.character) w.read (flat_map bytes_of segments) (no_escape_in w.character w.lendable.0 w.lendable.1) form in
            let split : bytes ≡ encode w.character ++ (stands.0 ++ w.left) = w.split ∙ ap (λ (x : List ℕ). x ++ w.left) stands.1 ∙ append_assoc (encode w.character) stands.0 w.left in
            let put : framed start (placed_from prefix bytes) ≡ put_text (length prefix) (encode w.character) (framed start (placed_after (length prefix + length (encode w.character)) nothing_held (stands.0 ++ w.left)))
            = ap (framed start) (sym (placed_same bytes prefix))
            ∙ (λ i. framed start (placed_after (length prefix) (idle i) (split i)))
            ∙ lent_character start (length prefix) w.character (stands.0 ++ w.left) w.lendable l in
            let b = first_is (length prefix) (encode w.character) (framed start (placed_after (length prefix + length (encode w.character)) nothing_held (stands.0 ++ w.left))) ds next more remaining (sym put ∙ e) in
            inl (b.0, sym b.1)

-- between two texts with nothing but dispatches between them
pub texts_between : (bytes prefix : List ℕ) (start : ℕ) (before : List Framed) (from : ℕ) (text : List ℕ) (ds : List Dispatch) (next : ℕ) (more : List ℕ) (remaining : List Framed) → start ≤ length prefix
    → framed start (placed_from prefix bytes) ≡ before ++ Text from text ∷ (map Single ds ++ Text next more ∷ remaining) → IsBetween (prefix ++ bytes) (from + length text) next ds
texts_between [] prefix start before from text ds next more remaining l e = absurd (no_items before (Text from text) (map Single ds ++ Text next more ∷ remaining) e)
texts_between (b ∷ bytes) prefix start before from text ds next more remaining l e =
    by_step (byte_hands_out prefix b start (length prefix + 1))
    (λ lead old shown k. texts_between bytes (prefix ++ b ∷ []) start lead old shown ds next more remaining (omega (arith, length-append prefix (b ∷ []))) k)
  where
    joined : (from : ℕ) → IsBetween ((prefix ++ b ∷ []) ++ bytes) from next ds → IsBetween (prefix ++ b ∷ bytes) from next ds
    joined from h = subst (λ (s : List ℕ). IsBetween s from next ds) (append_assoc prefix (b ∷ []) bytes) h

    by_step : HandsOut start (length prefix + 1) (newly_decided prefix (b ∷ [])) (held_of (prefix ++ b ∷ []))
        → ((lead : List Framed) (old : ℕ) (shown : List ℕ) → framed start (placed_from (prefix ++ b ∷ []) bytes) ≡ lead ++ Text old shown ∷ (map Single ds ++ Text next more ∷ remaining) → IsBetween ((prefix ++ b ∷ []) ++ bytes) (old + length shown) next ds)
        → IsBetween (prefix ++ b ∷ bytes) (from + length text) next ds
    by_step (each_alone a) later =
        let k = after_single (newly_decided prefix (b ∷ [])) (framed start (placed_from (prefix ++ b ∷ []) bytes)) before from text (map Single ds ++ Text next more ∷ remaining) (sym (a (placed_from (prefix ++ b ∷ []) bytes)) ∙ e) in
        joined (from + length text) (later k.0 from text k.1)
    by_step (last_lent f c y g a t n) later =
        by_put (put_where (length prefix + 1 - length (encode_utf8 c)) (encode_utf8 c) (framed start (placed_from (prefix ++ b ∷ []) bytes)) x.0 from text (map Single ds ++ Text next more ∷ remaining) x.1)
      where
        x : (lead : List Framed) × (put_text (length prefix + 1 - length (encode_utf8 c)) (encode_utf8 c) (framed start (placed_from (prefix ++ b ∷ []) bytes)) ≡ lead ++ Text from text ∷ (map Single ds ++ Text next more ∷ remaining))
        x = after_single f (put_text (length prefix + 1 - length (encode_utf8 c)) (encode_utf8 c) (framed start (placed_from (prefix ++ b ∷ []) bytes))) before from text (map Single ds ++ Text next more ∷ remaining)
            (sym (lends_text start (length prefix + 1) c (newly_decided prefix (b ∷ [])) f (placed_from (prefix ++ b ∷ []) bytes) g a t) ∙ e)

        by_put : Put (length prefix + 1 - length (encode_utf8 c)) (encode_utf8 c) (framed start (placed_from (prefix ++ b ∷ []) bytes)) from text (map Single ds ++ Text next more ∷ remaining)
            → IsBetween (prefix ++ b ∷ bytes) (from + length text) next ds
        by_put (stood lead old shown r m) = subst (λ (p : ℕ). IsBetween (prefix ++ b ∷ bytes) p next ds) m (joined (old + length shown) (later lead old shown r))
        by_put (is_put same ends other) =
            let at : length (prefix ++ b ∷ []) ≡ from + length text = omega (arith, ends, lent_within start (length prefix + 1) c t, length-append prefix (b ∷ [])) in
            by_case at (idle_between bytes (prefix ++ b ∷ []) start ds next more remaining n (omega (arith, length-append prefix (b ∷ []))) (sym same))
          where
            by_case : length (prefix ++ b ∷ []) ≡ from + length text → ((ds ≡ []) × (next ≡ length (prefix ++ b ∷ []))) ⊎ IsBetween ((prefix ++ b ∷ []) ++ bytes) (length (prefix ++ b ∷ [])) next ds → IsBetween (prefix ++ b ∷ bytes) (from + length text) next ds
            by_case at (inl (nil, here)) =
                let k : framed start (placed_from (prefix ++ b ∷ []) bytes) ≡ Text next more ∷ remaining = sym same ∙ ap (λ (l : List Dispatch). map Single l ++ Text next more ∷ remaining) nil in
                absurd (other next more remaining k (omega (arith, here, at, ends)))
            by_case at (inr h) = subst (λ (p : ℕ). IsBetween (prefix ++ b ∷ bytes) p next ds) at (joined (length (prefix ++ b ∷ [])) h)

-- two texts side by side
pub side_by_side : (stream bytes : List ℕ) (before after : List Framed) (from next : ℕ) (text more : List ℕ) → framed (length stream) (placed_from stream bytes) ≡ before ++ Text from text ∷ Text next more ∷ after
    → (segment : Segment) × LiesBetween (stream ++ bytes) (from + length text) next segment × (dispatches_of segment ≡ [])
side_by_side stream bytes before after from next text more e =
    let b = texts_between bytes stream (length stream) before from text [] next more after (omega arith) e in
    (b.segment, b.lies, no_prefix (dispatches_of b.segment) b.rest (sym b.first))
