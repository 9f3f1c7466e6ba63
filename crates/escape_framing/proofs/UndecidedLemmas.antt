-- After each held state a stream can go on in two ways whose next dispatches differ.
use Rattle.std.proofs.Common.{◌≡◌, ◌≢◌, ℕ, ◌-◌, ◌+◌, ◌/◌, ◌<◌, ◌≤◌, ◌⊎◌, inl, inr, ⊎_elim, Bool, true, false, List, [], ◌∷◌, ◌++◌, refl, sym, ap, subst, ◌∙◌, arith, append_assoc}
use Rattle.std.specs.Prelude.{◌==◌}
use Rattle.std.specs.Char.{IsScalar}
use Rattle.text_clusters.specs.Controls.{is_c1}
use lib.Utf8.{encode, low_scalar}
use Rattle.escape_framing.specs.SevenBit.{seven_bit}
use Rattle.escape_framing.specs.Bytes.{is_stop, is_cut, taken}
use Rattle.escape_framing.specs.Segment.{Tail, Begun, OpenEscape, OpenControlSequence, OpenCommand, OpenHeader, OpenDevice, OpenString, IsBegun, IsUnfinished}
use Rattle.escape_framing.specs.Decode.{read_on}
use Rattle.escape_framing.specs.Dispatch.{Dispatch, Print, Control, Data, Exit}
use Rattle.escape_framing.specs.Held.{Kept, InCharacter, InCommand, InDevice, InString, kept_of, Step, steps, before, character_step, command_step, device_step, string_step, kept_step, Held, Handed, interrupted, fresh_step, waiting_step, held_step, nothing_held, hand_out, held_of}
use Rattle.escape_framing.specs.Undecided.{IsUndecided}
use Rattle.escape_framing.proofs.Existence.Utf8Lemmas.{order, Spelled, in_one, in_two, in_three, in_four, spelled, prefix_of_one, prefix_of_two, prefix_of_three, two, three, scalar_high, some_last}
use Rattle.escape_framing.proofs.FirstLemmas.{first_control}
use Rattle.escape_framing.proofs.HeldLemmas.{Inner, inner, interrupted_character, c2_begins, At, at_rest, at_c2, unfinished, at_all, newly_handed, not_lead}
use Rattle.escape_framing.proofs.WaitingLemmas.{escape_cut, control_sequence_cut, header_cut}
use Rattle.std.proofs.lemmas.Bool.{ne_eqb}
use Rattle.escape_framing.proofs.TextLemmas.{whole_step, begun_step, lead_kept}

-- how two dispatches differ: CAN and SUB, two characters, two bytes of data, or the end of data and a byte of it
pub data AreSeparate (first second : Dispatch) : Type 0 where
  stops : first ≡ Control 0x18 → second ≡ Control 0x1A → AreSeparate first second
  prints : (a b : ℕ) → first ≡ Print a → second ≡ Print b → a ≢ b → AreSeparate first second
  data_bytes : (a b : ℕ) → first ≡ Data a → second ≡ Data b → a ≢ b → AreSeparate first second
  goes_on : (b : ℕ) → first ≡ Exit → second ≡ Data b → AreSeparate first second

-- two continuations of a held state whose first dispatches differ
pub record Differs (h : Held) : Type 0 where
  pub one : List ℕ
  pub other : List ℕ
  pub first : Dispatch
  pub second : Dispatch
  pub after_first : List Dispatch
  pub after_second : List Dispatch
  pub gives_first : (hand_out h one).dispatches ≡ first ∷ after_first
  pub gives_second : (hand_out h other).dispatches ≡ second ∷ after_second
  pub separate : AreSeparate first second

abbrev at_rest_with : Kept → Held
at_rest_with kept = record { kept = kept; waiting = false }

abbrev at_c2_with : Kept → Held
at_c2_with kept = record { kept = kept; waiting = true }

-- ---- one byte

hand_rest : (kept : Kept) (b : ℕ) (bytes : List ℕ) (s : Step) → (b == 0xC2) ≡ false → kept_step kept b ≡ s → (hand_out (at_rest_with kept) (b ∷ bytes)).dispatches ≡ s.dispatches ++ (hand_out (at_rest_with s.kept) bytes).dispatches
unfolding hand_out held_step fresh_step
hand_rest kept b bytes s e f = rw e (ap (λ (x : Step). x.dispatches ++ (hand_out (at_rest_with x.kept) bytes).dispatches) f)

-- a byte after a C2 that makes no pair, where the C2 by itself does this
hand_c2 : (kept : Kept) (b : ℕ) (c s : Step) → is_c1 0xC2 b ≡ false → (b == 0xC2) ≡ false → kept_step kept 0xC2 ≡ c → kept_step c.kept b ≡ s → (hand_out (at_c2_with kept) (b ∷ [])).dispatches ≡ (c.dispatches ++ s.dispatches) ++ []
unfolding hand_out held_step waiting_step fresh_step
hand_c2 kept b c s e f g h =
    rw (e, f) (ap (λ (x : Step). (x.dispatches ++ (kept_step x.kept b).dispatches) ++ []) g ∙ ap (λ (x : Step). (c.dispatches ++ x.dispatches) ++ []) h)

-- a byte after a C2 that makes a pair
hand_pair : (kept : Kept) (b : ℕ) → is_c1 0xC2 b ≡ true → (hand_out (at_c2_with kept) (b ∷ [])).dispatches ≡ ((kept_step kept 0x1B).dispatches ++ (kept_step (kept_step kept 0x1B).kept (b - 0x40)).dispatches) ++ []
unfolding hand_out held_step waiting_step
hand_pair kept b e = rw e refl

-- CAN and SUB
cancel : character_step [] 0x18 ≡ steps (Control 0x18 ∷ []) (InCharacter [])
cancel = first_control 0x18 (inl (omega arith)) (λ e. absurd (omega arith))

substitute : character_step [] 0x1A ≡ steps (Control 0x1A ∷ []) (InCharacter [])
substitute = first_control 0x1A (inl (omega arith)) (λ e. absurd (omega arith))

-- CAN and SUB end the kept state without a dispatch of its own
record Cancels (kept : Kept) : Type 0 where
  at_cancel : kept_step kept 0x18 ≡ character_step [] 0x18
  at_substitute : kept_step kept 0x1A ≡ character_step [] 0x1A

differ : (first second : Dispatch) → AreSeparate first second → first ≢ second
differ first second (stops e f) h = not_alike 0x18 0x1A (λ k. absurd (omega arith)) (sym e ∙ h ∙ f)
  where
    not_alike : (a b : ℕ) → a ≢ b → Control a ≡ Control b → ⊥
    not_alike a b n k = n (let l : a ≡ b = cc in l)
differ first second (prints a b e f n) h = n (let k : a ≡ b = cc in k)
differ first second (data_bytes a b e f n) h = n (let k : a ≡ b = cc in k)
differ first second (goes_on b e f) h = cc

stops_separate : (h : Held) (xs ys : List Dispatch) → (hand_out h (0x18 ∷ [])).dispatches ≡ Control 0x18 ∷ xs → (hand_out h (0x1A ∷ [])).dispatches ≡ Control 0x1A ∷ ys → Differs h
stops_separate h xs ys e f = record {
  one = 0x18 ∷ [];
  other = 0x1A ∷ [];
  first = Control 0x18;
  second = Control 0x1A;
  after_first = xs;
  after_second = ys;
  gives_first = e;
  gives_second = f;
  separate = stops refl refl;
}

by_cancel : (kept : Kept) → Cancels kept → Differs (at_rest_with kept)
by_cancel kept c = stops_separate _ _ _ (hand_rest kept 0x18 [] _ refl (c.at_cancel ∙ cancel)) (hand_rest kept 0x1A [] _ refl (c.at_substitute ∙ substitute))

cut_by_cancel : (is_cut 0x18 ≡ true) × (is_cut 0x1A ≡ true) × (is_cut 0xC2 ≡ true)
unfolding is_cut is_stop
cut_by_cancel = (refl, refl, refl)

command_cancel : (body : List ℕ) → Cancels (InCommand body)
unfolding command_step is_stop
command_cancel body = record { at_cancel = refl; at_substitute = refl }

string_cancel : Cancels InString
unfolding string_step is_stop
string_cancel = record { at_cancel = refl; at_substitute = refl }

device_data : (b : ℕ) → is_stop b ≡ false → kept_step InDevice b ≡ steps (Data b ∷ []) InDevice
unfolding device_step
device_data b e = rw e refl

no_stops : (is_stop 0x61 ≡ false) × (is_stop 0x62 ≡ false) × (is_stop 0xC2 ≡ false)
unfolding is_stop
no_stops = (refl, refl, refl)

device_escape : (kept_step InDevice 0x1B).dispatches ≡ Exit ∷ (character_step [] 0x1B).dispatches
unfolding device_step is_stop
device_escape = refl

-- ---- a character that has begun

begun_by : (p : List ℕ) (b d : ℕ) (q : List ℕ) (c : ℕ) → IsScalar c → encode c ≡ p ++ b ∷ d ∷ q → IsBegun (p ++ b ∷ [])
begun_by p b d q c s e = (c, d ∷ q, s, e ∙ sym (append_assoc p (b ∷ []) (d ∷ q)), some_last p b, λ h. cc)

inner_of : (p : List ℕ) (b : ℕ) (q : List ℕ) (c : ℕ) → p ≢ [] → IsScalar c → encode c ≡ p ++ b ∷ q → Inner b
inner_of [] b q c n s e = absurd (n refl)
inner_of (x ∷ p) b q c n s e = inner c x b p q s e

-- the rest of a character hands it out
completes : (q p : List ℕ) (c : ℕ) → IsUnfinished (Begun p) → p ≢ [] → q ≢ [] → IsScalar c → 0x9F < c → encode c ≡ p ++ q → (hand_out (at_rest_with (InCharacter p)) q).dispatches ≡ Print c ∷ []
unfolding hand_out
completes [] p c g n m s l e = absurd (m refl)
completes (b ∷ []) p c g n m s l e =
    hand_rest (InCharacter p) b [] (steps (Print c ∷ []) (InCharacter [])) (ne_eqb b 0xC2 (not_lead b (inner_of p b [] c n s e))) (whole_step c b p s (inr l) e g)
completes (b ∷ d ∷ q) p c g n m s l e =
    let more : IsBegun (p ++ b ∷ []) = begun_by p b d q c s e in
    hand_rest (InCharacter p) b (d ∷ q) (steps [] (InCharacter (p ++ b ∷ []))) (ne_eqb b 0xC2 (not_lead b (inner_of p b (d ∷ q) c n s e))) (begun_step p b g more)
    ∙ completes (d ∷ q) (p ++ b ∷ []) c (inr more) (some_last p b) (λ h. cc) s l (e ∙ sym (append_assoc p (b ∷ []) (d ∷ q)))

-- a character that has begun can become one other than U+FFFD
record Becomes (p : List ℕ) : Type 0 where
  c : ℕ
  more : List ℕ
  scalar : IsScalar c
  high : 0x9F < c
  other : c ≢ 0xFFFD
  is : encode c ≡ p ++ more
  some : more ≢ []

becomes : (p : List ℕ) → IsBegun p → Becomes p
becomes p (c, more, s, e, n, m) = by_size (order 0x9F c)
  where
    by_kind : c ≤ 0x9F → Spelled c → Becomes p
    by_kind l (in_one k h) = absurd (prefix_of_one c p more (sym h ∙ e) n m)
    by_kind l (in_two g k h) =
        let is : p ≡ (192 + c / 64) ∷ [] = prefix_of_two _ _ p more (sym h ∙ e) n m in
        let lead : 192 + c / 64 ≡ 0xC2 = omega arith in
        record {
          c = 0xA9;
          more = 0xA9 ∷ [];
          scalar = low_scalar 0xA9 (omega arith);
          high = omega arith;
          other = λ k. absurd (omega arith);
          is = two 0xA9 (omega arith) (omega arith) ∙ ap (λ (b : ℕ). b ∷ 0xA9 ∷ []) (sym lead) ∙ ap (λ l. l ++ 0xA9 ∷ []) (sym is);
          some = λ h. cc;
        }
    by_kind l (in_three g k t h) = absurd (omega arith)
    by_kind l (in_four g k h) = absurd (omega arith)

    beside : 0xFFFD ≡ c → Becomes p
    beside k = ⊎_elim (λ is. record { c = 0xFFFC; more = 0xBF ∷ 0xBC ∷ []; scalar = scalar_high 0xFFFC (omega arith) (omega arith); high = omega arith; other = λ h. absurd (omega arith); is = spelled_so ∙ ap (λ l. l ++ 0xBF ∷ 0xBC ∷ []) (sym is); some = λ h. cc })
        (λ is. record { c = 0xFFFC; more = 0xBC ∷ []; scalar = scalar_high 0xFFFC (omega arith) (omega arith); high = omega arith; other = λ h. absurd (omega arith); is = spelled_so ∙ ap (λ l. l ++ 0xBC ∷ []) (sym is); some = λ h. cc })
        (prefix_of_three 0xEF 0xBF 0xBD p more (sym (ap encode (sym k) ∙ three 0xFFFD (omega arith) (omega arith)) ∙ e) n m)
      where
        spelled_so : encode 0xFFFC ≡ 0xEF ∷ 0xBF ∷ 0xBC ∷ []
        spelled_so = three 0xFFFC (omega arith) (omega arith)

    itself : 0x9F < c → c ≢ 0xFFFD → Becomes p
    itself l k = record { c = c; more = more; scalar = s; high = l; other = k; is = e; some = m }

    by_order : 0x9F < c → (c < 0xFFFD) ⊎ (0xFFFD ≤ c) → (0xFFFD < c) ⊎ (c ≤ 0xFFFD) → Becomes p
    by_order l (inl a) b = itself l (λ k. omega arith)
    by_order l (inr a) (inl b) = itself l (λ k. omega arith)
    by_order l (inr a) (inr b) = beside (omega arith)

    by_size : (0x9F < c) ⊎ (c ≤ 0x9F) → Becomes p
    by_size (inl l) = by_order l (order c 0xFFFD) (order 0xFFFD c)
    by_size (inr l) = by_kind l (spelled c s)

broken_by : (x : ℕ) (p : List ℕ) (b : ℕ) → IsBegun (x ∷ p) → (Inner b → ⊥) → character_step (x ∷ p) b ≡ before (Print 0xFFFD ∷ []) (character_step [] b)
broken_by x p b g n = sym (interrupted_character x b p g n)

low : Inner 0x18 → ⊥
low i = let h = i.least in omega arith

begun_differs : (x : ℕ) (p : List ℕ) → IsBegun (x ∷ p) → Differs (at_rest_with (InCharacter (x ∷ p)))
begun_differs x p g =
    let k = becomes (x ∷ p) g in
    record {
      one = k.more;
      other = 0x18 ∷ [];
      first = Print k.c;
      second = Print 0xFFFD;
      after_first = [];
      after_second = _;
      gives_first = completes k.more (x ∷ p) k.c (inr g) (λ h. cc) k.some k.scalar k.high k.is;
      gives_second = hand_rest (InCharacter (x ∷ p)) 0x18 [] _ refl (broken_by x p 0x18 g low ∙ ap (before (Print 0xFFFD ∷ [])) cancel);
      separate = prints k.c 0xFFFD refl refl k.other;
    }

-- ---- all that can be held

rest_differs : (t : Tail) → IsUnfinished t → Differs (at_rest_with (kept_of t))
rest_differs (Begun []) g = by_cancel (InCharacter []) (record { at_cancel = refl; at_substitute = refl })
rest_differs (Begun (x ∷ p)) (inl e) = cc
rest_differs (Begun (x ∷ p)) (inr g) = begun_differs x p g
rest_differs (OpenEscape body) g = by_cancel _ (record { at_cancel = escape_cut _ 0x18 cut_by_cancel.0; at_substitute = escape_cut _ 0x1A cut_by_cancel.1 })
rest_differs (OpenControlSequence o body) g = by_cancel _ (record { at_cancel = control_sequence_cut _ 0x18 cut_by_cancel.0; at_substitute = control_sequence_cut _ 0x1A cut_by_cancel.1 })
rest_differs (OpenCommand o body) g = by_cancel _ (command_cancel _)
rest_differs (OpenHeader o header) g = by_cancel _ (record { at_cancel = header_cut _ 0x18 cut_by_cancel.0; at_substitute = header_cut _ 0x1A cut_by_cancel.1 })
rest_differs (OpenDevice o header f body) g = record {
  one = 0x61 ∷ [];
  other = 0x62 ∷ [];
  first = Data 0x61;
  second = Data 0x62;
  after_first = _;
  after_second = _;
  gives_first = hand_rest InDevice 0x61 [] _ refl (device_data 0x61 no_stops.0);
  gives_second = hand_rest InDevice 0x62 [] _ refl (device_data 0x62 no_stops.1);
  separate = data_bytes 0x61 0x62 refl refl (λ k. absurd (omega arith));
}
rest_differs (OpenString o x body) g = by_cancel _ string_cancel

-- where the C2 begins a character
lead_differs : (kept : Kept) → kept_step kept 0xC2 ≡ steps [] (InCharacter (0xC2 ∷ [])) → Differs (at_c2_with kept)
lead_differs kept e = record {
  one = 0xA9 ∷ [];
  other = 0x18 ∷ [];
  first = Print 0xA9;
  second = Print 0xFFFD;
  after_first = _;
  after_second = _;
  gives_first = hand_c2 kept 0xA9 _ _ refl refl e (whole_step 0xA9 0xA9 (0xC2 ∷ []) (low_scalar 0xA9 (omega arith)) (inr (omega arith)) (two 0xA9 (omega arith) (omega arith)) (inr c2_begins));
  gives_second = hand_c2 kept 0x18 _ _ refl refl e (broken_by 0xC2 [] 0x18 c2_begins low ∙ ap (before (Print 0xFFFD ∷ [])) cancel);
  separate = prints 0xA9 0xFFFD refl refl (λ k. absurd (omega arith));
}

cancelled_c2 : (kept after_c2 : Kept) → kept_step kept 0xC2 ≡ steps [] after_c2 → Cancels after_c2 → Differs (at_c2_with kept)
cancelled_c2 kept after_c2 e c = stops_separate _ _ _ (hand_c2 kept 0x18 _ _ refl refl e (c.at_cancel ∙ cancel)) (hand_c2 kept 0x1A _ _ refl refl e (c.at_substitute ∙ substitute))

c2_differs : (t : Tail) → IsUnfinished t → Differs (at_c2_with (interrupted (kept_of t)).kept)
c2_differs (Begun []) g = lead_differs (InCharacter []) lead_kept
c2_differs (Begun (x ∷ p)) g = lead_differs (InCharacter []) lead_kept
c2_differs (OpenEscape body) g = lead_differs _ (escape_cut _ 0xC2 cut_by_cancel.2 ∙ lead_kept)
c2_differs (OpenControlSequence o body) g = lead_differs _ (control_sequence_cut _ 0xC2 cut_by_cancel.2 ∙ lead_kept)
c2_differs (OpenCommand o body) g = cancelled_c2 _ (InCommand (taken body ++ 0xC2 ∷ [])) (unfold command_step is_stop in refl) (command_cancel _)
c2_differs (OpenHeader o header) g = lead_differs _ (header_cut _ 0xC2 cut_by_cancel.2 ∙ lead_kept)
c2_differs (OpenDevice o header f body) g = record {
  one = 0x9C ∷ [];
  other = 0x61 ∷ [];
  first = Exit;
  second = Data 0xC2;
  after_first = _;
  after_second = _;
  gives_first = hand_pair InDevice 0x9C refl ∙ ap (λ ds. (ds ++ (kept_step (kept_step InDevice 0x1B).kept 0x5C).dispatches) ++ []) device_escape;
  gives_second = hand_c2 InDevice 0x61 _ _ refl refl (device_data 0xC2 no_stops.2) (device_data 0x61 no_stops.0);
  separate = goes_on 0xC2 refl refl;
}
c2_differs (OpenString o x body) g = cancelled_c2 _ InString (unfold string_step is_stop in refl) string_cancel

held_differs : (s : List ℕ) (h : Handed) → At s h → Differs h.held
held_differs s h (at_rest o r w) =
    let t = (read_on (Begun []) (seven_bit s)).tail in
    subst (λ (k : Kept). Differs (record { kept = k; waiting = h.held.waiting })) r.keeps
    (subst (λ (w : Bool). Differs (record { kept = kept_of t; waiting = w })) (sym w) (rest_differs t (unfinished (seven_bit s))))
held_differs s h (at_c2 v ds kept form o r e) =
    subst (λ (n : Handed). Differs n.held) (sym e)
    (subst (λ (k : Kept). Differs (at_c2_with (interrupted k).kept)) r.keeps (c2_differs (read_on (Begun []) v).tail (unfinished v)))

pub stream_differs : (stream : List ℕ) → Differs (held_of stream)
stream_differs stream = held_differs stream (hand_out nothing_held stream) (at_all stream)

pub undecided : (stream : List ℕ) → IsUndecided stream
undecided stream =
    let d = stream_differs stream in
    record {
      one = d.one;
      other = d.other;
      first = d.first;
      second = d.second;
      after_first = d.after_first;
      after_second = d.after_second;
      gives_first = newly_handed stream d.one ∙ d.gives_first;
      gives_second = newly_handed stream d.other ∙ d.gives_second;
      differ = differ d.first d.second d.separate;
    }
