-- How the characters of a text are read, byte by byte, where nothing is held.
use Rattle.std.proofs.Common.{◌≡◌, ◌≢◌, ℕ, ◌+◌, ◌-◌, ◌<◌, ◌≤◌, inl, inr, true, false, List, [], ◌∷◌, ◌++◌, length, refl, sym, ap, subst, ◌∙◌, arith, append_assoc, append-nil, length-append, ⊎_elim}
use Rattle.std.specs.List.{flat_map}
use Rattle.std.specs.Char.{IsScalar}
use Rattle.std.proofs.lemmas.Bool.Decides.{nat_tests}
use Rattle.text_clusters.specs.Controls.{is_c1}
use lib.Utf8.{encode}
use Rattle.escape_framing.specs.Segment.{Segment, Begun, IsBegun, IsUnfinished, IsPrintable}
use Rattle.escape_framing.specs.Decode.{Reading, ends, in_character, next_byte}
use Rattle.escape_framing.specs.Dispatch.{Dispatch, Print, dispatches_of}
use Rattle.escape_framing.specs.Held.{InCharacter, Step, steps, kept_of, character_step, Held, Handed, handed, fresh_step, waiting_step, held_step, nothing_held, hand_out}
use Rattle.escape_framing.specs.Framed.{Text, is_lent, put_text, framed, at_offset, placed_after, framed_after, IsLendable, IsText, no_text, text_of}
use Rattle.escape_framing.proofs.Existence.Utf8Lemmas.{Spelled, in_one, in_two, in_three, in_four, spelled}
use Rattle.escape_framing.proofs.CharacterReading.{waits_begun, ends_character, plain_segment, no_escape}
use Rattle.escape_framing.proofs.FramedLemmas.{BeginsFrom, lends, put_separate, put_joined}
use Rattle.escape_framing.proofs.HeldLemmas.{Inner, inner, no_c2, first_c2, not_lead}
use Rattle.std.proofs.lemmas.Bool.{ne_eqb, cases_eq}

-- the first bytes of a character are held
abbrev pub first_bytes : List ℕ → Held
first_bytes p = record { kept = InCharacter p; waiting = false }

-- a C2 waits, with nothing else held
abbrev pub lead_waits : Held
lead_waits = record { kept = InCharacter []; waiting = true }

pub other_step : (p : List ℕ) (b : ℕ) → b ≢ 0xC2 → held_step (first_bytes p) b ≡ handed (character_step p b) false
unfolding held_step fresh_step
other_step p b n = rw (ne_eqb b 0xC2 n) refl

not_c1 : (b : ℕ) → 0x9F < b → is_c1 0xC2 b ≡ false
not_c1 b l = grind (arith, nat_tests)

pub lead_kept : character_step [] 0xC2 ≡ steps [] (InCharacter (0xC2 ∷ []))
unfolding character_step in_character
lead_kept = ap (λ (r : Reading). steps (flat_map dispatches_of r.segments) (kept_of r.tail)) first_c2

-- a byte after a C2 that is no half of a C1 control
pub after_lead : (b : ℕ) → is_c1 0xC2 b ≡ false → b ≢ 0xC2 → held_step lead_waits b ≡ handed (character_step (0xC2 ∷ []) b) false
unfolding held_step waiting_step fresh_step
after_lead b h n = rw (h, lead_kept) (rw (ne_eqb b 0xC2 n) refl)

pub begun_step : (p : List ℕ) (b : ℕ) → IsUnfinished (Begun p) → IsBegun (p ++ b ∷ []) → character_step p b ≡ steps [] (InCharacter (p ++ b ∷ []))
unfolding character_step next_byte
begun_step p b g h = ap (λ (r : Reading). steps (flat_map dispatches_of r.segments) (kept_of r.tail)) (waits_begun p b g h)

pub whole_step : (c b : ℕ) (p : List ℕ) → IsScalar c → IsPrintable c → encode c ≡ p ++ b ∷ [] → IsUnfinished (Begun p) → character_step p b ≡ steps (Print c ∷ []) (InCharacter [])
unfolding character_step next_byte
whole_step c b p s h e g =
    ap (λ (r : Reading). steps (flat_map dispatches_of r.segments) (kept_of r.tail)) (ends_character c b p s e (no_escape c h) g ∙ ap (λ (x : Segment). ends x) (plain_segment (p ++ b ∷ []) c h))

-- ---- after the first byte

-- the placed dispatches of bytes, and the held state after them
abbrev Both : Type 0
Both = List (ℕ × Dispatch) × Held

abbrev both : ℕ → Held → List ℕ → Both
both count held bytes = (placed_after count held bytes, (hand_out held bytes).held)

-- a character that is printed, before the dispatches of the bytes after it
abbrev printed : ℕ → ℕ → List ℕ → Both
printed count c bytes = ((count, Print c) ∷ placed_after count nothing_held bytes, (hand_out nothing_held bytes).held)

step_of : (count : ℕ) (held : Held) (b : ℕ) (bytes : List ℕ) (h : Handed) → held_step held b ≡ h → both count held (b ∷ bytes) ≡ (at_offset (count + 1) h.dispatches ++ placed_after (count + 1) h.held bytes, (hand_out h.held bytes).held)
unfolding placed_after hand_out
step_of count held b bytes h e = ap (λ (x : Handed). (at_offset (count + 1) x.dispatches ++ placed_after (count + 1) x.held bytes, (hand_out x.held bytes).held)) e

-- the bytes of a character after its first ones, where none of them is a C2
reads_on : (count c x : ℕ) (p q more : List ℕ) → IsScalar c → IsPrintable c → encode c ≡ (x ∷ p) ++ q → q ≢ []
    → both count (first_bytes (x ∷ p)) (q ++ more) ≡ printed (count + length q) c more
reads_on count c x p [] more s h e n = absurd (n refl)
reads_on count c x p (b ∷ []) more s h e n =
    let i = inner c x b p [] s e in
    let g : IsUnfinished (Begun (x ∷ p)) = inr (c, b ∷ [], s, e, λ k. cc, λ k. cc) in
    step_of count (first_bytes (x ∷ p)) b more (handed (steps (Print c ∷ []) (InCharacter [])) false)
    (other_step (x ∷ p) b (not_lead b i) ∙ ap (λ (t : Step). handed t false) (whole_step c b (x ∷ p) s h e g))
reads_on count c x p (b ∷ d ∷ q) more s h e n =
    let split : x ∷ p ++ b ∷ (d ∷ q) ≡ (x ∷ p ++ b ∷ []) ++ (d ∷ q) = sym (append_assoc (x ∷ p) (b ∷ []) (d ∷ q)) in
    let i = inner c x b p (d ∷ q) s e in
    let g : IsUnfinished (Begun (x ∷ p)) = inr (c, b ∷ d ∷ q, s, e, λ k. cc, λ k. cc) in
    let w : IsBegun (x ∷ p ++ b ∷ []) = (c, d ∷ q, s, e ∙ split, λ k. cc, λ k. cc) in
    step_of count (first_bytes (x ∷ p)) b ((d ∷ q) ++ more) (handed (steps [] (InCharacter (x ∷ p ++ b ∷ []))) false)
    (other_step (x ∷ p) b (not_lead b i) ∙ ap (λ (t : Step). handed t false) (begun_step (x ∷ p) b g w))
    ∙ reads_on (count + 1) c x (p ++ b ∷ []) (d ∷ q) more s h (e ∙ split) (λ k. cc)
    ∙ ap (λ (m : ℕ). printed m c more) (let k : count + 1 + length (d ∷ q) ≡ count + length (b ∷ d ∷ q) = omega arith in k)

-- a character of one byte
reads_one : (count c : ℕ) (more : List ℕ) → IsScalar c → IsPrintable c → encode c ≡ c ∷ [] → c < 128 → both count nothing_held (c ∷ more) ≡ printed (count + 1) c more
reads_one count c more s h e l =
    step_of count nothing_held c more (handed (steps (Print c ∷ []) (InCharacter [])) false)
    (other_step [] c (λ k. omega arith) ∙ ap (λ (t : Step). handed t false) (whole_step c c [] s h e (inl refl)))

-- a character of more bytes
reads_more : (count c x y : ℕ) (q more : List ℕ) → IsScalar c → IsPrintable c → encode c ≡ x ∷ y ∷ q → (x ≡ 0xC2 → (q ≡ []) × (0x9F < y))
    → both count nothing_held (x ∷ y ∷ q ++ more) ≡ printed (count + length (x ∷ y ∷ q)) c more
reads_more count c x y q more s h e two = ⊎_elim lead other (cases_eq x 0xC2)
  where
    lead : x ≡ 0xC2 → both count nothing_held (x ∷ y ∷ q ++ more) ≡ printed (count + length (x ∷ y ∷ q)) c more
    lead k =
        let t = two k in
        let l = t.1 in
        let f : encode c ≡ (0xC2 ∷ []) ++ y ∷ [] = e ∙ ap (λ (z : ℕ). z ∷ y ∷ q) k ∙ ap (λ (z : List ℕ). 0xC2 ∷ y ∷ z) t.0 in
        let g : IsUnfinished (Begun (0xC2 ∷ [])) = inr (c, y ∷ [], s, f, λ k. cc, λ k. cc) in
        ap (λ (z : ℕ). both count nothing_held (z ∷ y ∷ q ++ more)) k
        ∙ step_of count nothing_held 0xC2 (y ∷ q ++ more) (record { dispatches = []; held = lead_waits }) (unfold held_step fresh_step in refl)
        ∙ ap (λ (z : List ℕ). both (count + 1) lead_waits (y ∷ z ++ more)) t.0
        ∙ step_of (count + 1) lead_waits y more (handed (steps (Print c ∷ []) (InCharacter [])) false)
        (after_lead y (not_c1 y l) (λ k. no_c2 (subst Inner k (inner c 0xC2 y [] [] s f))) ∙ ap (λ (u : Step). handed u false) (whole_step c y (0xC2 ∷ []) s h f g))
        ∙ (let m : count + 1 + 1 ≡ count + length (x ∷ y ∷ q) = omega (arith, ap length t.0) in ap (λ (z : ℕ). printed z c more) m)

    other : x ≢ 0xC2 → both count nothing_held (x ∷ y ∷ q ++ more) ≡ printed (count + length (x ∷ y ∷ q)) c more
    other n =
        let w : IsBegun (x ∷ []) = (c, y ∷ q, s, e, λ k. cc, λ k. cc) in
        step_of count nothing_held x (y ∷ q ++ more) (handed (steps [] (InCharacter (x ∷ []))) false)
        (other_step [] x n ∙ ap (λ (u : Step). handed u false) (begun_step [] x (inl refl) w))
        ∙ reads_on (count + 1) c x [] (y ∷ q) more s h e (λ k. cc)
        ∙ ap (λ (m : ℕ). printed m c more) (let k : count + 1 + length (y ∷ q) ≡ count + length (x ∷ y ∷ q) = omega arith in k)

-- a printable character is printed once its last byte has come
reads_both : (count c : ℕ) (more : List ℕ) → IsScalar c → IsPrintable c
    → both count nothing_held (encode c ++ more) ≡ printed (count + length (encode c)) c more
reads_both count c more s h = by_kind (spelled c s)
  where
    Goal : List ℕ → Type 0
    Goal bs = both count nothing_held (bs ++ more) ≡ printed (count + length bs) c more

    by_kind : Spelled c → Goal (encode c)
    by_kind (in_one l e) = subst Goal (sym e) (reads_one count c more s h e l)
    by_kind (in_two g l e) = subst Goal (sym e) (reads_more count c _ _ [] more s h e (λ k. (refl, omega arith)))
    by_kind (in_three g l t e) = subst Goal (sym e) (reads_more count c _ _ (_ ∷ []) more s h e (λ k. absurd (omega arith)))
    by_kind (in_four g l e) = subst Goal (sym e) (reads_more count c _ _ (_ ∷ _ ∷ []) more s h e (λ k. absurd (omega arith)))

pub reads_character : (count c : ℕ) (more : List ℕ) → IsScalar c → IsPrintable c
    → placed_after count nothing_held (encode c ++ more) ≡ (count + length (encode c), Print c) ∷ placed_after (count + length (encode c)) nothing_held more
reads_character count c more s h = ap (λ (r : Both). r.0) (reads_both count c more s h)

pub held_character : (c : ℕ) (more : List ℕ) → IsScalar c → IsPrintable c → (hand_out nothing_held (encode c ++ more)).held ≡ (hand_out nothing_held more).held
held_character c more s h = ap (λ (r : Both). r.1) (reads_both 0 c more s h)

-- ---- a text

pub lent_character : (start count c : ℕ) (more : List ℕ) → IsLendable c → start ≤ count
    → framed_after start count nothing_held (encode c ++ more) ≡ put_text count (encode c) (framed_after start (count + length (encode c)) nothing_held more)
lent_character start count c more h l =
    ap (framed start) (reads_character count c more h.0 h.1)
    ∙ (let e : is_lent start (count + length (encode c)) c ≡ true = lends start (count + length (encode c)) c h (omega arith) in rw e refl)
    ∙ (let k : count + length (encode c) - length (encode c) ≡ count = omega arith in ap (λ (n : ℕ). put_text n (encode c) (framed_after start (count + length (encode c)) nothing_held more)) k)

-- characters side by side are one text, where the bytes after them don't go on with it
pub reads_text : (start count : ℕ) (text rest : List ℕ) → IsText text → text ≢ [] → start ≤ count → BeginsFrom (count + length text + 1) (framed_after start (count + length text) nothing_held rest)
    → framed_after start count nothing_held (text ++ rest) ≡ Text count text ∷ framed_after start (count + length text) nothing_held rest
reads_text start count text rest no_text n l r = absurd (n refl)
reads_text start count text rest (text_of c [] h t) n l r =
    let e : encode c ++ [] ≡ encode c = append-nil (encode c) in
    ap (λ (b : List ℕ). framed_after start count nothing_held (b ++ rest)) e
    ∙ lent_character start count c rest h l
    ∙ put_separate count (encode c) (framed_after start (count + length (encode c)) nothing_held rest) (subst (λ (b : List ℕ). BeginsFrom (count + length b + 1) (framed_after start (count + length b) nothing_held rest)) e r)
    ∙ ap (λ (b : List ℕ). Text count b ∷ framed_after start (count + length b) nothing_held rest) (sym e)
reads_text start count text rest (text_of c (x ∷ more) h t) n l r =
    let k : count + length (encode c) + length (x ∷ more) ≡ count + length (encode c ++ x ∷ more) = omega (arith, length-append (encode c) (x ∷ more)) in
    ap (framed_after start count nothing_held) (append_assoc (encode c) (x ∷ more) rest)
    ∙ lent_character start count c ((x ∷ more) ++ rest) h l
    ∙ ap (put_text count (encode c)) (reads_text start (count + length (encode c)) (x ∷ more) rest t (λ e. cc) (omega arith) (subst (λ (m : ℕ). BeginsFrom (m + 1) (framed_after start m nothing_held rest)) (sym k) r))
    ∙ put_joined count (encode c) (x ∷ more) (framed_after start (count + length (encode c) + length (x ∷ more)) nothing_held rest)
    ∙ ap (λ (m : ℕ). Text count (encode c ++ x ∷ more) ∷ framed_after start m nothing_held rest) k

-- nothing is held after a text
pub text_kept : (text rest : List ℕ) → IsText text → (hand_out nothing_held (text ++ rest)).held ≡ (hand_out nothing_held rest).held
text_kept text rest no_text = refl
text_kept text rest (text_of c more l t) = ap (λ (b : List ℕ). (hand_out nothing_held b).held) (append_assoc (encode c) more rest) ∙ held_character c (more ++ rest) l.0 l.1 ∙ text_kept more rest t
