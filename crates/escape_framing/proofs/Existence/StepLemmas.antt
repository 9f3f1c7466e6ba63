-- The segments and the tail that one more byte adds to an open tail.
use Rattle.std.proofs.Common.{◌≡◌, ◌≢◌, ℕ, ◌/◌, ◌+◌, ◌<◌, ◌≤◌, inl, inr, ⊎_elim, true, false, List, [], ◌∷◌, ◌++◌, refl, sym, ap, subst, ◌∙◌, arith, append_assoc}
use Rattle.std.specs.Prelude.{◌==◌, slice_index}
use Rattle.std.specs.Char.{IsScalar, is_ascii_control}
use Rattle.std.specs.List.{flat_map}
use Rattle.std.specs.Str.{chars}
use Rattle.std.proofs.lemmas.Bool.Decides.{nat_tests}
use Rattle.std.proofs.lemmas.Str.{chars-encodes, encode_ascii}
use lib.Utf8.{encode, next}
use Rattle.text_clusters.specs.Controls.{in_c1}
use Rattle.escape_framing.specs.Segment.{Tail, Begun, OpenEscape, bytes_of_tail, Segment, Character, IllFormed, Control, bytes_of, IsPrintable, IsControl, IsUnfinished, IsSegment, StandInRow}
use Rattle.escape_framing.specs.Decode.{Reading, waits, ends, ends_before, segment_of, first_byte, in_character, reading_of}
use Rattle.escape_framing.proofs.Existence.Utf8Lemmas.{order, append_nil, two}
use Rattle.escape_framing.proofs.Existence.OutcomeLemmas.{Outcome, whole, begun, broken, outcome}
use Rattle.escape_framing.proofs.Existence.SevenBitLemmas.{no_pair}
use Rattle.std.proofs.lemmas.Bool.{cond_both, eqb-true}

-- A reading of bytes: its segments and its tail are just these bytes, the tail is unfinished, and the segments may come before it,
-- whatever follows.
pub record Adds (bytes : List ℕ) (r : Reading) : Type 0 where
  pub joined : flat_map bytes_of r.segments ++ bytes_of_tail r.tail ≡ bytes
  pub unfinished : IsUnfinished r.tail
  pub each : no_pair bytes ≡ true → (more : List ℕ) → StandInRow r.segments (bytes_of_tail r.tail ++ more)

pub adds_open : (bytes : List ℕ) (t : Tail) → bytes_of_tail t ≡ bytes → IsUnfinished t → Adds bytes (waits t)
adds_open bytes t e g = record { joined = e; unfinished = g; each = λ p more. tt }

pub adds_end : (bytes : List ℕ) (s : Segment) → bytes_of s ≡ bytes → (no_pair bytes ≡ true → (f : List ℕ) → IsSegment s f) → Adds bytes (ends s)
adds_end bytes s e h = record { joined = append_nil _ ∙ append_nil _ ∙ e; unfinished = inl refl; each = λ p more. (h p _, tt) }

pub adds_before : (prefix : List ℕ) (s : Segment) (b : ℕ) → bytes_of s ≡ prefix → ((remaining : List ℕ) → IsSegment s (b ∷ remaining)) → Adds (b ∷ []) (first_byte b) → Adds (prefix ++ b ∷ []) (ends_before s (first_byte b))
adds_before prefix s b e h f = record {
  joined = append_assoc (bytes_of s) (flat_map bytes_of (first_byte b).segments) (bytes_of_tail (first_byte b).tail) ∙ ap (λ l. bytes_of s ++ l) f.joined ∙ ap (λ l. l ++ b ∷ []) e;
  unfinished = f.unfinished;
  each = λ p more. (subst (IsSegment s) (sym (ap (λ l. l ++ more) f.joined) ∙ append_assoc (flat_map bytes_of (first_byte b).segments) (bytes_of_tail (first_byte b).tail) more) (h more), f.each refl more);
}

-- ---- a character

-- a C1 control is C2 and its own code
c1_bytes : (c : ℕ) → in_c1 c ≡ true → encode c ≡ 0xC2 ∷ c ∷ []
c1_bytes c h =
    let low : 0x80 ≤ c = grind (arith, nat_tests) in
    let high : c ≤ 0x9F = grind (arith, nat_tests) in
    let p : 192 + c / 64 ≡ 0xC2 = omega arith in
    let q : next c ≡ c = omega arith in
    two c low (omega arith) ∙ (λ i. p i ∷ q i ∷ [])

pub printable : (c : ℕ) → in_c1 c ≡ false → is_ascii_control c ≡ false → IsPrintable c
printable c h k = ⊎_elim (λ l. inl (grind (arith, nat_tests), grind (arith, nat_tests))) (λ g. inr (grind (arith, nat_tests))) (order c 0x80)

adds_character : (bytes : List ℕ) (c : ℕ) → IsScalar c → encode c ≡ bytes → c ≢ 0x1B → Adds bytes (ends (segment_of bytes c))
adds_character bytes c s e n =
    cond_both (in_c1 c) _ _ (λ t. Adds bytes (ends t)) (λ h. adds_end bytes (IllFormed bytes) refl (λ p f. absurd (no_c1 h p))) (λ h.
    cond_both (is_ascii_control c) _ _ (λ t. Adds bytes (ends t)) (λ k. adds_end bytes (Control c) (sym (encode_ascii c (small k)) ∙ e) (λ p f. control k))
    (λ k. adds_end bytes (Character c) e (λ p f. (s, printable c h k))))
  where
    no_c1 : in_c1 c ≡ true → no_pair bytes ≡ true → ⊥
    no_c1 h p =
        let k : no_pair (0xC2 ∷ c ∷ []) ≡ true = ap no_pair (sym (c1_bytes c h) ∙ e) ∙ p in
        let l : no_pair (0xC2 ∷ c ∷ []) ≡ false = rw h refl in cc

    control : is_ascii_control c ≡ true → IsControl c
    control h = ⊎_elim (λ l. inl (l, n)) (λ g. inr (let k : c ≡ 0x7F = grind (arith, nat_tests) in k)) (order c 0x20)

    small : is_ascii_control c ≡ true → c < 128
    small h = grind (arith, nat_tests)

pub char_of : (c : ℕ) (bytes : List ℕ) → IsScalar c → encode c ≡ bytes → slice_index (chars bytes) 0 ≡ c
char_of c bytes s e =
    let k : chars bytes ≡ c ∷ [] = ap chars (sym (append_nil (encode c) ∙ e)) ∙ chars-encodes (c ∷ []) (rw s refl) in
    ap (λ l. slice_index l 0) k

-- a byte that nothing waits for
pub adds_first : (b : ℕ) → Adds (b ∷ []) (first_byte b)
unfolding first_byte
adds_first b =
    cond_both (b == 0x1B) _ _ (Adds (b ∷ [])) (λ h. adds_open (b ∷ []) (OpenEscape []) (ap (λ (x : ℕ). x ∷ []) (sym (eqb-true b 0x1B h))) refl) (λ h. by_outcome h (outcome [] b (inl refl)))
  where
    no_escape : (c : ℕ) → encode c ≡ b ∷ [] → (b == 0x1B) ≡ false → c ≢ 0x1B
    no_escape c e h k = let l : c ∷ [] ≡ b ∷ [] = sym (encode_ascii c (omega arith)) ∙ e in let m : c ≡ b = cc in grind (arith, nat_tests)

    by_outcome : (b == 0x1B) ≡ false → Outcome [] b → Adds (b ∷ []) (reading_of (b ∷ []) (ends (IllFormed (b ∷ []))))
    by_outcome h (whole c s e u) = rw (u, char_of c (b ∷ []) s e) (adds_character (b ∷ []) c s e (no_escape c e h))
    by_outcome h (begun g u n) = rw (u, n) (adds_open (b ∷ []) (Begun (b ∷ [])) refl (inr g))
    by_outcome h (broken f u n) = rw (u, n) (adds_end (b ∷ []) (IllFormed (b ∷ [])) refl (λ p l. inl (b, refl, f)))

-- a byte after the first ones of a character
pub adds_in_character : (t : List ℕ) (b : ℕ) → IsUnfinished (Begun t) → Adds (t ++ b ∷ []) (in_character t b)
unfolding in_character
adds_in_character [] b g = adds_first b
adds_in_character (x ∷ t) b g = by_outcome g (outcome (x ∷ t) b g)
  where
    one : (y : ℕ) (t : List ℕ) → y ∷ [] ≡ x ∷ t ++ b ∷ [] → ⊥
    one y [] k = cc
    one y (z ∷ t) k = cc

    by_outcome : IsUnfinished (Begun (x ∷ t)) → Outcome (x ∷ t) b → Adds (x ∷ t ++ b ∷ []) (in_character (x ∷ t) b)
    by_outcome g (whole c s e u) = rw (u, char_of c (x ∷ t ++ b ∷ []) s e) (adds_character (x ∷ t ++ b ∷ []) c s e (λ k. one c t (sym (encode_ascii c (omega arith)) ∙ e)))
    by_outcome g (begun h u m) = rw (u, m) (adds_open (x ∷ t ++ b ∷ []) (Begun (x ∷ t ++ b ∷ [])) refl (inr h))
    by_outcome (inl h) (broken f u m) = cc
    by_outcome (inr h) (broken f u m) = rw (u, m) (adds_before (x ∷ t) (IllFormed (x ∷ t)) b refl (λ remaining. inr (h, (b, remaining, refl, f))) (adds_first b))
