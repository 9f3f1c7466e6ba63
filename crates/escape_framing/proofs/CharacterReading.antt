-- The plain reading of characters, ill-formed bytes and controls.
use Rattle.std.proofs.Common.{◌≡◌, ◌≢◌, ℕ, ◌<◌, inl, inr, true, false, List, [], ◌∷◌, ◌++◌, refl, sym, ap, subst, ◌∙◌, arith, append_assoc, ⊎_elim}
use Rattle.std.specs.Prelude.{◌==◌, is_none}
use Rattle.std.specs.Char.{IsScalar, is_ascii_control}
use Rattle.std.specs.Str.{is_utf8}
use Rattle.std.specs.Str.Lossy.{utf8_error_len}
use Rattle.std.proofs.lemmas.Bool.Decides.{nat_tests}
use Rattle.std.proofs.lemmas.Str.{encode_same, encode_ascii}
use Rattle.text_clusters.specs.Controls.{in_c1}
use lib.Utf8.{encode, low_scalar}
use Rattle.escape_framing.specs.Segment.{Begun, Segment, Character, IllFormed, Control, IsPrintable, IsControl, BeginsCharacter, IsBegun, IsUnfinished, IsSegment}
use Rattle.escape_framing.specs.Decode.{waits, ends, ends_before, segment_of, first_byte, in_character, next_byte, read_on}
use Rattle.escape_framing.proofs.Existence.Utf8Lemmas.{append_nil, not_shorter, some_last}
use Rattle.escape_framing.proofs.Existence.OutcomeLemmas.{Outcome, whole, begun, broken, outcome, some_bytes}
use Rattle.escape_framing.proofs.Existence.StepLemmas.{char_of}
use Rattle.escape_framing.proofs.ReadLemmas.{after, step_waits, step_ends, step_ends_before}
use Rattle.std.proofs.lemmas.Bool.{cases_Bool, eqb-true, cond_both}

same_char : (c d : ℕ) → encode c ≡ encode d → c ≡ d
same_char c d e = (encode_same c d [] [] (ap (λ l. l ++ []) e)).0

-- ---- one byte after the first ones of a character

-- ESC is no prefix of a longer character
one_is_all : (c : ℕ) (more : List ℕ) → encode c ≡ 0x1B ∷ more → more ≡ []
one_is_all c more e = sym (encode_same c 0x1B [] more (append_nil (encode c) ∙ e ∙ ap (λ l. l ++ more) (sym (encode_ascii 0x1B (omega arith))))).1

-- a byte that leaves a character begun waits
waits_first : (b : ℕ) → IsBegun (b ∷ []) → is_utf8 (b ∷ []) ≡ false → is_none (utf8_error_len (b ∷ [])) ≡ true → first_byte b ≡ waits (Begun (b ∷ []))
unfolding first_byte
waits_first b (c, more, s, e, n, m) u v =
    cond_both (b == 0x1B) _ _ (λ r. r ≡ waits (Begun (b ∷ []))) (λ h. absurd (m (one_is_all c more (e ∙ ap (λ (x : ℕ). x ∷ more) (eqb-true b 0x1B h))))) (λ h. rw (u, v) refl)

pub waits_begun : (p : List ℕ) (b : ℕ) → IsUnfinished (Begun p) → IsBegun (p ++ b ∷ []) → next_byte (Begun p) b ≡ waits (Begun (p ++ b ∷ []))
unfolding next_byte in_character
waits_begun p b g (c, more, s, e, n, m) = by_outcome p (c, more, s, e, n, m) (outcome p b g)
  where
    by_outcome : (p : List ℕ) → IsBegun (p ++ b ∷ []) → Outcome p b → next_byte (Begun p) b ≡ waits (Begun (p ++ b ∷ []))
    by_outcome p (c, more, s, e, n, m) (whole d t k u) = absurd (not_shorter d c [] more (e ∙ ap (λ l. l ++ more) (sym (append_nil (encode d) ∙ k))) m)
    by_outcome p (c, more, s, e, n, m) (broken f u v) = absurd (f (c, more, s, e))
    by_outcome [] h (begun k u v) = waits_first b h u v
    by_outcome (x ∷ p) h (begun k u v) = rw (u, v) refl

-- more of the first bytes of a character are added to those that have begun it
reads_prefix : (p q rest : List ℕ) → IsUnfinished (Begun p) → (c : ℕ) (more : List ℕ) → IsScalar c → encode c ≡ (p ++ q) ++ more → more ≢ [] → read_on (Begun p) (q ++ rest) ≡ read_on (Begun (p ++ q)) rest
reads_prefix p [] rest g c more s e m = ap (λ l. read_on (Begun l) rest) (sym (append_nil p))
reads_prefix p (b ∷ q) rest g c more s e m =
    let split : (p ++ b ∷ []) ++ q ≡ p ++ b ∷ q = append_assoc p (b ∷ []) q in
    let h : IsBegun (p ++ b ∷ []) = (c, q ++ more, s, e ∙ ap (λ l. l ++ more) (sym split) ∙ append_assoc (p ++ b ∷ []) q more, some_last p b, some q) in
    step_waits (Begun p) (Begun (p ++ b ∷ [])) b (q ++ rest) (waits_begun p b g h)
    ∙ reads_prefix (p ++ b ∷ []) q rest (inr h) c more s (e ∙ ap (λ l. l ++ more) (sym split)) m
    ∙ ap (λ l. read_on (Begun l) rest) split
  where
    some : (q : List ℕ) → q ++ more ≢ []
    some [] h = m h
    some (x ∷ q) h = cc

pub reads_begun : (bytes rest : List ℕ) → IsUnfinished (Begun bytes) → read_on (Begun []) (bytes ++ rest) ≡ read_on (Begun bytes) rest
reads_begun bytes rest (inl e) = ap (λ l. read_on (Begun []) (l ++ rest)) e ∙ ap (λ l. read_on (Begun l) rest) (sym e)
reads_begun bytes rest (inr (c, more, s, e, n, m)) = reads_prefix [] bytes rest (inl refl) c more s e m

-- ---- a whole character

-- a list that isn't empty, cut before its last
record Last (xs : List ℕ) : Type 0 where
  prefix : List ℕ
  last : ℕ
  is : xs ≡ prefix ++ last ∷ []

last_of : (x : ℕ) (xs : List ℕ) → Last (x ∷ xs)
last_of x [] = record { prefix = []; last = x; is = refl }
last_of x (y ∷ xs) = let l = last_of y xs in record { prefix = x ∷ l.prefix; last = l.last; is = ap (λ m. x ∷ m) l.is }

last_byte : (c : ℕ) → Last (encode c)
last_byte c = by_list (encode c) refl
  where
    by_list : (xs : List ℕ) → encode c ≡ xs → Last (encode c)
    by_list [] e = absurd (some_bytes c [] (append_nil (encode c) ∙ e))
    by_list (x ∷ xs) e = subst Last (sym e) (last_of x xs)

plain_tests : (c : ℕ) → IsPrintable c → (in_c1 c ≡ false) × (is_ascii_control c ≡ false)
plain_tests c p = (grind (arith, nat_tests), grind (arith, nat_tests))

pub plain_segment : (bytes : List ℕ) (c : ℕ) → IsPrintable c → segment_of bytes c ≡ Character c
plain_segment bytes c p = let k = plain_tests c p in rw (k.0, k.1) refl

control_tests : (c : ℕ) → IsControl c → (in_c1 c ≡ false) × (is_ascii_control c ≡ true)
control_tests c p = (grind (arith, nat_tests), grind (arith, nat_tests))

pub control_segment : (bytes : List ℕ) (c : ℕ) → IsControl c → segment_of bytes c ≡ Control c
control_segment bytes c p = let k = control_tests c p in rw (k.0, k.1) refl

-- the last byte of a character ends it
pub ends_first : (c b : ℕ) → IsScalar c → encode c ≡ b ∷ [] → c ≢ 0x1B → is_utf8 (b ∷ []) ≡ true → first_byte b ≡ ends (segment_of (b ∷ []) c)
unfolding first_byte
ends_first c b s e n u =
    cond_both (b == 0x1B) _ _ (λ r. r ≡ ends (segment_of (b ∷ []) c)) (λ h. absurd (n (same_char c 0x1B (e ∙ ap (λ (x : ℕ). x ∷ []) (eqb-true b 0x1B h) ∙ sym (encode_ascii 0x1B (omega arith))))))
    (λ h. rw (u, char_of c (b ∷ []) s e) refl)

pub ends_character : (c b : ℕ) (p : List ℕ) → IsScalar c → encode c ≡ p ++ b ∷ [] → c ≢ 0x1B → IsUnfinished (Begun p) → next_byte (Begun p) b ≡ ends (segment_of (p ++ b ∷ []) c)
unfolding next_byte in_character
ends_character c b p s e n g = by_outcome p e (outcome p b g)
  where
    by_outcome : (p : List ℕ) → encode c ≡ p ++ b ∷ [] → Outcome p b → next_byte (Begun p) b ≡ ends (segment_of (p ++ b ∷ []) c)
    by_outcome p e (begun (d, more, t, h, k, m) u v) = absurd (not_shorter c d [] more (h ∙ ap (λ l. l ++ more) (sym (append_nil (encode c) ∙ e))) m)
    by_outcome p e (broken f u v) = absurd (f (c, [], s, e ∙ sym (append_nil (p ++ b ∷ []))))
    by_outcome [] e (whole d t h u) = ends_first c b s e n u
    by_outcome (x ∷ p) e (whole d t h u) = rw (u, char_of c (x ∷ p ++ b ∷ []) s e) refl

reads_scalar : (c : ℕ) (f : List ℕ) → IsScalar c → c ≢ 0x1B → read_on (Begun []) (encode c ++ f) ≡ after (segment_of (encode c) c) (read_on (Begun []) f)
reads_scalar c f s n =
    let l = last_byte c in
    let g : IsUnfinished (Begun l.prefix) = prefix l.prefix l.last l.is in
    ap (λ m. read_on (Begun []) (m ++ f)) l.is
    ∙ ap (read_on (Begun [])) (append_assoc l.prefix (l.last ∷ []) f)
    ∙ reads_begun l.prefix (l.last ∷ f) g
    ∙ step_ends (Begun l.prefix) (segment_of (encode c) c) l.last f (ends_character c l.last l.prefix s l.is n g ∙ ap (λ m. ends (segment_of m c)) (sym l.is))
  where
    prefix : (p : List ℕ) (b : ℕ) → encode c ≡ p ++ b ∷ [] → IsUnfinished (Begun p)
    prefix [] b e = inl refl
    prefix (x ∷ p) b e = inr (c, b ∷ [], s, e, λ h. cc, λ h. cc)

pub no_escape : (c : ℕ) → IsPrintable c → c ≢ 0x1B
no_escape c (inl p) e = omega arith
no_escape c (inr p) e = omega arith

pub reads_character : (c : ℕ) (f : List ℕ) → IsSegment (Character c) f → read_on (Begun []) (encode c ++ f) ≡ after (Character c) (read_on (Begun []) f)
reads_character c f h = reads_scalar c f h.0 (no_escape c h.1) ∙ ap (λ (s : Segment). after s (read_on (Begun []) f)) (plain_segment (encode c) c h.1)

pub reads_control : (b : ℕ) (f : List ℕ) → IsSegment (Control b) f → read_on (Begun []) (b ∷ f) ≡ after (Control b) (read_on (Begun []) f)
reads_control b f h =
    let l : b < 128 = ⊎_elim (λ k. let m = k.0 in omega arith) (λ k. omega arith) h in
    let n : b ≢ 0x1B = ⊎_elim (λ k. k.1) (λ k e. omega arith) h in
    let s : IsScalar b = low_scalar b (omega arith) in
    ap (λ m. read_on (Begun []) (m ++ f)) (sym (encode_ascii b l)) ∙ reads_scalar b f s n ∙ ap (λ (s : Segment). after s (read_on (Begun []) f)) (control_segment (encode b) b h)

-- ---- an ill-formed sequence of bytes

pub breaks_first : (b : ℕ) → (BeginsCharacter (b ∷ []) → ⊥) → first_byte b ≡ ends (IllFormed (b ∷ []))
unfolding first_byte
breaks_first b n =
    ⊎_elim (λ h. let k = eqb-true b 0x1B h in absurd (n (b, [], low_scalar b (omega arith), encode_ascii b (omega arith)))) (λ h. by_outcome h (outcome [] b (inl refl))) (cases_Bool (b == 0x1B))
  where
    by_outcome : (b == 0x1B) ≡ false → Outcome [] b → first_byte b ≡ ends (IllFormed (b ∷ []))
    by_outcome h (whole c s e u) = absurd (n (c, [], s, e))
    by_outcome h (begun (c, more, s, e, k, m) u v) = absurd (n (c, more, s, e))
    by_outcome h (broken f u v) = rw (h, u, v) refl

pub breaks : (p : List ℕ) (b : ℕ) → IsBegun p → (BeginsCharacter (p ++ b ∷ []) → ⊥) → next_byte (Begun p) b ≡ ends_before (IllFormed p) (first_byte b)
unfolding next_byte in_character
breaks [] b (c, more, s, e, n, m) f = absurd (n refl)
breaks (x ∷ p) b g f = by_outcome (outcome (x ∷ p) b (inr g))
  where
    by_outcome : Outcome (x ∷ p) b → next_byte (Begun (x ∷ p)) b ≡ ends_before (IllFormed (x ∷ p)) (first_byte b)
    by_outcome (whole c s e u) = absurd (f (c, [], s, e ∙ sym (append_nil (x ∷ p ++ b ∷ []))))
    by_outcome (begun (c, more, s, e, k, m) u v) = absurd (f (c, more, s, e))
    by_outcome (broken h u v) = rw (u, v) refl

pub reads_ill_formed : (p f : List ℕ) → IsSegment (IllFormed p) f → read_on (Begun []) (p ++ f) ≡ after (IllFormed p) (read_on (Begun []) f)
unfolding next_byte in_character
reads_ill_formed p f (inl (b, e, n)) =
    ap (λ l. read_on (Begun []) (l ++ f)) e ∙ step_ends (Begun []) (IllFormed (b ∷ [])) b f (breaks_first b (subst (λ l. BeginsCharacter l → ⊥) e n)) ∙ ap (λ l. after (IllFormed l) (read_on (Begun []) f)) (sym e)
reads_ill_formed p f (inr (g, (next, remaining, e, n))) =
    reads_begun p f (inr g)
    ∙ ap (read_on (Begun p)) e
    ∙ step_ends_before (Begun p) (IllFormed p) next remaining (breaks p next g n)
    ∙ ap (λ l. after (IllFormed p) (read_on (Begun []) l)) (sym e)
