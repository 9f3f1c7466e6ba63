-- The character that `decode_utf8` gives encodes to these bytes.
use Rattle.std.proofs.Common.{◌≡◌, ◌≢◌, ℕ, suc, ◌+◌, ◌<◌, ◌≤◌, inl, inr, true, Some, None, List, [], ◌∷◌, ◌++◌, length, take, refl, sym, ap, subst, ◌∙◌, arith}
use Rattle.std.specs.Prelude.{slice_index}
use Rattle.std.specs.Char.{IsScalar}
use Rattle.std.specs.List.{prefix_len}
use Rattle.std.proofs.lemmas.Bool.Decides.{nat_tests}
use Rattle.std.proofs.lemmas.List.Sums.{prefix_len-le-length}
use Rattle.std.proofs.lemmas.Str.{encode_ascii, length-encode, len_utf8_bounds}
use lib.Utf8.{encode, low_scalar}
use Rattle.bstr.specs.Utf8.{Decoded, bad, good, decoded, second, continues}
use Rattle.bstr.proofs.lemmas.PieceLemmas.{Shape, decoded_by-shape}
use Rattle.bstr.proofs.lemmas.EncodeLemmas.{decoded-encode}
use Rattle.text_clusters.specs.Plain.{is_printable}
use Rattle.escape_framing.specs.Segment.{IsPrintable}
use Rattle.escape_framing.specs.Framed.{IsText, no_text, text_of, IsCharacterLen, IsRunLen}
use Rattle.escape_framing.proofs.Existence.Utf8Lemmas.{two_bytes, three_bytes, four_bytes}
use Rattle.std.proofs.lemmas.Bool.{cond_both}

-- ---- decoding gives the character that was encoded

-- the bytes begin with the encoding of a character, which has n bytes
abbrev pub Begins : List ℕ → ℕ → ℕ → Type 0
Begins bytes c n = (more : List ℕ) × IsScalar c × (bytes ≡ encode c ++ more) × (length (encode c) ≡ n)

encoded : (bytes more : List ℕ) (d c n : ℕ) → IsScalar d → bytes ≡ encode d ++ more → decoded bytes ≡ good c n → Begins bytes c n
encoded bytes more d c n s e h =
    let k : good d (length (encode d)) ≡ good c n = sym (ap decoded e ∙ decoded-encode d more s) ∙ h in
    let char : Some d ≡ Some c = ap (λ (p : Decoded). p.char) k in
    let same : d ≡ c = cc in
    subst (λ (v : ℕ). Begins bytes v n) same (more, s, e, ap (λ (p : Decoded). p.size) k)

-- the bytes are the encoding of a character
abbrev pub Encodes : List ℕ → Type 0
Encodes bytes = (c : ℕ) × IsScalar c × (encode c ≡ bytes)

pub two : (x y : ℕ) → 0xC2 ≤ x → x < 0xE0 → second x y ≡ true → Encodes (x ∷ y ∷ [])
two x y l m s = two_bytes x y l m (grind (arith, nat_tests)) (grind (arith, nat_tests))

pub three : (x y z : ℕ) → 0xE0 ≤ x → x < 0xF0 → second x y ≡ true → continues z ≡ true → Encodes (x ∷ y ∷ z ∷ [])
three x y z l m s k = three_bytes x y z l m (λ e. grind (arith, nat_tests)) (λ e. grind (arith, nat_tests)) (grind (arith, nat_tests)) (grind (arith, nat_tests)) (grind (arith, nat_tests)) (grind (arith, nat_tests))

pub four : (x y z w : ℕ) → 0xF0 ≤ x → x ≤ 0xF4 → second x y ≡ true → continues z ≡ true → continues w ≡ true → Encodes (x ∷ y ∷ z ∷ w ∷ [])
four x y z w l m s k i = four_bytes x y z w l m (λ e. grind (arith, nat_tests)) (λ e. grind (arith, nat_tests)) (grind (arith, nat_tests)) (grind (arith, nat_tests)) (grind (arith, nat_tests)) (grind (arith, nat_tests)) (grind (arith, nat_tests)) (grind (arith, nat_tests))

-- the encoding of a character at the start
prefix : (bytes xs more : List ℕ) (c n : ℕ) → Encodes xs → bytes ≡ xs ++ more → decoded bytes ≡ good c n → Begins bytes c n
prefix bytes xs more c n t e h = encoded bytes more t.0 c n t.1 (e ∙ ap (λ (b : List ℕ). b ++ more) (sym t.2)) h

no_character : (n m c : ℕ) → bad n ≡ good c m → ⊥
no_character n m c e = let k : None ≡ Some c = ap (λ (p : Decoded). p.char) e in cc

pub decoded_is : (bytes : List ℕ) (c n : ℕ) → decoded bytes ≡ good c n → Begins bytes c n
decoded_is bytes c n h = by_shape bytes h (decoded_by-shape (length bytes) (slice_index bytes 0) (slice_index bytes 1) (slice_index bytes 2) (slice_index bytes 3))
  where
    by_shape : (bytes : List ℕ) → decoded bytes ≡ good c n → Shape (decoded bytes) (length bytes) (slice_index bytes 0) (slice_index bytes 1) (slice_index bytes 2) (slice_index bytes 3) → Begins bytes c n
    by_shape bytes h (inl p) = absurd (no_character 0 n c (sym p.1 ∙ h))
    by_shape (x ∷ more) h (inr (inl p)) = prefix (x ∷ more) (x ∷ []) more c n (x, low_scalar x (omega arith), encode_ascii x p.1) refl h
    by_shape _ h (inr (inl p)) = absurd (omega (arith, p.0))
    by_shape bytes h (inr (inr (inl p))) = absurd (no_character 1 n c (sym p.3 ∙ h))
    by_shape bytes h (inr (inr (inr (inl p)))) = absurd (no_character 1 n c (sym p.2 ∙ h))
    by_shape bytes h (inr (inr (inr (inr (inl p))))) = absurd (no_character 1 n c (sym p.4 ∙ h))
    by_shape bytes h (inr (inr (inr (inr (inr (inl p)))))) = absurd (no_character 1 n c (sym p.4 ∙ h))
    by_shape (x ∷ y ∷ more) h (inr (inr (inr (inr (inr (inr (inl p))))))) = prefix (x ∷ y ∷ more) (x ∷ y ∷ []) more c n (two x y p.1 p.2 p.3) refl h
    by_shape _ h (inr (inr (inr (inr (inr (inr (inl p))))))) = absurd (omega (arith, p.0))
    by_shape bytes h (inr (inr (inr (inr (inr (inr (inr (inl p)))))))) = absurd (no_character 2 n c (sym p.5 ∙ h))
    by_shape bytes h (inr (inr (inr (inr (inr (inr (inr (inr (inl p))))))))) = absurd (no_character 2 n c (sym p.5 ∙ h))
    by_shape (x ∷ y ∷ z ∷ more) h (inr (inr (inr (inr (inr (inr (inr (inr (inr (inl p)))))))))) = prefix (x ∷ y ∷ z ∷ more) (x ∷ y ∷ z ∷ []) more c n (three x y z p.1 p.2 p.3 p.4) refl h
    by_shape _ h (inr (inr (inr (inr (inr (inr (inr (inr (inr (inl p)))))))))) = absurd (omega (arith, p.0))
    by_shape bytes h (inr (inr (inr (inr (inr (inr (inr (inr (inr (inr (inl p))))))))))) = absurd (no_character 3 n c (sym p.6 ∙ h))
    by_shape bytes h (inr (inr (inr (inr (inr (inr (inr (inr (inr (inr (inr (inl p)))))))))))) = absurd (no_character 3 n c (sym p.6 ∙ h))
    by_shape (x ∷ y ∷ z ∷ w ∷ more) h (inr (inr (inr (inr (inr (inr (inr (inr (inr (inr (inr (inr p)))))))))))) = prefix (x ∷ y ∷ z ∷ w ∷ more) (x ∷ y ∷ z ∷ w ∷ []) more c n (four x y z w p.1 p.2 p.3 p.4 p.5) refl h
    by_shape _ h (inr (inr (inr (inr (inr (inr (inr (inr (inr (inr (inr (inr p)))))))))))) = absurd (omega (arith, p.0))

-- ---- characters that can be lent

pub some_character : (bytes : List ℕ) (c n : ℕ) → decoded bytes ≡ good c n → IsPrintable c → c ≢ 0xFFFD → IsCharacterLen bytes n
some_character bytes c n h p r =
    let b = decoded_is bytes c n h in
    record { none = λ z. absurd (let k = len_utf8_bounds c in omega (arith, b.3, length-encode c)); some = λ l. (c, b.0, (b.1, p, r), b.2, b.3) }

-- no character that can be lent was decoded
pub no_character_here : (bytes : List ℕ) → ((c n : ℕ) → decoded bytes ≡ good c n → IsPrintable c → c ≢ 0xFFFD → ⊥) → IsCharacterLen bytes 0
no_character_here bytes none = record {
  none = λ z. record { none = λ c more l e. none c (length (encode c)) (ap decoded e ∙ decoded-encode c more l.0) l.1 l.2 };
  some = λ l. absurd (omega arith);
}

-- ---- runs of printable ASCII characters

plain_says : (b : ℕ) → is_printable b ≡ true → (0x20 ≤ b) × (b ≤ 0x7E)
plain_says b h = (grind (arith, nat_tests), grind (arith, nat_tests))

plain_text : (bytes : List ℕ) → IsText (take (prefix_len is_printable bytes) bytes)
plain_text [] = no_text
plain_text (b ∷ bytes) = cond_both (is_printable b) _ _ (λ n. IsText (take n (b ∷ bytes)))
    (λ e. let r = plain_says b e in
    let s : take (1 + prefix_len is_printable bytes) (b ∷ bytes) ≡ encode b ++ take (prefix_len is_printable bytes) bytes =
    (let k : 1 + prefix_len is_printable bytes ≡ suc (prefix_len is_printable bytes) = omega arith in
    ap (λ (n : ℕ). take n (b ∷ bytes)) k ∙ ap (λ (l : List ℕ). l ++ take (prefix_len is_printable bytes) bytes) (sym (encode_ascii b (omega arith)))) in
    subst IsText (sym s) (text_of b (take (prefix_len is_printable bytes) bytes) (low_scalar b (omega arith), inl r, λ z. omega arith) (plain_text bytes)))
    (λ e. no_text)

-- a run of one printable character or more
pub plain_run : (bytes : List ℕ) (b : ℕ) (rest : List ℕ) (n : ℕ) → bytes ≡ b ∷ rest → is_printable b ≡ true → n ≡ prefix_len is_printable bytes → IsRunLen bytes n
plain_run bytes b rest n s p e =
    let k : prefix_len is_printable bytes ≡ 1 + prefix_len is_printable rest = ap (prefix_len is_printable) s ∙ rw p refl in
    record { none = λ z. absurd (omega arith); text = subst (λ (m : ℕ). IsText (take m bytes)) (sym e) (plain_text bytes); within = let l = prefix_len-le-length is_printable bytes in omega arith }
