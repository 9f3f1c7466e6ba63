-- How long the first bytes of a character are.
use Rattle.std.proofs.Common.{◌≡◌, ℕ, zero, suc, ◌<◌, ◌≤◌, inl, inr, List, [], ◌∷◌, ◌++◌, length, take, drop, refl, sym, ap, subst, ◌∙◌, arith, append_assoc, length-append}
use Rattle.std.specs.Str.{IsUtf8}
use Rattle.std.proofs.lemmas.List.{take-append-le, take-append-drop}
use Rattle.std.proofs.lemmas.Str.{length-encode, len_utf8_bounds}
use lib.Utf8.{encode}
use Rattle.escape_framing.specs.Segment.{Begun, IsUnfinished}
use Rattle.escape_framing.proofs.Existence.Utf8Lemmas.{not_shorter}
use Rattle.escape_framing.proofs.Existence.OutcomeLemmas.{first_of_text, some_bytes}

pub length-tail : (t : List ℕ) → IsUnfinished (Begun t) → length t ≤ 3
length-tail t (inl e) = omega (arith, ap length e)
length-tail t (inr (c, [], s, e, n, m)) = absurd (m refl)
length-tail t (inr (c, y ∷ more, s, e, n, m)) = let k = len_utf8_bounds c in omega (arith, ap length e, length-append t (y ∷ more), length-encode c)

-- no prefix of a tail is a text, with one byte after it neither
pub no_text_in_tail : (t : List ℕ) (b n : ℕ) → IsUnfinished (Begun t) → IsUtf8 (take n (t ++ b ∷ [])) → n < length (t ++ b ∷ []) → n ≡ 0
no_text_in_tail t b zero g u l = refl
no_text_in_tail t b (suc n) g u l =
    let short : suc n ≤ length t = omega (arith, length-append t (b ∷ [])) in
    let same : take (suc n) (t ++ b ∷ []) ≡ take (suc n) t = take-append-le (suc n) t (b ∷ []) short in
    let f = first_of_text (take (suc n) t) (subst IsUtf8 same u) (filled t short) in
    let whole : t ≡ encode f.0 ++ (f.1 ++ drop (suc n) t) = sym (take-append-drop (suc n) t) ∙ ap (λ l. l ++ drop (suc n) t) (sym f.3) ∙ append_assoc (encode f.0) f.1 _ in
    absurd (held f.0 (f.1 ++ drop (suc n) t) whole g)
  where
    filled : (t : List ℕ) → suc n ≤ length t → take (suc n) t ≡ [] → ⊥
    filled [] l e = absurd (omega arith)
    filled (x ∷ t) l e = cc

    held : (c : ℕ) (rest : List ℕ) → t ≡ encode c ++ rest → IsUnfinished (Begun t) → ⊥
    held c rest e (inl k) = some_bytes c rest (sym e ∙ k)
    held c rest e (inr (d, more, s, h, k, m)) = not_shorter c d rest more (rw e at h) m
