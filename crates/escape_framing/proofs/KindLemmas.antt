-- The answer of `from_utf8` for an unfinished tail and one more byte.
use Rattle.std.proofs.Common.{◌≡◌, ℕ, false, List, [], ◌∷◌, take, drop, ap, subst, ◌∙◌, Option, Some}
use Rattle.std.specs.Prelude.{slice_get, slice_index}
use Rattle.std.specs.Str.{IsUtf8, is_utf8, IsValidUpTo}
use Rattle.std.specs.Str.Lossy.{utf8_error_len}
use Rattle.std.proofs.lemmas.Str.{IsUtf8-from_is_utf8}
use Rattle.escape_framing.proofs.BegunLemmas.{no_text_in_tail}
use Rattle.escape_framing.specs.Characters.{IsAfterBegun}
use Rattle.std.proofs.lemmas.Bool.{false_from_ne_true}

pub fault_is : (bytes : List ℕ) (n : ℕ) (o : Option ℕ) → IsAfterBegun bytes → (IsUtf8 bytes → ⊥) → IsValidUpTo bytes n → o ≡ utf8_error_len (drop n bytes)
    → (is_utf8 bytes ≡ false) × (o ≡ utf8_error_len bytes)
fault_is bytes n o (tail, b, g, f) u v e =
    let z : n ≡ 0 = no_text_in_tail tail b n g (subst (λ l. IsUtf8 (take n l)) f v.front) (rw f at v.short) in
    (false_from_ne_true (is_utf8 bytes) (λ k. u (IsUtf8-from_is_utf8 bytes k)), e ∙ ap (λ (m : ℕ). utf8_error_len (drop m bytes)) z)

pub first_is : (cs : List ℕ) (c : ℕ) → Some c ≡ slice_get cs 0 → slice_index cs 0 ≡ c
first_is [] c e = cc
first_is (d ∷ cs) c e = cc
