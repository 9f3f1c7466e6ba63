-- A number that is cut while its digits are read is the same token in the end.
use Rattle.std.proofs.Common.{◌≡◌, ℕ, ◌+◌, ◌-◌, ◌*◌, ◌≤◌, min, Bool, true, false, List, [], ◌∷◌, Some, refl, sym, ap, ◌∙◌, arith}
use Rattle.std.specs.Char.{is_ascii_digit}
use Rattle.csi_codec.specs.Texts.{largest_number, tokens_after}

cut_twice : (n : ℕ) → min (min n largest_number) largest_number ≡ min n largest_number
cut_twice n = omega arith

cut_more : (n d : ℕ) → min (10 * min n largest_number + d) largest_number ≡ min (10 * n + d) largest_number
cut_more n d = omega arith

with_digit : (t : Bool) (n b : ℕ) (bs : List ℕ) → ((m : ℕ) → tokens_after (Some (min m largest_number)) bs ≡ tokens_after (Some m) bs) → is_ascii_digit b ≡ t
    → tokens_after (Some (min n largest_number)) (b ∷ bs) ≡ tokens_after (Some n) (b ∷ bs)
with_digit true n b bs same e = rw e (sym (same (10 * min n largest_number + (b - 48))) ∙ ap (λ m. tokens_after (Some m) bs) (cut_more n (b - 48)) ∙ same (10 * n + (b - 48)))
with_digit false n b bs same e = rw (e, cut_twice) refl

pub cut_same : (bytes : List ℕ) (n : ℕ) → tokens_after (Some (min n largest_number)) bytes ≡ tokens_after (Some n) bytes
cut_same [] n = rw cut_twice refl
cut_same (b ∷ bs) n = with_digit (is_ascii_digit b) n b bs (λ m. cut_same bs m) refl

-- one digit more
pub digit_more : (n b : ℕ) (bs : List ℕ) → is_ascii_digit b ≡ true → tokens_after (Some (min (10 * n + (b - 48)) largest_number)) bs ≡ tokens_after (Some n) (b ∷ bs)
digit_more n b bs e = cut_same bs (10 * n + (b - 48)) ∙ rw e refl

-- no digit more
pub number_ends : (n : ℕ) (bs : List ℕ) → n ≤ largest_number → min n largest_number ≡ n
number_ends n bs h = omega arith
