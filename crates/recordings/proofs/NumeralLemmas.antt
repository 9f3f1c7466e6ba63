-- Numbers that stop at the greatest.
use Rattle.std.proofs.Common.{◌≡◌, ℕ, zero, suc, ◌+◌, ◌-◌, ◌*◌, min, List, [], ◌∷◌, ◌++◌, length, take, refl, sym, ap, ◌∙◌, arith}
use Rattle.recordings.specs.Numerals.{number_after}

-- capping a number before more digits are read leaves the capped result as it is
pub stopped : (most n : ℕ) (digits : List ℕ) → min (number_after (min n most) digits) most ≡ min (number_after n digits) most
stopped most n [] = omega arith
stopped most n (digit ∷ digits) =
    let early : min (min n most * 10 + (digit - 48)) most ≡ min (n * 10 + (digit - 48)) most = omega arith in
    sym (stopped most (min n most * 10 + (digit - 48)) digits)
    ∙ ap (λ k. min (number_after k digits) most) early
    ∙ stopped most (n * 10 + (digit - 48)) digits

-- one more digit
pub digit_taken : (most value next digit : ℕ) (digits : List ℕ) → next ≡ min (value * 10 + (digit - 48)) most
    → min (number_after next digits) most ≡ min (number_after value (digit ∷ digits)) most
digit_taken most value next digit digits is =
    ap (λ k. min (number_after k digits) most) is ∙ stopped most (value * 10 + (digit - 48)) digits

-- the first items of one list after another
take_joined : (n : ℕ) (xs ys : List ℕ) → take n (xs ++ ys) ≡ take n xs ++ take (n - length xs) ys
take_joined zero [] ys = refl
take_joined (suc n) [] ys = let all : suc n ≡ suc n - 0 = omega arith in ap (λ k. take k ys) all
take_joined zero (x ∷ xs) ys = let none : 0 ≡ 0 - length (x ∷ xs) = omega arith in ap (λ k. take k ys) none
take_joined (suc n) (x ∷ xs) ys =
    let left : n - length xs ≡ suc n - length (x ∷ xs) = omega arith in
    ap (λ zs. x ∷ zs) (take_joined n xs ys) ∙ ap (λ k. x ∷ take n xs ++ take k ys) left

-- digits after digits
pub number_joined : (n : ℕ) (one other : List ℕ) → number_after n (one ++ other) ≡ number_after (number_after n one) other
number_joined n [] other = refl
number_joined n (digit ∷ one) other = number_joined (n * 10 + (digit - 48)) one other

-- the first digits of three lists of digits, each read after the one before it
pub joined_stopped : (most count : ℕ) (one two three : List ℕ) (first second third : ℕ)
    → first ≡ min (number_after 0 (take count one)) most
    → second ≡ min (number_after first (take (count - length one) two)) most
    → third ≡ min (number_after second (take (count - length one - length two) three)) most
    → third ≡ min (number_after 0 (take count (one ++ (two ++ three)))) most
joined_stopped most count one two three first second third one_is two_is three_is =
    let cut : take count (one ++ (two ++ three)) ≡ take count one ++ (take (count - length one) two ++ take (count - length one - length two) three) =
    take_joined count one (two ++ three) ∙ ap (λ ds. take count one ++ ds) (take_joined (count - length one) two three) in
    let second_is : second ≡ min (number_after (number_after 0 (take count one)) (take (count - length one) two)) most =
    two_is ∙ ap (λ n. min (number_after n (take (count - length one) two)) most) one_is ∙ stopped most (number_after 0 (take count one)) (take (count - length one) two) in
    let after : List ℕ = take (count - length one - length two) three in
    three_is
    ∙ ap (λ n. min (number_after n after) most) second_is
    ∙ stopped most (number_after (number_after 0 (take count one)) (take (count - length one) two)) after
    ∙ ap (λ n. min n most) (sym (number_joined (number_after 0 (take count one)) (take (count - length one) two) after))
    ∙ ap (λ n. min n most) (sym (number_joined 0 (take count one) (take (count - length one) two ++ after)))
    ∙ ap (λ ds. min (number_after 0 ds) most) (sym cut)
