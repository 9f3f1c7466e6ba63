-- Lists of rows: whole regions, a row that is set, and rows that become blanks.
use Rattle.std.proofs.Common.{◌≡◌, ℕ, zero, suc, ◌+◌, ◌<◌, ◌≤◌, List, [], ◌∷◌, ◌++◌, length, take, drop, set, map, replicate, refl, ap, ◌∙◌, arith}
use Rattle.screen_effects.specs.Regions.{in_region}

pub take_all : {A : Type 0} (xs : List A) → take (length xs) xs ≡ xs
take_all [] = refl
take_all (x ∷ xs) = ap (λ ys. x ∷ ys) (take_all xs)

pub drop_past : {A : Type 0} (n : ℕ) (xs : List A) → length xs ≤ n → drop n xs ≡ []
drop_past zero [] h = refl
drop_past (suc n) [] h = refl
drop_past zero (x ∷ xs) h = absurd (omega arith)
drop_past (suc n) (x ∷ xs) h = drop_past n xs (omega arith)

pub append_nil : {A : Type 0} (xs : List A) → xs ++ [] ≡ xs
append_nil [] = refl
append_nil (x ∷ xs) = ap (λ ys. x ∷ ys) (append_nil xs)

-- a region of all rows
pub whole_region : {A : Type 0} (change : List A → List A) (xs : List A) → in_region change 0 (length xs) xs ≡ change xs
whole_region change xs =
    let past = drop_past (0 + length xs) xs (omega arith) in
    ap (λ ys. change (take (length xs) xs) ++ ys) past ∙ append_nil (change (take (length xs) xs)) ∙ ap change (take_all xs)

-- a row that is set is the last of those up to it
take_set_suc : {A : Type 0} (xs : List A) (k : ℕ) (x : A) → k < length xs → take (suc k) (set xs k x) ≡ take k xs ++ x ∷ []
take_set_suc [] k x h = absurd (omega arith)
take_set_suc (y ∷ ys) zero x h = refl
take_set_suc (y ∷ ys) (suc k) x h = ap (λ zs. y ∷ zs) (take_set_suc ys k x (omega arith))

pub take_set : {A : Type 0} (xs : List A) (k : ℕ) (x : A) → k < length xs → take (k + 1) (set xs k x) ≡ take k xs ++ x ∷ []
take_set xs k x h = let e : k + 1 ≡ suc k = omega arith in ap (λ n. take n (set xs k x)) e ∙ take_set_suc xs k x h

-- rows that all become one
pub map_same : {A : Type 0} (x : A) (xs : List A) → map (λ _. x) xs ≡ replicate (length xs) x
map_same x [] = refl
map_same x (y ∷ ys) = ap (λ zs. x ∷ zs) (map_same x ys)
