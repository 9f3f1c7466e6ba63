-- Elements outside of a region.
use Rattle.std.proofs.Common.{◌≡◌, ℕ, ◌+◌, ◌-◌, ◌<◌, ◌≤◌, inl, inr, List, ◌++◌, length, length-append, take, drop, set, sym, ap, ◌∙◌, arith}
use Rattle.std.specs.Prelude.{◌⊎◌}
use Rattle.std.proofs.Math.Seq.{take-set-lt}
use Rattle.std.proofs.lemmas.List.{drop-set-add, drop-set-lt, length-drop, length-take-le, set-append_left, set-append_right, take-set-le}
use Rattle.screen_effects.specs.Regions.{in_region}

-- an element outside of a region that keeps its size is another one before the region changes, or after
pub set_outside : {X : Type 0} (change : List X → List X) (first size at : ℕ) (x : X) (xs : List X) → ((ys : List X) → length (change ys) ≡ length ys) → first + size ≤ length xs → at < first ⊎ first + size ≤ at
    → set (in_region change first size xs) at x ≡ in_region change first size (set xs at x)
set_outside change first size at x xs same within (inl h) =
    let top : take first (set xs at x) ≡ set (take first xs) at x = take-set-lt first xs at x h in
    let middle : drop first (set xs at x) ≡ drop first xs = drop-set-lt first xs at x h in
    let rest : drop (first + size) (set xs at x) ≡ drop (first + size) xs = drop-set-lt (first + size) xs at x (omega (arith, h)) in
    let long = length-take-le first xs (omega (arith, within)) in
    let both = length-append (take first xs) (change (take size (drop first xs))) in
    set-append_left (take first xs ++ change (take size (drop first xs))) (drop (first + size) xs) at x (omega (arith, h, long, both))
    ∙ ap (λ (ys : List _). ys ++ drop (first + size) xs) (set-append_left (take first xs) (change (take size (drop first xs))) at x (omega (arith, h, long)))
    ∙ sym (λ i. top i ++ change (take size (middle i)) ++ rest i)
set_outside change first size at x xs same within (inr h) =
    let n : ℕ = at - first in
    let m : ℕ = at - first - size in
    let far : at ≡ first + n = omega (arith, h) in
    let farther : at ≡ first + size + m = omega (arith, h) in
    let here : at - (first + size) ≡ m = omega (arith, h) in
    let top : take first (set xs at x) ≡ take first xs = take-set-le first xs at x (omega (arith, h)) in
    let middle : take size (drop first (set xs at x)) ≡ take size (drop first xs) =
    ap (λ k. take size (drop first (set xs k x))) far ∙ ap (take size) (drop-set-add first xs n x) ∙ take-set-le size (drop first xs) n x (omega (arith, h)) in
    let rest : drop (first + size) (set xs at x) ≡ set (drop (first + size) xs) m x = ap (λ k. drop (first + size) (set xs k x)) farther ∙ drop-set-add (first + size) xs m x in
    let long = length-take-le first xs (omega (arith, within)) in
    let left = length-drop first xs in
    let some : length (change (take size (drop first xs))) ≡ size = same (take size (drop first xs)) ∙ length-take-le size (drop first xs) (omega (arith, left, within)) in
    let both = length-append (take first xs) (change (take size (drop first xs))) in
    set-append_right (take first xs ++ change (take size (drop first xs))) (drop (first + size) xs) (first + size) at x (omega (arith, long, some, both)) h
    ∙ ap (λ k. (take first xs ++ change (take size (drop first xs))) ++ set (drop (first + size) xs) k x) here
    ∙ sym (λ i. top i ++ change (middle i) ++ rest i)
