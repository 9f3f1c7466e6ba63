-- An item that is put in or taken out.
use Rattle.std.proofs.Common.{◌≡◌, ℕ, suc, ◌+◌, ◌<◌, ◌≤◌, List, [], ◌∷◌, ◌++◌, length, take, drop, insert, remove, slice_index_or, slice_set, sym, ap, ◌∙◌, arith, append_assoc}
use Rattle.std.proofs.lemmas.List.{drop_at, length-take-le, length_push, set_split}
use Rattle.std.specs.List.{splice}

pub inserted_after : {X : Type 0} (xs : List X) (x : X) (i j : ℕ) → i ≤ length xs → j ≡ i + 1 → drop j (insert xs i x) ≡ drop i xs
inserted_after {X} xs x i j l e =
    let n = length-take-le i xs l in
    let m = length_push (take i xs) x in
    ap (drop j) (sym (append_assoc (take i xs) (x ∷ []) (drop i xs))) ∙ drop_at (take i xs ++ x ∷ []) (drop i xs) j (omega (arith, n, m, e))

pub removed_after : {X : Type 0} (xs : List X) (i j : ℕ) → i ≤ length xs → j ≡ i + 1 → drop i (remove xs i) ≡ drop j xs
removed_after {X} xs i j l e =
    let same : suc i ≡ j = omega (arith, e) in
    drop_at (take i xs) (drop (suc i) xs) i (length-take-le i xs l) ∙ ap (λ n. drop n xs) same

-- one item is put over another
pub put_one : {X : Type 0} (xs with_items : List X) (at : ℕ) (x : X) → at < length xs → 1 ≤ length with_items → length with_items < 2 → x ≡ slice_index_or with_items 0 x → slice_set xs at x ≡ splice xs at (at + length with_items) with_items
put_one xs [] at x h k l e = absurd (omega arith)
put_one {X} xs (y ∷ []) at x h k l e =
    let next : suc at ≡ at + 1 = omega arith in
    set_split xs at x h ∙ (λ i. take at xs ++ e i ∷ drop (next i) xs)
put_one xs (y ∷ z ∷ ys) at x h k l e = absurd (omega arith)
