-- Blanks after the columns that were written.
use Rattle.std.proofs.Common.{◌≡◌, ℕ, zero, suc, ◌+◌, ◌-◌, ◌≤◌, List, [], ◌∷◌, ◌++◌, length, take, drop, replicate, refl, sym, ap, ◌∙◌, append_assoc, length-append, arith}
use Rattle.std.proofs.lemmas.List.{length-replicate, replicate-append-replicate}
use Rattle.std.proofs.Math.Seq.{drop-append-add}
use Rattle.cell_base.specs.Attributes.{Attributes}
use Rattle.cell_base.specs.Row.{Row, blank, closed_end, closed_start, set_columns}

starts_blank : (n : ℕ) (a : Attributes) → closed_start (replicate n (blank a)) ≡ replicate n (blank a)
starts_blank zero a = refl
starts_blank (suc n) a = refl

closed_start-append : (r : Row) (n : ℕ) (a : Attributes) → closed_start (r ++ replicate n (blank a)) ≡ closed_start r ++ replicate n (blank a)
closed_start-append [] n a = starts_blank n a
closed_start-append (c ∷ r) n a = refl

pub take_within : {X : Type 0} (xs ys : List X) (n : ℕ) → n ≤ length xs → take n (xs ++ ys) ≡ take n xs
take_within xs ys zero h = refl
take_within [] ys (suc n) h = absurd (omega (arith, h))
take_within {X} (x ∷ xs) ys (suc n) h = ap (λ (zs : List X). x ∷ zs) (take_within xs ys n (omega (arith, h)))

drop_within : {X : Type 0} (xs ys : List X) (n : ℕ) → n ≤ length xs → drop n (xs ++ ys) ≡ drop n xs ++ ys
drop_within xs ys zero h = refl
drop_within [] ys (suc n) h = absurd (omega (arith, h))
drop_within (x ∷ xs) ys (suc n) h = drop_within xs ys n (omega (arith, h))

drop-replicate : {X : Type 0} (m n : ℕ) (x : X) → drop m (replicate n x) ≡ replicate (n - m) x
drop-replicate zero n x = let all : n ≡ n - 0 = omega arith in ap (λ m. replicate m x) all
drop-replicate (suc m) zero x = let none : 0 ≡ 0 - suc m = omega arith in ap (λ k. replicate k x) none
drop-replicate (suc m) (suc n) x = let less : n - m ≡ suc n - suc m = omega arith in drop-replicate m n x ∙ ap (λ k. replicate k x) less

-- columns set within the columns before the blanks
pub set_before : (row columns : Row) (at n : ℕ) (a : Attributes) → at + length columns ≤ length row
    → set_columns (row ++ replicate n (blank a)) at columns ≡ set_columns row at columns ++ replicate n (blank a)
set_before row columns at n a h =
    let prefix : take at (row ++ replicate n (blank a)) ≡ take at row = take_within row (replicate n (blank a)) at (omega (arith, h)) in
    let rest : drop (at + length columns) (row ++ replicate n (blank a)) ≡ drop (at + length columns) row ++ replicate n (blank a) = drop_within row (replicate n (blank a)) (at + length columns) h in
    (λ i. closed_end (prefix i) ++ columns ++ (ap closed_start rest ∙ closed_start-append (drop (at + length columns) row) n a) i)
    ∙ sym (append_assoc (closed_end (take at row) ++ columns) (closed_start (drop (at + length columns) row)) (replicate n (blank a)))

-- columns set over the end of the columns before the blanks
pub set_over : (row columns : Row) (at n : ℕ) (a : Attributes) → at ≤ length row → length row ≤ at + length columns → at + length columns ≤ length row + n
    → set_columns (row ++ replicate n (blank a)) at columns ≡ closed_end (take at row) ++ columns ++ replicate (length row + n - (at + length columns)) (blank a)
set_over row columns at n a o h w =
    let prefix : take at (row ++ replicate n (blank a)) ≡ take at row = take_within row (replicate n (blank a)) at o in
    let past = at + length columns - length row in
    let on : at + length columns ≡ length row + past = omega (arith, h) in
    let left : n - past ≡ length row + n - (at + length columns) = omega (arith, h, w) in
    let rest : drop (at + length columns) (row ++ replicate n (blank a)) ≡ replicate (length row + n - (at + length columns)) (blank a)
    = ap (λ m. drop m (row ++ replicate n (blank a))) on ∙ drop-append-add row (replicate n (blank a)) past ∙ drop-replicate past n (blank a) ∙ ap (λ m. replicate m (blank a)) left in
    λ i. closed_end (prefix i) ++ columns ++ (ap closed_start rest ∙ starts_blank (length row + n - (at + length columns)) a) i

-- blanks that are stored, and those after them, are as before
pub blanks_stored : (row : Row) (to width : ℕ) (a : Attributes) → length row ≤ to → to ≤ width
    → (row ++ replicate (to - length row) (blank a)) ++ replicate (width - length (row ++ replicate (to - length row) (blank a))) (blank a) ≡ row ++ replicate (width - length row) (blank a)
blanks_stored row to width a h w =
    let count = length-append row (replicate (to - length row) (blank a)) in
    let blanks = length-replicate (to - length row) (blank a) in
    let left : width - length (row ++ replicate (to - length row) (blank a)) ≡ width - to = omega (arith, count, blanks, h) in
    let both : to - length row + (width - to) ≡ width - length row = omega (arith, h, w) in
    append_assoc row (replicate (to - length row) (blank a)) _
    ∙ ap (λ (r : Row). row ++ r) (ap (λ m. replicate (to - length row) (blank a) ++ replicate m (blank a)) left ∙ replicate-append-replicate (to - length row) (width - to) (blank a) ∙ ap (λ m. replicate m (blank a)) both)
