-- Rows of lines that were cut and joined.
use Rattle.std.proofs.Common.{◌≡◌, ℕ, zero, suc, ◌+◌, ◌-◌, ◌≤◌, [], ◌∷◌, ◌++◌, length, take, drop, refl, sym, ap, ◌∙◌, arith, append-nil, append_assoc, length-append}
use Rattle.std.specs.Prelude.{min}
use Rattle.std.proofs.Math.Seq.{take-append-add}
use Rattle.std.proofs.lemmas.List.{drop-drop, length-drop, length-take-le}
use Rattle.cell_base.specs.Row.{Column, Narrow, LeftHalf, RightHalf, Row, closed_end, closed_start}
use Rattle.cell_base.specs.WholeRow.{IsWhole}
use Rattle.cell_base.proofs.RowLemmas.{length-closed_end, length-closed_start, whole-append, whole-prefix, whole_ends}
use Rattle.cell_edits.specs.RowEdits.{cut, cut_prefix, inserted}

length-rest : (at : ℕ) (row : Row) → length (cut_prefix at row) ≡ length row - at
length-rest at row = length-closed_start (drop at row) ∙ length-drop at row

closed_end-append : (l : Row) (x : Column) (r : Row) → closed_end (l ++ x ∷ r) ≡ l ++ closed_end (x ∷ r)
closed_end-append [] x r = refl
closed_end-append (y ∷ []) x r = refl
closed_end-append (y ∷ z ∷ l) x r = ap (λ (s : Row). y ∷ s) (closed_end-append (z ∷ l) x r)

-- a cut after whole columns leaves them
cut_after : (l r : Row) → IsWhole l → closed_end (l ++ r) ≡ l ++ closed_end r
cut_after l [] p = ap closed_end (append-nil l) ∙ whole_ends l p ∙ sym (append-nil l)
cut_after l (x ∷ r) p = closed_end-append l x r

cut_starts : (n : ℕ) (r : Row) → closed_start (drop n (closed_start r)) ≡ closed_start (drop n r)
cut_starts zero [] = refl
cut_starts zero (Narrow text attributes ∷ r) = refl
cut_starts zero (LeftHalf text attributes ∷ r) = refl
cut_starts zero (RightHalf attributes ∷ r) = refl
cut_starts (suc n) [] = refl
cut_starts (suc n) (x ∷ r) = refl

-- columns between the two parts of a row, of which the second is cut
pub inserted_is : (row come : Row) (width at count : ℕ) → IsWhole row → IsWhole come → length row ≡ width → length come ≡ count → at + count ≤ width
    → cut (min at (length row)) row ++ (come ++ cut (min (width - at - count) (length (cut_prefix (min at (length row)) row))) (cut_prefix (min at (length row)) row)) ≡ cut width (inserted at come row)
inserted_is row come width at count p q wide size h =
    let here : min at (length row) ≡ at = omega arith in
    let before : Row = cut at row ++ come in
    let rest : Row = cut_prefix at row in
    let first : length (cut at row) ≡ at = length-closed_end (take at row) ∙ length-take-le at row (omega arith) in
    let both = length-append (cut at row) come in
    let over : length before + (width - at - count) ≡ width = omega (arith, both, first, size, h) in
    let left = length-rest at row in
    let there : min (width - at - count) (length rest) ≡ width - at - count = omega (arith, left, wide) in
    (λ i. cut (here i) row ++ (come ++ cut (min (width - at - count) (length (cut_prefix (here i) row))) (cut_prefix (here i) row)))
    ∙ sym (append_assoc (cut at row) come (cut (min (width - at - count) (length rest)) rest))
    ∙ ap (λ n. before ++ cut n rest) there
    ∙ sym (cut_after before (take (width - at - count) rest) (whole-append (cut at row) come (whole-prefix at row p) q))
    ∙ ap closed_end (sym (take-append-add before rest (width - at - count)))
    ∙ ap (λ n. closed_end (take n (before ++ rest))) over

-- the two parts of a row without columns between them, and columns after them
pub deleted_is : (row come : Row) (width at count : ℕ) → length row ≡ width → at + count ≤ width
    → cut (min at (length row)) row ++ (cut_prefix (min count (length (cut_prefix (min at (length row)) row))) (cut_prefix (min at (length row)) row) ++ come) ≡ cut at row ++ cut_prefix (at + count) row ++ come
deleted_is row come width at count wide h =
    let here : min at (length row) ≡ at = omega arith in
    let rest : Row = cut_prefix at row in
    let size = length-rest at row in
    let there : min count (length rest) ≡ count = omega (arith, size, wide, h) in
    (λ i. cut (here i) row ++ (cut_prefix (min count (length (cut_prefix (here i) row))) (cut_prefix (here i) row) ++ come))
    ∙ (λ i. cut at row ++ (cut_prefix (there i) rest ++ come))
    ∙ ap (λ (r : Row). cut at row ++ (r ++ come)) (cut_starts count (drop at row) ∙ ap closed_start (drop-drop count at row))
    ∙ sym (append_assoc (cut at row) (cut_prefix (at + count) row) come)
