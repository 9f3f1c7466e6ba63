-- Rows that are cut, joined and set, and whole rows.
use Rattle.std.proofs.Common.{◌≡◌, ℕ, zero, suc, ◌+◌, ◌≤◌, List, [], ◌∷◌, ◌++◌, length, take, drop, replicate, refl, sym, ap, subst, ◌∙◌, append_assoc, append-nil, length-append, arith}
use Rattle.std.proofs.lemmas.List.{drop-drop, take_at, length-take-le, length-drop}
use Rattle.std.proofs.Math.Seq.{drop-append-add}
use Rattle.cell_base.specs.Attributes.{Attributes}
use Rattle.cell_base.specs.Row.{Column, Narrow, LeftHalf, RightHalf, Row, blank, closed_end, closed_start, set_columns}
use Rattle.cell_base.specs.WholeRow.{IsWhole}

-- ---- lengths

pub length-closed_end : (r : Row) → length (closed_end r) ≡ length r
length-closed_end [] = refl
length-closed_end (x ∷ []) = refl
length-closed_end (x ∷ y ∷ r) = ap suc (length-closed_end (y ∷ r))

pub length-closed_start : (r : Row) → length (closed_start r) ≡ length r
length-closed_start [] = refl
length-closed_start (x ∷ r) = refl

pub length-set_columns : (row : Row) (at : ℕ) (columns : Row) → at + length columns ≤ length row → length (set_columns row at columns) ≡ length row
length-set_columns row at columns h =
    let prefix = length-closed_end (take at row) in
    let cut = length-take-le at row (omega arith) in
    let back = length-closed_start (drop (at + length columns) row) in
    let rest = length-drop (at + length columns) row in
    let whole = length-append (closed_end (take at row) ++ columns) (closed_start (drop (at + length columns) row)) in
    let parts = length-append (closed_end (take at row)) columns in
    omega arith

-- ---- whole rows

pub whole-append : (a b : Row) → IsWhole a → IsWhole b → IsWhole (a ++ b)
whole-append [] b p q = q
whole-append (Narrow text attributes ∷ a) b p q = whole-append a b p q
whole-append (RightHalf attributes ∷ a) b p q = absurd p
whole-append (LeftHalf text attributes ∷ []) b p q = absurd p
whole-append (LeftHalf text attributes ∷ Narrow other remaining ∷ a) b p q = absurd p
whole-append (LeftHalf text attributes ∷ LeftHalf other remaining ∷ a) b p q = absurd p
whole-append (LeftHalf text attributes ∷ RightHalf remaining ∷ a) b p q = (p.0, whole-append a b p.1 q)

closed_end-pair : (t : List ℕ) (a b : Attributes) (r : Row) → closed_end (LeftHalf t a ∷ RightHalf b ∷ r) ≡ LeftHalf t a ∷ RightHalf b ∷ closed_end r
closed_end-pair t a b [] = refl
closed_end-pair t a b (x ∷ r) = refl

closed_end-narrow : (t : List ℕ) (a : Attributes) (r : Row) → closed_end (Narrow t a ∷ r) ≡ Narrow t a ∷ closed_end r
closed_end-narrow t a [] = refl
closed_end-narrow t a (x ∷ r) = refl

pub whole-prefix : (at : ℕ) (row : Row) → IsWhole row → IsWhole (closed_end (take at row))
whole-prefix zero row p = tt
whole-prefix (suc at) [] p = tt
whole-prefix (suc at) (Narrow text attributes ∷ row) p = subst IsWhole (sym (closed_end-narrow text attributes (take at row))) (whole-prefix at row p)
whole-prefix (suc at) (RightHalf attributes ∷ row) p = absurd p
whole-prefix (suc at) (LeftHalf text attributes ∷ []) p = absurd p
whole-prefix (suc at) (LeftHalf text attributes ∷ Narrow other remaining ∷ row) p = absurd p
whole-prefix (suc at) (LeftHalf text attributes ∷ LeftHalf other remaining ∷ row) p = absurd p
whole-prefix (suc zero) (LeftHalf text attributes ∷ RightHalf remaining ∷ row) p = tt
whole-prefix (suc (suc at)) (LeftHalf text attributes ∷ RightHalf remaining ∷ row) p = subst IsWhole (sym (closed_end-pair text attributes remaining (take at row))) (p.0, whole-prefix at row p.1)

-- a whole row doesn't begin with a right half, nor end in a left one
pub whole_starts : (row : Row) → IsWhole row → closed_start row ≡ row
whole_starts [] p = refl
whole_starts (Narrow text attributes ∷ row) p = refl
whole_starts (LeftHalf text attributes ∷ row) p = refl
whole_starts (RightHalf attributes ∷ row) p = absurd p

pub whole_ends : (row : Row) → IsWhole row → closed_end row ≡ row
whole_ends [] p = refl
whole_ends (Narrow text attributes ∷ row) p = closed_end-narrow text attributes row ∙ ap (λ (r : Row). Narrow text attributes ∷ r) (whole_ends row p)
whole_ends (RightHalf attributes ∷ row) p = absurd p
whole_ends (LeftHalf text attributes ∷ []) p = absurd p
whole_ends (LeftHalf text attributes ∷ Narrow other remaining ∷ row) p = absurd p
whole_ends (LeftHalf text attributes ∷ LeftHalf other remaining ∷ row) p = absurd p
whole_ends (LeftHalf text attributes ∷ RightHalf remaining ∷ row) p = closed_end-pair text attributes remaining row ∙ ap (λ (r : Row). LeftHalf text attributes ∷ RightHalf remaining ∷ r) (whole_ends row p.1)

pub whole-after : (at : ℕ) (row : Row) → IsWhole row → IsWhole (closed_start (drop at row))
whole-after zero row p = subst IsWhole (sym (whole_starts row p)) p
whole-after (suc at) [] p = tt
whole-after (suc at) (Narrow text attributes ∷ row) p = whole-after at row p
whole-after (suc at) (RightHalf attributes ∷ row) p = absurd p
whole-after (suc at) (LeftHalf text attributes ∷ []) p = absurd p
whole-after (suc at) (LeftHalf text attributes ∷ Narrow other remaining ∷ row) p = absurd p
whole-after (suc at) (LeftHalf text attributes ∷ LeftHalf other remaining ∷ row) p = absurd p
whole-after (suc zero) (LeftHalf text attributes ∷ RightHalf remaining ∷ row) p = p.1
whole-after (suc (suc at)) (LeftHalf text attributes ∷ RightHalf remaining ∷ row) p = whole-after at row p.1

pub whole-set_columns : (row : Row) (at : ℕ) (columns : Row) → IsWhole row → IsWhole columns → IsWhole (set_columns row at columns)
whole-set_columns row at columns p q =
    whole-append (closed_end (take at row) ++ columns) (closed_start (drop (at + length columns) row))
    (whole-append (closed_end (take at row)) columns (whole-prefix at row p) q) (whole-after (at + length columns) row p)

pub whole-blanks : (n : ℕ) (a : Attributes) → IsWhole (replicate n (blank a))
whole-blanks zero a = tt
whole-blanks (suc n) a = whole-blanks n a

-- ---- columns set right after other columns

closed_end-again : (r : Row) → closed_end (closed_end r) ≡ closed_end r
closed_end-again [] = refl
closed_end-again (Narrow t a ∷ []) = refl
closed_end-again (LeftHalf t a ∷ []) = refl
closed_end-again (RightHalf a ∷ []) = refl
closed_end-again (x ∷ y ∷ []) = ap (λ (r : Row). x ∷ r) (closed_end-again (y ∷ []))
closed_end-again (x ∷ y ∷ z ∷ r) = ap (λ (s : Row). x ∷ s) (closed_end-again (y ∷ z ∷ r))

closed_start-again : (r : Row) → closed_start (closed_start r) ≡ closed_start r
closed_start-again [] = refl
closed_start-again (Narrow t a ∷ r) = refl
closed_start-again (LeftHalf t a ∷ r) = refl
closed_start-again (RightHalf a ∷ r) = refl

closed_end-append : (l : Row) (x : Column) (r : Row) → closed_end (l ++ x ∷ r) ≡ l ++ closed_end (x ∷ r)
closed_end-append [] x r = refl
closed_end-append (y ∷ []) x r = refl
closed_end-append (y ∷ z ∷ l) x r = ap (λ (s : Row). y ∷ s) (closed_end-append (z ∷ l) x r)

-- a row that is closed at its end stays closed with whole columns after it
cut_ends : (l a : Row) → IsWhole a → closed_end (closed_end l ++ a) ≡ closed_end l ++ a
cut_ends l [] p = ap closed_end (append-nil (closed_end l)) ∙ closed_end-again l ∙ sym (append-nil (closed_end l))
cut_ends l (x ∷ a) p = closed_end-append (closed_end l) x a ∙ ap (λ (r : Row). closed_end l ++ r) (whole_ends (x ∷ a) p)

cut_starts : (n : ℕ) (r : Row) → closed_start (drop n (closed_start r)) ≡ closed_start (drop n r)
cut_starts zero r = closed_start-again r
cut_starts (suc n) [] = refl
cut_starts (suc n) (x ∷ r) = refl

-- setting columns, and then more right after them, is setting them all at once
pub set_columns-again : (row : Row) (at : ℕ) (a b : Row) → at + length a ≤ length row → IsWhole a → set_columns (set_columns row at a) (at + length a) b ≡ set_columns row at (a ++ b)
set_columns-again row at a b h p =
    let prefix : Row = closed_end (take at row) in
    let back : Row = closed_start (drop (at + length a) row) in
    let count : length (prefix ++ a) ≡ at + length a =
    length-append prefix a ∙ ap (λ n. n + length a) (length-closed_end (take at row) ∙ length-take-le at row (omega arith)) in
    let after : at + length a + length b ≡ at + length (a ++ b) = omega (arith, length-append a b) in
    (λ i. closed_end (take_at (prefix ++ a) back (at + length a) count i) ++ b
    ++ closed_start ((ap (λ n. drop (n + length b) ((prefix ++ a) ++ back)) (sym count) ∙ drop-append-add (prefix ++ a) back (length b)) i))
    ∙ (λ i. cut_ends (take at row) a p i ++ b ++ cut_starts (length b) (drop (at + length a) row) i)
    ∙ ap (λ (r : Row). (prefix ++ a) ++ b ++ closed_start r) (drop-drop (length b) (at + length a) row ∙ ap (λ n. drop n row) after)
    ∙ ap (λ (r : Row). r ++ closed_start (drop (at + length (a ++ b)) row)) (append_assoc prefix a b)
