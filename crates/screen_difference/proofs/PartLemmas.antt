-- Parts of rows in which columns are set.
use Rattle.std.proofs.Common.{◌≡◌, ℕ, zero, suc, ◌+◌, ◌-◌, ◌<◌, ◌≤◌, ◌∙◌, ◌⊎◌, [], ◌∷◌, ◌++◌, length, take, drop, refl, sym, ap, inl, inr, arith, append_assoc, append-nil, length-append}
use Rattle.std.proofs.lemmas.List.{length-drop, length-take-le, drop-append-le, take-append-le, drop-drop, drop-take, take_at}
use Rattle.std.proofs.Math.Seq.{take-append-add, drop-append-add}
use Rattle.cell_base.specs.Row.{Column, Narrow, LeftHalf, RightHalf, Row, closed_end, closed_start, set_columns}
use Rattle.cell_base.specs.WholeRow.{IsWhole}
use Rattle.cell_base.proofs.RowLemmas.{length-closed_end, length-closed_start, whole_ends}
use Rattle.screen_difference.specs.FreshCells.{columns_from}

-- ---- rows that are closed at an end, and cut

pub start_again : (r : Row) → closed_start (closed_start r) ≡ closed_start r
start_again [] = refl
start_again (Narrow t a ∷ r) = refl
start_again (LeftHalf t a ∷ r) = refl
start_again (RightHalf a ∷ r) = refl

pub end_again : (r : Row) → closed_end (closed_end r) ≡ closed_end r
end_again [] = refl
end_again (Narrow t a ∷ []) = refl
end_again (LeftHalf t a ∷ []) = refl
end_again (RightHalf a ∷ []) = refl
end_again (x ∷ y ∷ []) = ap (λ (r : Row). x ∷ r) (end_again (y ∷ []))
end_again (x ∷ y ∷ z ∷ r) = ap (λ (s : Row). x ∷ s) (end_again (y ∷ z ∷ r))

-- closing the start before n columns are dropped makes no difference, if it is closed afterwards
start_dropped : (n : ℕ) (r : Row) → closed_start (drop n (closed_start r)) ≡ closed_start (drop n r)
start_dropped zero r = start_again r
start_dropped (suc n) [] = refl
start_dropped (suc n) (x ∷ r) = refl

drop_end : (n : ℕ) (r : Row) → drop n (closed_end r) ≡ closed_end (drop n r)
drop_end zero r = refl
drop_end (suc n) [] = refl
drop_end (suc zero) (x ∷ []) = refl
drop_end (suc (suc n)) (x ∷ []) = refl
drop_end (suc n) (x ∷ y ∷ r) = drop_end n (y ∷ r)

take_end : (n : ℕ) (r : Row) → n < length r → take n (closed_end r) ≡ take n r
take_end zero r h = refl
take_end (suc n) [] h = refl
take_end (suc n) (x ∷ []) h = absurd (omega arith)
take_end (suc n) (x ∷ y ∷ r) h = ap (λ (s : Row). x ∷ s) (take_end n (y ∷ r) (omega arith))

take_start : (n : ℕ) (r : Row) → take n (closed_start r) ≡ closed_start (take n r)
take_start zero r = refl
take_start (suc n) [] = refl
take_start (suc n) (x ∷ r) = refl

both_ends : (r : Row) → closed_start (closed_end r) ≡ closed_end (closed_start r)
both_ends [] = refl
both_ends (Narrow t a ∷ []) = refl
both_ends (LeftHalf t a ∷ []) = refl
both_ends (RightHalf a ∷ []) = refl
both_ends (x ∷ y ∷ r) = refl

start_append : (a b : Row) → 0 < length a → closed_start (a ++ b) ≡ closed_start a ++ b
start_append [] b h = absurd (omega arith)
start_append (x ∷ a) b h = refl

end_append : (l : Row) (x : Column) (r : Row) → closed_end (l ++ x ∷ r) ≡ l ++ closed_end (x ∷ r)
end_append [] x r = refl
end_append (y ∷ []) x r = refl
end_append (y ∷ z ∷ l) x r = ap (λ (s : Row). y ∷ s) (end_append (z ∷ l) x r)

-- columns after whole ones
end_after : (l a b : Row) → IsWhole a → 0 < length a → closed_end ((l ++ a) ++ b) ≡ (l ++ a) ++ closed_end b
end_after l [] b p h = absurd (omega arith)
end_after l (x ∷ a) [] p h =
    ap closed_end (append-nil (l ++ x ∷ a)) ∙ end_append l x a ∙ ap (λ (r : Row). l ++ r) (whole_ends (x ∷ a) p) ∙ sym (append-nil (l ++ x ∷ a))
end_after l (x ∷ a) (y ∷ b) p h = end_append (l ++ x ∷ a) y b

whole_begins : (a b : Row) → IsWhole a → 0 < length a → closed_start (a ++ b) ≡ a ++ b
whole_begins [] b p h = absurd (omega arith)
whole_begins (Narrow t a ∷ r) b p h = refl
whole_begins (LeftHalf t a ∷ r) b p h = refl
whole_begins (RightHalf a ∷ r) b p h = absurd p

take_less : (k n : ℕ) (r : Row) → k ≤ n → take k (take n r) ≡ take k r
take_less zero n r h = refl
take_less (suc k) zero r h = absurd (omega arith)
take_less (suc k) (suc n) [] h = refl
take_less (suc k) (suc n) (x ∷ r) h = ap (λ (s : Row). x ∷ s) (take_less k n r (omega arith))

-- ---- columns that are set in a part

dropped_prefix : (x k : ℕ) (row : Row) → drop x (take (x + k) row) ≡ take k (drop x row)
dropped_prefix x k row = drop-take x k row

set_after : (x k : ℕ) (row cols : Row) → x + k ≤ length row → drop x (set_columns row (x + k) cols) ≡ set_columns (drop x row) k cols
set_after x k row cols h =
    let prefix : Row = closed_end (take (x + k) row) in
    let back : Row = closed_start (drop (x + k + length cols) row) in
    let count : length prefix ≡ x + k = length-closed_end (take (x + k) row) ∙ length-take-le (x + k) row h in
    let more = length-append prefix cols in
    drop-append-le x (prefix ++ cols) back (omega arith)
    ∙ ap (λ (r : Row). r ++ back) (drop-append-le x prefix cols (omega arith))
    ∙ ap (λ (r : Row). (r ++ cols) ++ back) (drop_end x (take (x + k) row) ∙ ap closed_end (dropped_prefix x k row))
    ∙ ap (λ (r : Row). (closed_end (take k (drop x row)) ++ cols) ++ closed_start r) (
    let e : x + k + length cols ≡ x + (k + length cols) = omega arith in
    ap (λ n. drop n row) e ∙ sym (drop-drop (k + length cols) x row))

set_started : (k : ℕ) (row cols : Row) → IsWhole cols → 0 < length cols → closed_start (set_columns row k cols) ≡ set_columns (closed_start row) k cols
set_started zero row cols p h =
    let back : Row = closed_start (drop (zero + length cols) row) in
    whole_begins cols back p h ∙ ap (λ (r : Row). cols ++ r) (sym (start_dropped (zero + length cols) row))
set_started (suc k) [] cols p h =
    whole_begins cols (closed_start (drop (suc k + length cols) [])) p h
set_started (suc k) (x ∷ row) cols p h =
    let prefix : Row = closed_end (x ∷ take k row) in
    let back : Row = closed_start (drop (suc k + length cols) (x ∷ row)) in
    let count = length-closed_end (x ∷ take k row) in
    let more = length-append prefix cols in
    start_append (prefix ++ cols) back (omega arith)
    ∙ ap (λ (r : Row). r ++ back) (start_append prefix cols (omega arith))
    ∙ (λ i. (both_ends (x ∷ take k row) i ++ cols) ++ sym (start_dropped (suc k + length cols) (x ∷ row)) i)

set_cut : (n k m : ℕ) (row cols : Row) → k + length cols + m ≡ n → n ≤ length row → IsWhole cols → 0 < length cols → closed_end (take n (set_columns row k cols)) ≡ set_columns (closed_end (take n row)) k cols
set_cut n k m row cols e w p h =
    let prefix : Row = closed_end (take k row) in
    let back : Row = closed_start (drop (k + length cols) row) in
    let count : length prefix ≡ k = length-closed_end (take k row) ∙ length-take-le k row (omega arith) in
    let more : length (prefix ++ cols) + m ≡ n = omega (arith, length-append prefix cols) in
    let taken : length (take n row) ≡ n = length-take-le n row w in
    ap (λ j. closed_end (take j ((prefix ++ cols) ++ back))) (sym more)
    ∙ ap closed_end (take-append-add (prefix ++ cols) back m)
    ∙ end_after prefix cols (take m back) p h
    ∙ (λ i. (closed_end (sym (take_end k (take n row) (omega arith) ∙ take_less k n row (omega arith)) i) ++ cols)
    ++ (ap closed_end (take_start m (drop (k + length cols) row)) ∙ sym (both_ends (take m (drop (k + length cols) row)))
    ∙ ap closed_start (ap closed_end (sym (dropped_prefix (k + length cols) m row) ∙ ap (λ j. drop (k + length cols) (take j row)) e) ∙ sym (drop_end (k + length cols) (take n row)))) i)

-- setting columns of the row that lie within a part sets them in the part
pub set_in_part : (x n k : ℕ) (row cols : Row) → k + length cols ≤ n → x + n ≤ length row → IsWhole cols → 0 < length cols → columns_from x n (set_columns row (x + k) cols) ≡ set_columns (columns_from x n row) k cols
set_in_part x n k row cols f h p s =
    let e : k + length cols + (n - (k + length cols)) ≡ n = omega arith in
    let rest = length-drop x row in
    let closed = length-closed_start (drop x row) in
    ap (λ (r : Row). closed_end (take n (closed_start r))) (set_after x k row cols (omega arith))
    ∙ ap (λ (r : Row). closed_end (take n r)) (set_started k (drop x row) cols p s)
    ∙ set_cut n k (n - (k + length cols)) (closed_start (drop x row)) cols e (omega arith) p s

-- ---- the columns before and after them

-- the columns before a position stay, except for a half that is left alone there
pub set_prefix : (x k : ℕ) (row cols : Row) → x + k ≤ length row → (take x (set_columns row (x + k) cols) ≡ take x row) ⊎ (take x (set_columns row (x + k) cols) ≡ closed_end (take x row))
set_prefix x zero row cols h =
    let e : x + zero ≡ x = omega arith in
    let prefix : Row = closed_end (take x row) in
    let back : Row = closed_start (drop (x + length cols) row) in
    let count : length prefix ≡ x = length-closed_end (take x row) ∙ length-take-le x row (omega arith) in
    inr (ap (λ n. take x (set_columns row n cols)) e ∙ ap (take x) (append_assoc prefix cols back) ∙ take_at prefix (cols ++ back) x count)
set_prefix x (suc k) row cols h =
    let prefix : Row = closed_end (take (x + suc k) row) in
    let back : Row = closed_start (drop (x + suc k + length cols) row) in
    let taken : length (take (x + suc k) row) ≡ x + suc k = length-take-le (x + suc k) row h in
    let count : length prefix ≡ x + suc k = length-closed_end (take (x + suc k) row) ∙ taken in
    inl (
    ap (take x) (append_assoc prefix cols back)
    ∙ take-append-le x prefix (cols ++ back) (omega arith)
    ∙ take_end x (take (x + suc k) row) (omega arith)
    ∙ take_less x (x + suc k) row (omega arith))

-- and the columns from one on after them
pub set_back : (at m : ℕ) (row cols : Row) → at + length cols + m ≤ length row
    → (drop (at + length cols + m) (set_columns row at cols) ≡ drop (at + length cols + m) row) ⊎ (drop (at + length cols + m) (set_columns row at cols) ≡ closed_start (drop (at + length cols + m) row))
set_back at m row cols h =
    let prefix : Row = closed_end (take at row) in
    let back : Row = closed_start (drop (at + length cols) row) in
    let count : length prefix ≡ at = length-closed_end (take at row) ∙ length-take-le at row (omega arith) in
    let both : at + length cols + m ≡ length (prefix ++ cols) + m = omega (arith, length-append prefix cols) in
    let after : drop (at + length cols + m) (set_columns row at cols) ≡ drop m back =
    ap (λ n. drop n ((prefix ++ cols) ++ back)) both ∙ drop-append-add (prefix ++ cols) back m in
    rest m after
  where
    rest : (j : ℕ) → drop (at + length cols + j) (set_columns row at cols) ≡ drop j (closed_start (drop (at + length cols) row))
        → (drop (at + length cols + j) (set_columns row at cols) ≡ drop (at + length cols + j) row) ⊎ (drop (at + length cols + j) (set_columns row at cols) ≡ closed_start (drop (at + length cols + j) row))
    rest zero e = let z : at + length cols + zero ≡ at + length cols = omega arith in inr (e ∙ ap (λ n. closed_start (drop n row)) (sym z))
    rest (suc j) e = inl (e ∙ later j (drop (at + length cols) row) ∙ drop-drop (suc j) (at + length cols) row)
      where
        later : (i : ℕ) (r : Row) → drop (suc i) (closed_start r) ≡ drop (suc i) r
        later i [] = refl
        later i (y ∷ r) = refl
