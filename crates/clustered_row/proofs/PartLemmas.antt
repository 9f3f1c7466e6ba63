-- Parts of a row: columns that are left to be lent can be counted, and edges cut no wide text, or leave a half alone.
use Rattle.std.proofs.Common.{◌≡◌, ℕ, zero, suc, ◌+◌, ◌-◌, ◌<◌, ◌≤◌, ◌^◌, true, false, List, [], ◌∷◌, ◌++◌, length, take, drop, replicate, get_or, refl, sym, ap, subst, ◌∙◌, length-append, arith}
use Rattle.std.proofs.lemmas.Bool.{false≢true}
use Rattle.std.proofs.lemmas.List.{drop-drop, length-replicate}
use Rattle.cell_base.specs.Attributes.{Attributes}
use Rattle.cell_base.specs.Row.{Column, Narrow, LeftHalf, RightHalf, Row, blank, closed_end, closed_start}
use Rattle.cell_base.specs.WholeRow.{IsWhole}
use Rattle.cell_base.proofs.RowLemmas.{whole-after}
use Rattle.cell_edits.specs.RowEdits.{cut, cut_prefix}
use Rattle.clustered_row.specs.declared.visible.ClusteredCells.{ClusteredCells}
use Rattle.clustered_row.specs.Faces.{Face, row_of}
use Rattle.clustered_row.specs.VisibleCells.{row_left, next_column}
use Rattle.clustered_row.specs.VisibleColumns.{starts_split, is_split, column_attributes}
use Rattle.clustered_row.specs.VisibleRuns.{attributes_left}
use Rattle.clustered_row.specs.VisibleTexts.{faces_left}
use Rattle.clustered_row.proofs.BetweenLemmas.{part_is}

closed_start-same : (row : Row) → starts_split row ≡ false → closed_start row ≡ row
closed_start-same [] h = refl
closed_start-same (Narrow text a ∷ row) h = refl
closed_start-same (LeftHalf text a ∷ row) h = refl
closed_start-same (RightHalf a ∷ row) h = absurd (false≢true (sym h))

-- where no wide text is cut, nothing is closed
pub end_closed : (n : ℕ) (row : Row) → IsWhole row → is_split n row ≡ false → closed_end (take n row) ≡ take n row
end_closed zero row w h = refl
end_closed (suc n) [] w h = refl
end_closed (suc n) (RightHalf a ∷ row) w h = absurd w
end_closed (suc zero) (Narrow text a ∷ row) w h = refl
end_closed (suc (suc n)) (Narrow text a ∷ []) w h = refl
end_closed (suc (suc n)) (Narrow text a ∷ c ∷ row) w h = ap (λ (r : Row). Narrow text a ∷ r) (end_closed (suc n) (c ∷ row) w h)
end_closed (suc n) (LeftHalf text a ∷ []) w h = absurd w
end_closed (suc n) (LeftHalf text a ∷ Narrow t b ∷ row) w h = absurd w
end_closed (suc n) (LeftHalf text a ∷ LeftHalf t b ∷ row) w h = absurd w
end_closed (suc zero) (LeftHalf text a ∷ RightHalf b ∷ row) w h = absurd (false≢true (sym h))
end_closed (suc (suc zero)) (LeftHalf text a ∷ RightHalf b ∷ row) w h = refl
end_closed (suc (suc (suc n))) (LeftHalf text a ∷ RightHalf b ∷ []) w h = refl
end_closed (suc (suc (suc n))) (LeftHalf text a ∷ RightHalf b ∷ c ∷ row) w h = ap (λ (r : Row). LeftHalf text a ∷ RightHalf b ∷ r) (end_closed (suc n) (c ∷ row) w.1 h)

pub start_closed : (n : ℕ) (row : Row) → is_split n row ≡ false → cut_prefix n row ≡ drop n row
start_closed n row h = closed_start-same (drop n row) h

-- a part between two columns at which no wide text is cut
pub part_closed : (row : Row) (start stop : ℕ) → IsWhole row → start ≤ stop → is_split start row ≡ false → is_split stop row ≡ false → cut (stop - start) (cut_prefix start row) ≡ drop start (take stop row)
part_closed row start stop w o h k =
    let prefix = start_closed start row h in
    let whole : IsWhole (drop start row) = subst IsWhole prefix (whole-after start row w) in
    let there : is_split (stop - start) (drop start row) ≡ false = ap starts_split (drop-drop (stop - start) start row) ∙ ap (λ n. is_split n row) (omega (arith, o)) ∙ k in
    ap (cut (stop - start)) prefix ∙ end_closed (stop - start) (drop start row) whole there ∙ sym (part_is row start stop o)

half_starts : (row : Row) (d : Column) → starts_split row ≡ true → closed_start row ≡ blank (column_attributes (get_or row 0 d)) ∷ drop 1 row
half_starts [] d h = absurd (false≢true h)
half_starts (Narrow text a ∷ row) d h = absurd (false≢true h)
half_starts (LeftHalf text a ∷ row) d h = absurd (false≢true h)
half_starts (RightHalf a ∷ row) d h = refl

-- the second half of a wide text at the start is a blank with its attributes
pub start_split : (n : ℕ) (row : Row) (d : Column) → is_split n row ≡ true → cut_prefix n row ≡ blank (column_attributes (get_or row n d)) ∷ drop (n + 1) row
start_split zero row d h = half_starts row d h
start_split (suc n) [] d h = absurd (false≢true h)
start_split (suc n) (c ∷ row) d h =
    let more : suc (n + 1) ≡ suc n + 1 = omega arith in
    start_split n row d h ∙ ap (λ k. blank (column_attributes (get_or row n d)) ∷ drop k (c ∷ row)) more

-- the first half of a wide text at the end is a blank with its attributes
pub end_split : (n : ℕ) (row : Row) (d : Column) → IsWhole row → is_split (n + 1) row ≡ true → closed_end (take (n + 1) row) ≡ take n row ++ blank (column_attributes (get_or row (n + 1) d)) ∷ []
end_split n row d w h = at_suc n (n + 1) row d (omega arith) w h
  where
    at_suc : (n m : ℕ) (row : Row) (d : Column) → m ≡ suc n → IsWhole row → is_split m row ≡ true → closed_end (take m row) ≡ take n row ++ blank (column_attributes (get_or row m d)) ∷ []
    at_suc n zero row d e w h = absurd (omega (arith, e))
    at_suc n (suc m) [] d e w h = absurd (false≢true h)
    at_suc n (suc m) (RightHalf a ∷ row) d e w h = absurd w
    at_suc zero (suc zero) (Narrow text a ∷ []) d e w h = absurd (false≢true h)
    at_suc zero (suc zero) (Narrow text a ∷ Narrow t b ∷ row) d e w h = absurd (false≢true h)
    at_suc zero (suc zero) (Narrow text a ∷ LeftHalf t b ∷ row) d e w h = absurd (false≢true h)
    at_suc zero (suc zero) (Narrow text a ∷ RightHalf b ∷ row) d e w h = absurd w
    at_suc zero (suc (suc m)) (c ∷ row) d e w h = absurd (omega (arith, e))
    at_suc (suc n) (suc zero) (c ∷ row) d e w h = absurd (omega (arith, e))
    at_suc (suc n) (suc (suc m)) (Narrow text a ∷ []) d e w h = absurd (false≢true h)
    at_suc (suc n) (suc (suc m)) (Narrow text a ∷ c ∷ row) d e w h = ap (λ (r : Row). Narrow text a ∷ r) (at_suc n (suc m) (c ∷ row) d (omega (arith, e)) w h)
    at_suc n (suc m) (LeftHalf text a ∷ []) d e w h = absurd w
    at_suc n (suc m) (LeftHalf text a ∷ Narrow t b ∷ row) d e w h = absurd w
    at_suc n (suc m) (LeftHalf text a ∷ LeftHalf t b ∷ row) d e w h = absurd w
    at_suc zero (suc zero) (LeftHalf text a ∷ RightHalf b ∷ row) d e w h = ap (λ (x : Attributes). blank x ∷ []) (sym w.0)
    at_suc (suc zero) (suc (suc zero)) (LeftHalf text a ∷ RightHalf b ∷ []) d e w h = absurd (false≢true h)
    at_suc (suc zero) (suc (suc zero)) (LeftHalf text a ∷ RightHalf b ∷ Narrow t x ∷ row) d e w h = absurd (false≢true h)
    at_suc (suc zero) (suc (suc zero)) (LeftHalf text a ∷ RightHalf b ∷ LeftHalf t x ∷ row) d e w h = absurd (false≢true h)
    at_suc (suc zero) (suc (suc zero)) (LeftHalf text a ∷ RightHalf b ∷ RightHalf x ∷ row) d e w h = absurd w.1
    at_suc (suc zero) (suc (suc (suc m))) (LeftHalf text a ∷ RightHalf b ∷ row) d e w h = absurd (omega (arith, e))
    at_suc (suc (suc n)) (suc (suc zero)) (LeftHalf text a ∷ RightHalf b ∷ row) d e w h = absurd (omega (arith, e))
    at_suc (suc (suc n)) (suc (suc (suc m))) (LeftHalf text a ∷ RightHalf b ∷ []) d e w h = absurd (false≢true h)
    at_suc (suc (suc n)) (suc (suc (suc m))) (LeftHalf text a ∷ RightHalf b ∷ c ∷ row) d e w h =
        ap (λ (r : Row). LeftHalf text a ∷ RightHalf b ∷ r) (at_suc n (suc m) (c ∷ row) d (omega (arith, e)) w.1 h)

-- ---- columns that are left

length-short : (fs : List Face) (ats : List Attributes) → length fs ≤ length ats → length (row_of fs ats) ≡ length fs
length-short [] ats h = refl
length-short (f ∷ fs) [] h = absurd (omega arith)
length-short (f ∷ fs) (a ∷ ats) h = ap suc (length-short fs ats (omega arith))

-- the column after the last one has a number
pub columns_fit : (cells : ClusteredCells) → next_column cells + length (row_left cells) < 2 ^ 64
columns_fit cells =
    let fs = faces_left cells.texts in
    let ats = attributes_left cells.runs in
    let covered : length fs ≤ length ats = cells.covered in
    let small : cells.column + (length fs + cells.blanks) < 2 ^ 64 = cells.small in
    let n = length-short fs ats covered in
    let m = length-append (row_of fs ats) (replicate cells.blanks (blank cells.rest.now)) in
    let k = length-replicate cells.blanks (blank cells.rest.now) in
    omega (arith, n, m, k, small)
