-- Rows of lines are whole, and their visible cells give the row back; the operations on rows, within a row.
use Rattle.std.proofs.Common.{◌≡◌, ℕ, zero, suc, ◌+◌, ◌-◌, ◌<◌, ◌≤◌, false, List, [], ◌∷◌, ◌++◌, length, take, replicate, refl, sym, ap, subst, ◌∙◌, append-nil, length-append, arith}
use Rattle.std.specs.Prelude.{nat_le}
use Rattle.std.specs.List.{flat_map}
use Rattle.std.proofs.lemmas.List.{length-take-le, length-replicate}
use Rattle.cell_base.specs.Attributes.{Attributes}
use Rattle.cell_base.specs.CellContent.{CellContent, row_of_cells}
use Rattle.cell_base.specs.Row.{Narrow, LeftHalf, RightHalf, Row, plain_row, set_columns}
use Rattle.cell_base.specs.WholeRow.{IsWhole}
use Rattle.cell_base.proofs.RowLemmas.{length-closed_end, length-set_columns, set_columns-again}
use Rattle.cell_edits.specs.CellList.{cell_columns}
use Rattle.cell_edits.specs.RowEdits.{cut, cut_prefix, padded, with_cell, overlaid, filled}
use Rattle.cell_edits.specs.VisibleCells.{VisibleCell, visible_from, visible_cells, row_of_visible}
use Rattle.cell_edits.proofs.CellLemmas.{by_test, row_wide, row_narrow}
use Rattle.cell_edits.proofs.CutLemmas.{columns_narrow, columns_wide}

-- ---- whole rows

pub whole_cells : (cells : List CellContent) → IsWhole (row_of_cells cells)
whole_cells [] = tt
whole_cells (c ∷ []) = by_test (nat_le 2 c.width) (λ e. rw e tt) (λ e. rw e tt)
whole_cells (c ∷ n ∷ cs) = by_test (nat_le 2 c.width)
    (λ e. subst IsWhole (sym (row_wide c n cs e)) (refl, whole_cells cs))
    (λ e. subst IsWhole (sym (row_narrow c n cs e)) (whole_cells (n ∷ cs)))

pub whole_columns : (c : CellContent) → IsWhole (cell_columns c)
whole_columns c = by_test (nat_le 2 c.width)
    (λ e. subst IsWhole (sym (columns_wide c e)) (refl, tt))
    (λ e. subst IsWhole (sym (columns_narrow c e)) tt)

-- the row of the visible cells of a whole row is the row
pub row_again : (i : ℕ) (row : Row) → IsWhole row → row_of_visible (visible_from i row) ≡ row
row_again i [] p = refl
row_again i (Narrow t a ∷ row) p = ap (λ (r : Row). Narrow t a ∷ r) (row_again (i + 1) row p)
row_again i (RightHalf a ∷ row) p = absurd p
row_again i (LeftHalf t a ∷ []) p = absurd p
row_again i (LeftHalf t a ∷ Narrow u b ∷ row) p = absurd p
row_again i (LeftHalf t a ∷ LeftHalf u b ∷ row) p = absurd p
row_again i (LeftHalf t a ∷ RightHalf b ∷ row) p = λ j. LeftHalf t a ∷ RightHalf (sym p.0 j) ∷ row_again (i + 1 + 1) row p.1 j

-- the visible cells of joined rows
pub visible-append : (i : ℕ) (a b : Row) → visible_from i (a ++ b) ≡ visible_from i a ++ visible_from (i + length a) b
visible-append i [] b = let e : i ≡ i + 0 = omega arith in ap (λ n. visible_from n b) e
visible-append i (Narrow t a ∷ r) b = let e : i + 1 + length r ≡ i + suc (length r) = omega arith in ap (λ (vs : List VisibleCell). record { column = i; cell = record { text = t; width = 1; attributes = a } } ∷ vs) (visible-append (i + 1) r b ∙ ap (λ n. visible_from (i + 1) r ++ visible_from n b) e)
visible-append i (LeftHalf t a ∷ r) b = let e : i + 1 + length r ≡ i + suc (length r) = omega arith in ap (λ (vs : List VisibleCell). record { column = i; cell = record { text = t; width = 2; attributes = a } } ∷ vs) (visible-append (i + 1) r b ∙ ap (λ n. visible_from (i + 1) r ++ visible_from n b) e)
visible-append i (RightHalf a ∷ r) b = let e : i + 1 + length r ≡ i + suc (length r) = omega arith in visible-append (i + 1) r b ∙ ap (λ n. visible_from (i + 1) r ++ visible_from n b) e

-- those of a row in which columns were set: before them, theirs, and after them
pub visible-set : (row : Row) (at : ℕ) (columns : Row) → at ≤ length row
    → visible_cells (set_columns row at columns) ≡ visible_cells (cut at row) ++ visible_from at columns ++ visible_from (at + length columns) (cut_prefix (at + length columns) row)
visible-set row at columns h =
    let l : length (cut at row) ≡ at = length-closed_end (take at row) ∙ length-take-le at row h in
    let k = length-append (cut at row) columns in
    let n : 0 + length (cut at row) ≡ at = omega arith in
    let m : 0 + length (cut at row ++ columns) ≡ at + length columns = omega arith in
    visible-append 0 (cut at row ++ columns) (cut_prefix (at + length columns) row)
    ∙ (λ i. (visible-append 0 (cut at row) columns ∙ ap (λ x. visible_from 0 (cut at row) ++ visible_from x columns) n) i ++ visible_from (m i) (cut_prefix (at + length columns) row))

-- ---- within a row

pub not_padded : (width : ℕ) (row : Row) → width ≤ length row → padded width row ≡ row
not_padded width row h = let none : width - length row ≡ 0 = omega arith in ap (λ n. row ++ plain_row n) none ∙ append-nil row

pub set_within : (row : Row) (at : ℕ) (cell : CellContent) → at + length (cell_columns cell) ≤ length row → with_cell row at cell ≡ set_columns row at (cell_columns cell)
set_within row at cell h = ap (λ (r : Row). set_columns r at (cell_columns cell)) (not_padded (at + length (cell_columns cell)) row h)

pub overlaid_next : (row : Row) (at : ℕ) (cell : CellContent) (cells : List CellContent) → at + length (cell_columns cell) ≤ length row
    → overlaid row at (cell ∷ cells) ≡ overlaid (set_columns row at (cell_columns cell)) (at + length (cell_columns cell)) cells
overlaid_next row at cell cells h = ap (λ (r : Row). overlaid r (at + length (cell_columns cell)) cells) (set_within row at cell h)

pub overlaid_within : (row : Row) (at : ℕ) (cells : List CellContent) → 0 < length cells → at + length (flat_map cell_columns cells) ≤ length row
    → overlaid row at cells ≡ set_columns row at (flat_map cell_columns cells)
overlaid_within row at [] s h = absurd (omega arith)
overlaid_within row at (cell ∷ []) s h =
    let alone : flat_map cell_columns (cell ∷ []) ≡ cell_columns cell = append-nil (cell_columns cell) in
    let n = ap length alone in
    set_within row at cell (omega arith) ∙ ap (set_columns row at) (sym alone)
overlaid_within row at (cell ∷ next ∷ cells) s h =
    let here = cell_columns cell in
    let rest : Row = flat_map cell_columns (next ∷ cells) in
    let n : length (here ++ rest) ≡ length here + length rest = length-append here rest in
    let same : length (set_columns row at here) ≡ length row = length-set_columns row at here (omega arith) in
    overlaid_next row at cell (next ∷ cells) (omega arith)
    ∙ overlaid_within (set_columns row at here) (at + length here) (next ∷ cells) (omega arith) (omega arith)
    ∙ set_columns-again row at here rest (omega arith) (whole_columns cell)

pub length-overlaid : (row : Row) (at : ℕ) (cells : List CellContent) → at + length (flat_map cell_columns cells) ≤ length row → length (overlaid row at cells) ≡ length row
length-overlaid row at [] h = refl
length-overlaid row at (cell ∷ cells) h =
    ap length (overlaid_within row at (cell ∷ cells) (omega arith) h) ∙ length-set_columns row at (flat_map cell_columns (cell ∷ cells)) h

-- a cell of one column set at each of some columns
replicate_more : (n : ℕ) (t : List ℕ) (a : Attributes) → replicate n (Narrow t a) ++ Narrow t a ∷ [] ≡ replicate (suc n) (Narrow t a)
replicate_more zero t a = refl
replicate_more (suc n) t a = ap (λ (r : Row). Narrow t a ∷ r) (replicate_more n t a)

whole_same : (n : ℕ) (t : List ℕ) (a : Attributes) → IsWhole (replicate n (Narrow t a))
whole_same zero t a = tt
whole_same (suc n) t a = whole_same n t a

pub filled_within : (row : Row) (start n : ℕ) (cell : CellContent) → nat_le 2 cell.width ≡ false → start + suc n ≤ length row
    → filled row start (suc n) cell ≡ set_columns row start (replicate (suc n) (Narrow cell.text cell.attributes))
filled_within row start zero cell e h =
    let one = columns_narrow cell e in
    let n = ap length one in
    let here : start + 0 ≡ start = omega arith in
    ap (λ k. with_cell row k cell) here ∙ set_within row start cell (omega arith) ∙ ap (set_columns row start) one
filled_within row start (suc n) cell e h =
    let one = columns_narrow cell e in
    let k = ap length one in
    let before : Row = replicate (suc n) (Narrow cell.text cell.attributes) in
    let count : length before ≡ suc n = length-replicate (suc n) (Narrow cell.text cell.attributes) in
    let done = filled_within row start n cell e (omega arith) in
    let same : length (set_columns row start before) ≡ length row = length-set_columns row start before (omega arith) in
    ap (λ (r : Row). with_cell r (start + suc n) cell) done
    ∙ set_within (set_columns row start before) (start + suc n) cell (omega arith)
    ∙ (λ i. set_columns (set_columns row start before) (start + sym count i) (one i))
    ∙ set_columns-again row start before (Narrow cell.text cell.attributes ∷ []) (omega arith) (whole_same (suc n) cell.text cell.attributes)
    ∙ ap (set_columns row start) (replicate_more (suc n) cell.text cell.attributes)
