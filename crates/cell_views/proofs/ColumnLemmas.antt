-- The cell that begins at a column.
use Rattle.std.proofs.Common.{◌≡◌, ℕ, zero, suc, ◌+◌, ◌<◌, ◌≤◌, ◌∙◌, true, false, List, [], ◌∷◌, length, take, drop, Some, None, refl, sym, ap, subst, arith}
use Rattle.std.specs.Prelude.{nat_le, find, ◌==◌, if◌then◌else◌}
use Rattle.std.proofs.lemmas.Bool.{false≢true, ne_eqb, eq-eqb}
use Rattle.cell_base.specs.CellContent.{CellContent, row_of_cells}
use Rattle.cell_base.specs.Row.{Narrow, LeftHalf, RightHalf, Row, blank, closed_start}
use Rattle.cell_edits.specs.CellList.{ends_split}
use Rattle.cell_edits.specs.VisibleCells.{VisibleCell, visible_from, first_of, cell_at}
use Rattle.cell_edits.proofs.CellLemmas.{by_test, row_wide, row_narrow, split_wide, split_narrow, starts_closed}
use Rattle.cell_views.proofs.KeptLemmas.{AreInOrder, in_order}

hit : (v : VisibleCell) (cells : List VisibleCell) (column : ℕ) → v.column ≡ column → find (λ w. w.column == column) (v ∷ cells) ≡ Some v
hit v cells column e = ap (λ b. if b then Some v else find (λ w. w.column == column) cells) (eq-eqb v.column column e)

miss : (v : VisibleCell) (cells : List VisibleCell) (column : ℕ) → (v.column ≡ column → ⊥) → find (λ w. w.column == column) (v ∷ cells) ≡ find (λ w. w.column == column) cells
miss v cells column e = ap (λ b. if b then Some v else find (λ w. w.column == column) cells) (ne_eqb v.column column e)

none_at : (at column : ℕ) (cells : List VisibleCell) → column < at → AreInOrder at cells → find (λ w. w.column == column) cells ≡ None
none_at at column [] h p = refl
none_at at column (v ∷ cells) h p = let q = p.0 in miss v cells column (λ e. absurd (omega (arith, e))) ∙ none_at (v.column + 1) column cells (omega arith) p.1

row_start : (from : ℕ) (row : Row) → closed_start row ≡ row → find (λ v. v.column == from) (visible_from from row) ≡ first_of (visible_from from row)
row_start from [] e = refl
row_start from (Narrow text attributes ∷ row) e = hit _ (visible_from (from + 1) row) from refl
row_start from (LeftHalf text attributes ∷ row) e = hit _ (visible_from (from + 1) row) from refl
row_start from (RightHalf attributes ∷ row) e = absurd (cc)

at_start : (cells : List CellContent) (from column : ℕ) → column ≡ from → find (λ v. v.column == column) (visible_from from (row_of_cells cells)) ≡ first_of (visible_from column (row_of_cells cells))
at_start cells from column e = subst (λ f. find (λ v. v.column == column) (visible_from f (row_of_cells cells)) ≡ first_of (visible_from column (row_of_cells cells))) e (row_start column (row_of_cells cells) (sym (starts_closed cells)))

one_cell : (c : CellContent) (from column : ℕ) → (from ≡ column → ⊥) → find (λ v. v.column == column) (visible_from from (row_of_cells (c ∷ []))) ≡ None
one_cell c from column e = by_test (nat_le 2 c.width)
    (λ t. ap (λ b. find (λ v. v.column == column) (visible_from from ((if b then blank c.attributes else Narrow c.text c.attributes) ∷ []))) t ∙ miss _ [] column e)
    (λ t. ap (λ b. find (λ v. v.column == column) (visible_from from ((if b then blank c.attributes else Narrow c.text c.attributes) ∷ []))) t ∙ miss _ [] column e)

-- a column where a cell begins
pub cell_found : (cells : List CellContent) (from n column : ℕ) → column ≡ from + n → ends_split (take n cells) ≡ false
    → find (λ v. v.column == column) (visible_from from (row_of_cells cells)) ≡ first_of (visible_from column (row_of_cells (drop n cells)))
cell_found [] from zero column e h = refl
cell_found [] from (suc n) column e h = refl
cell_found (c ∷ cs) from zero column e h = at_start (c ∷ cs) from column (omega (arith, e))
cell_found (c ∷ []) from (suc zero) column e h = one_cell c from column (λ f. absurd (omega (arith, e, f)))
cell_found (c ∷ []) from (suc (suc n)) column e h = one_cell c from column (λ f. absurd (omega (arith, e, f)))
cell_found (c ∷ d ∷ cs) from (suc zero) column e h =
    ap (λ (r : Row). find (λ v. v.column == column) (visible_from from r)) (row_narrow c d cs h)
    ∙ miss _ (visible_from (from + 1) (row_of_cells (d ∷ cs))) column (λ f. absurd (omega (arith, e, f)))
    ∙ at_start (d ∷ cs) (from + 1) column (omega (arith, e))
cell_found (c ∷ d ∷ cs) from (suc (suc m)) column e h = by_test (nat_le 2 c.width)
    (λ t. ap (λ (r : Row). find (λ v. v.column == column) (visible_from from r)) (row_wide c d cs t)
    ∙ miss _ (visible_from (from + 1 + 1) (row_of_cells cs)) column (λ f. absurd (omega (arith, e, f)))
    ∙ cell_found cs (from + 1 + 1) m column (omega (arith, e)) (sym (split_wide c d (take m cs) t) ∙ h))
    (λ t. ap (λ (r : Row). find (λ v. v.column == column) (visible_from from r)) (row_narrow c d cs t)
    ∙ miss _ (visible_from (from + 1) (row_of_cells (d ∷ cs))) column (λ f. absurd (omega (arith, e, f)))
    ∙ cell_found (d ∷ cs) (from + 1) (suc m) column (omega (arith, e)) (sym (split_narrow c d (take m cs) t) ∙ h))

-- the second column of a wide cell
pub none_found : (cells : List CellContent) (from n column : ℕ) → column ≡ from + n → ends_split (take n cells) ≡ true → find (λ v. v.column == column) (visible_from from (row_of_cells cells)) ≡ None
none_found [] from zero column e h = absurd (false≢true h)
none_found [] from (suc n) column e h = absurd (false≢true h)
none_found (c ∷ cs) from zero column e h = absurd (false≢true h)
none_found (c ∷ []) from (suc zero) column e h = one_cell c from column (λ f. absurd (omega (arith, e, f)))
none_found (c ∷ []) from (suc (suc n)) column e h = one_cell c from column (λ f. absurd (omega (arith, e, f)))
none_found (c ∷ d ∷ cs) from (suc zero) column e h =
    ap (λ (r : Row). find (λ v. v.column == column) (visible_from from r)) (row_wide c d cs h)
    ∙ miss _ (visible_from (from + 1 + 1) (row_of_cells cs)) column (λ f. absurd (omega (arith, e, f)))
    ∙ none_at (from + 1 + 1) column (visible_from (from + 1 + 1) (row_of_cells cs)) (omega (arith, e)) (in_order (from + 1 + 1) (row_of_cells cs))
none_found (c ∷ d ∷ cs) from (suc (suc m)) column e h = by_test (nat_le 2 c.width)
    (λ t. ap (λ (r : Row). find (λ v. v.column == column) (visible_from from r)) (row_wide c d cs t)
    ∙ miss _ (visible_from (from + 1 + 1) (row_of_cells cs)) column (λ f. absurd (omega (arith, e, f)))
    ∙ none_found cs (from + 1 + 1) m column (omega (arith, e)) (sym (split_wide c d (take m cs) t) ∙ h))
    (λ t. ap (λ (r : Row). find (λ v. v.column == column) (visible_from from r)) (row_narrow c d cs t)
    ∙ miss _ (visible_from (from + 1) (row_of_cells (d ∷ cs))) column (λ f. absurd (omega (arith, e, f)))
    ∙ none_found (d ∷ cs) (from + 1) (suc m) column (omega (arith, e)) (sym (split_narrow c d (take m cs) t) ∙ h))

nothing_after : (cells : List CellContent) (n : ℕ) → length cells ≤ n → drop n cells ≡ []
nothing_after [] zero h = refl
nothing_after [] (suc n) h = refl
nothing_after (c ∷ cs) zero h = absurd (omega (arith, h))
nothing_after (c ∷ cs) (suc n) h = nothing_after cs n (omega (arith, h))

-- past the end
pub none_past : (cells : List CellContent) (column : ℕ) → length cells ≤ column → None ≡ cell_at column (row_of_cells cells)
none_past cells column h = by_test (ends_split (take column cells))
    (λ t. sym (none_found cells 0 column column (omega arith) t))
    (λ t. sym (cell_found cells 0 column column (omega arith) t ∙ ap (λ (cs : List CellContent). first_of (visible_from column (row_of_cells cs))) (nothing_after cells column h)))
