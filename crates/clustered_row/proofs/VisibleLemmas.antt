-- Visible cells of columns that are left.
use Rattle.std.proofs.Common.{◌≡◌, ℕ, zero, suc, ◌+◌, ◌-◌, ◌<◌, List, [], ◌∷◌, ◌++◌, replicate, sym, ap, ◌∙◌, arith}
use Rattle.cell_base.specs.Attributes.{Attributes}
use Rattle.cell_base.specs.Row.{space, blank}
use Rattle.cell_edits.specs.VisibleCells.{visible_at, visible_from}
use Rattle.clustered_row.specs.Faces.{Face, row_of}

-- ---- one cell after the other

pub none_left : (fs : List Face) (ats : List Attributes) (n at : ℕ) (a : Attributes) → fs ≡ [] → n ≡ 0 → visible_from at (row_of fs ats ++ replicate n (blank a)) ≡ []
none_left fs ats n at a e none = λ i. visible_from at (row_of (e i) ats ++ replicate (none i) (blank a))

some_blanks : (n at : ℕ) (a : Attributes) → 0 < n → visible_from at (replicate n (blank a)) ≡ visible_at at space 1 a ∷ visible_from (at + 1) (replicate (n - 1) (blank a))
some_blanks zero at a h = absurd (omega arith)
some_blanks (suc n) at a h = let less : n ≡ suc n - 1 = omega arith in ap (λ k. visible_at at space 1 a ∷ visible_from (at + 1) (replicate k (blank a))) less

pub next_blank : (fs gs : List Face) (ats : List Attributes) (n at : ℕ) (a : Attributes) → fs ≡ [] → gs ≡ [] → 0 < n
    → visible_from at (row_of fs ats ++ replicate n (blank a)) ≡ visible_at at space 1 a ∷ visible_from (at + 1) (row_of gs ats ++ replicate (n - 1) (blank a))
next_blank fs gs ats n at a e f h =
    (λ i. visible_from at (row_of (e i) ats ++ replicate n (blank a))) ∙ some_blanks n at a h ∙ (λ i. visible_at at space 1 a ∷ visible_from (at + 1) (row_of (sym f i) ats ++ replicate (n - 1) (blank a)))
