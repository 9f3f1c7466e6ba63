-- The visible cells of cells that are read from the left.
use Rattle.std.proofs.Common.{◌≡◌, ℕ, ◌+◌, ◌<◌, ◌≤◌, Bool, List, [], ◌∷◌, ◌++◌, refl, sym, ap, ◌∙◌, arith}
use Rattle.std.specs.Prelude.{IsTrue, ◌↔◌, if◌then◌else◌}
use Rattle.std.specs.List.{flat_map}
use Rattle.cell_base.specs.CellContent.{CellContent, row_of_cells}
use Rattle.cell_base.specs.Row.{Narrow, LeftHalf, RightHalf, Row, space, blank, row_text}
use Rattle.cell_edits.specs.CellList.{cell_columns}
use Rattle.cell_edits.specs.VisibleCells.{VisibleCell, visible_at, visible_from, visible_cells, row_of_visible, contents, texts_joined}
use Rattle.cell_views.specs.CellRefView.{one_or_two}
use Rattle.cell_edits.proofs.CellLemmas.{wide_is, narrow_is, row_wide}
use Rattle.cell_edits.proofs.CutLemmas.{row_narrow_any}
use Rattle.cell_edits.proofs.RowLaws.{row_again, whole_cells}
use Rattle.cell_base.specs.WholeRow.{IsWhole}

pub next_narrow : (i : ℕ) (c : CellContent) (cs : List CellContent) → c.width < 2 → visible_from i (row_of_cells (c ∷ cs)) ≡ visible_at i c.text (one_or_two c.width) c.attributes ∷ visible_from (i + 1) (row_of_cells cs)
next_narrow i c cs h =
    let e = narrow_is c.width h in
    ap (visible_from i) (row_narrow_any c cs e) ∙ ap (λ t. visible_at i c.text (if t then 2 else 1) c.attributes ∷ visible_from (i + 1) (row_of_cells cs)) (sym e)

pub next_wide : (i : ℕ) (c n : CellContent) (cs : List CellContent) → 2 ≤ c.width → visible_from i (row_of_cells (c ∷ n ∷ cs)) ≡ visible_at i c.text (one_or_two c.width) c.attributes ∷ visible_from (i + 2) (row_of_cells cs)
next_wide i c n cs h =
    let e = wide_is c.width h in
    let on : i + 1 + 1 ≡ i + 2 = omega arith in
    ap (visible_from i) (row_wide c n cs e)
    ∙ ap (λ m. visible_at i c.text 2 c.attributes ∷ visible_from m (row_of_cells cs)) on
    ∙ ap (λ t. visible_at i c.text (if t then 2 else 1) c.attributes ∷ visible_from (i + 2) (row_of_cells cs)) (sym e)

pub next_last : (i : ℕ) (c : CellContent) → 2 ≤ c.width → visible_from i (row_of_cells (c ∷ [])) ≡ visible_at i space 1 c.attributes ∷ []
next_last i c h = ap (λ t. visible_from i ((if t then blank c.attributes else Narrow c.text c.attributes) ∷ [])) (wide_is c.width h)

-- the columns of the visible cells are the row
pub rejoined : (i : ℕ) (cells : List CellContent) → row_of_visible (visible_from i (row_of_cells cells)) ≡ row_of_cells cells
rejoined i cells = row_again i (row_of_cells cells) (whole_cells cells)

-- two whole rows are equal where their visible cells have the same contents
row_of_contents : (cells : List VisibleCell) → flat_map cell_columns (contents cells) ≡ row_of_visible cells
row_of_contents [] = refl
row_of_contents (v ∷ cells) = ap (λ (r : Row). cell_columns v.cell ++ r) (row_of_contents cells)

pub same_rows : (xs ys : Row) → IsWhole xs → IsWhole ys
    → contents (visible_cells xs) ≡ contents (visible_cells ys) → xs ≡ ys
same_rows xs ys p q e =
    sym (row_again 0 xs p) ∙ sym (row_of_contents (visible_cells xs)) ∙ ap (flat_map cell_columns) e
    ∙ row_of_contents (visible_cells ys) ∙ row_again 0 ys q

pub same_by_parts : (a b : CellContent) (r : Bool) → a.text ≡ b.text → a.width ≡ b.width → (IsTrue r ↔ (a.attributes ≡ b.attributes)) → (IsTrue r ↔ (a ≡ b))
same_by_parts a b r t w s = (
  (λ e. λ i. record { text = t i; width = w i; attributes = s.0 e i }),
  (λ e. s.1 (ap (λ (c : CellContent). c.attributes) e)),
)

-- the texts of the visible cells are the row's text
pub texts_of_visible : (i : ℕ) (r : Row) → texts_joined (visible_from i r) ≡ row_text r
texts_of_visible i [] = refl
texts_of_visible i (Narrow t a ∷ r) = ap (λ (s : List ℕ). t ++ s) (texts_of_visible (i + 1) r)
texts_of_visible i (LeftHalf t a ∷ r) = ap (λ (s : List ℕ). t ++ s) (texts_of_visible (i + 1) r)
texts_of_visible i (RightHalf a ∷ r) = texts_of_visible (i + 1) r
