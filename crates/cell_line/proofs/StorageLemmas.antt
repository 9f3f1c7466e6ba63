-- Columns of a line, as they are kept.
use Rattle.std.proofs.Common.{◌≡◌, true, false, length, ◌⊎◌, inl, refl, sym, ap, ◌∙◌}
use Rattle.std.specs.Prelude.{Bool, vec_len, if◌then◌else◌}
use Rattle.cell_base.specs.CellContent.{row_of_cells}
use Rattle.cell_edits.proofs.CellLemmas.{length-row}
use Rattle.cell_line.specs.LineContent.{LineContent}
use Rattle.cell_line.specs.LineView.{columns_kept, content_of}
use Rattle.cell_line.specs.declared.line.Line.TheInside.{Inside}

pub columns_of_cells : (a : Inside) (line : LineContent) → content_of a ≡ line → a.is_clustered ≡ false → row_of_cells a.cells.items ≡ line.columns
columns_of_cells a line shown kind = ap (λ (b : Bool). columns_kept b a) (sym kind) ∙ ap (λ (l : LineContent). l.columns) shown

pub columns_of_row : (a : Inside) (line : LineContent) → content_of a ≡ line → a.is_clustered ≡ true → a.row ≡ line.columns
columns_of_row a line shown kind = ap (λ (b : Bool). columns_kept b a) (sym kind) ∙ ap (λ (l : LineContent). l.columns) shown

pub columns_by : (a : Inside) (line : LineContent) → content_of a ≡ line → (if a.is_clustered then a.row else row_of_cells a.cells.items) ≡ line.columns
columns_by a line shown = kept_by a.is_clustered ∙ ap (λ (l : LineContent). l.columns) shown
  where
    kept_by : (b : Bool) → (if b then a.row else row_of_cells a.cells.items) ≡ columns_kept b a
    kept_by true = refl
    kept_by false = refl

pub length_of_cells : (a : Inside) (line : LineContent) → content_of a ≡ line → a.is_clustered ≡ false → vec_len a.cells ≡ length line.columns
length_of_cells a line shown kind = a.cells.ok.0 ∙ sym (length-row a.cells.items) ∙ ap length (columns_of_cells a line shown kind)

-- lenders with equal final values are equal
pub same_lender : {N A B C : Type 0} (name : N) {f g : A → B} → f ≡ g → ◌≡◌ {A = (N × (A → B)) ⊎ C} (inl (name, f)) (inl (name, g))
same_lender name e = λ i. inl (name, e i)
