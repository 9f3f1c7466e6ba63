-- Visible cells that are left to be lent, of either kind of row.
use Rattle.std.proofs.Common.{◌≡◌, ℕ, ◌+◌, ◌<◌, ◌≤◌, ◌^◌, false, List, [], ◌∷◌, ◌++◌, length, Option, Some, None, refl, sym, ap, ◌∙◌, append_assoc, arith}
use Rattle.std.specs.Prelude.{IfSome, MatchOption, is_some}
use Rattle.cell_base.specs.Attributes.{Attributes}
use Rattle.cell_base.specs.CellContent.{row_of_cells}
use Rattle.cell_edits.specs.VisibleCells.{VisibleCell, visible_each, first_column}
use Rattle.cell_edits.proofs.CellLemmas.{length-row}
use Rattle.cell_edits.proofs.EachLemmas.{first_of_each}
use Rattle.clustered_row.specs.VisibleCells as clustered
use Rattle.clustered_row.specs.VisibleCells.{next_column, row_left}
use Rattle.clustered_row.proofs.PartLemmas.{columns_fit}
use Rattle.cell_views.specs.CellRefView.{left_of}
use Rattle.cell_views.specs.declared.visible_cells.Left.{Left}
use Rattle.cell_views.specs.declared.visible_cells.Left.TheVariants.{Cells, Clustered}
use Rattle.cell_views.specs.Halves.{half_left}
use Rattle.cell_views.specs.declared.half.Half.{Half}
use Rattle.cell_views.proofs.WordLemmas.{head_column, column_below}

-- the column after the first one of a cell has a number, where that of the first cell of these has one
fits_after : (prefix : List VisibleCell) (half : Option Half) (v : VisibleCell) (cells : List VisibleCell)
    → ((u : VisibleCell) (us : List VisibleCell) → prefix ≡ u ∷ us → u.column + 1 < 2 ^ 64)
    → prefix ++ half_left half ≡ v ∷ cells → v.column + 1 < 2 ^ 64
fits_after [] None v cells fit e = absurd (cc)
fits_after [] (Some half) v cells fit e =
    let same : half.cell_index ≡ v.column = ap (head_column 0) e in
    let within = half.within in
    omega arith
fits_after (u ∷ us) half v cells fit e =
    let same : u.column ≡ v.column = ap (head_column 0) e in
    let fits = fit u us refl in
    omega arith

-- the column after the first one of a cell has a number
pub column_fits : (left : Left) (v : VisibleCell) (cells : List VisibleCell) → left_of left ≡ v ∷ cells
    → v.column + 1 < 2 ^ 64
column_fits (Cells s) v cells e =
    let below = column_below s.cell_index (row_of_cells s.cells.now) v cells e in
    let long = length-row s.cells.now in
    let within = s.within in
    omega arith
column_fits (Clustered s) v cells e = fits_after (clustered.cells_left s.cells) s.half v cells
    (λ u us f.
    let below = column_below (next_column s.cells) (row_left s.cells) u us f in
    let fits = columns_fit s.cells in
    omega arith)
    e

-- a run that is passed at the start of some cells is passed also where a half comes after these cells
pub passed_before : {X : Type 0} (run : Option X) (text : X → List ℕ) (attributes : X → Attributes) (most at : ℕ) (old new half : List VisibleCell)
    → MatchOption run (new ≡ old) (λ r. old ≡ visible_each at (text r) (attributes r) ++ new) → IfSome run (λ r. (0 < length (text r)) × (length (text r) ≤ most))
    → MatchOption run (new ++ half ≡ old ++ half) (λ r. old ++ half ≡ visible_each (first_column (old ++ half)) (text r) (attributes r) ++ (new ++ half))
passed_before None text attributes most at old new half e some = ap (λ (cells : List VisibleCell). cells ++ half) e
passed_before (Some r) text attributes most at old new half e some =
    let all : old ++ half ≡ visible_each at (text r) (attributes r) ++ (new ++ half) = ap (λ (cells : List VisibleCell). cells ++ half) e ∙ append_assoc (visible_each at (text r) (attributes r)) new half in
    let first : at ≡ first_column (old ++ half) = sym (ap first_column all ∙ first_of_each at (text r) (attributes r) (new ++ half) some.0) in
    all ∙ ap (λ n. visible_each n (text r) (attributes r) ++ (new ++ half)) first

-- where no half comes first
pub passed_first : {X : Type 0} (run : Option X) (text : X → List ℕ) (attributes : X → Attributes) (half : Option Half) (old new : List VisibleCell) → is_some half ≡ false
    → MatchOption run (new ≡ old) (λ r. old ≡ visible_each (first_column old) (text r) (attributes r) ++ new)
    → MatchOption run (half_left half ++ new ≡ half_left half ++ old) (λ r. half_left half ++ old ≡ visible_each (first_column (half_left half ++ old)) (text r) (attributes r) ++ (half_left half ++ new))
passed_first run text attributes None old new e h = h
passed_first run text attributes (Some half) old new e h = absurd (cc)
