-- Cells of one byte each, side by side with the same attributes.
use Rattle.std.proofs.Common.{◌≡◌, ℕ, suc, ◌+◌, ◌<◌, List, [], ◌∷◌, ◌++◌, length, map, refl, ap, ◌∙◌, arith}
use Rattle.cell_base.specs.Attributes.{Attributes}
use Rattle.cell_base.specs.Row.{Row, Narrow}
use Rattle.cell_edits.specs.VisibleCells.{VisibleCell, visible_at, visible_from, visible_each, first_column}

-- their columns
abbrev pub columns_each : List ℕ → Attributes → Row
columns_each text attributes = map (λ byte. Narrow (byte ∷ []) attributes) text

-- the cells of a row that begins with these columns
pub visible_after_each : (at : ℕ) (text : List ℕ) (a : Attributes) (row : Row) → visible_from at (columns_each text a ++ row) ≡ visible_each at text a ++ visible_from (at + length text) row
visible_after_each at [] a row = let same : at ≡ at + 0 = omega arith in ap (λ n. visible_from n row) same
visible_after_each at (b ∷ text) a row =
    let on : at + 1 + length text ≡ at + suc (length text) = omega arith in
    ap (λ (cells : List VisibleCell). visible_at at (b ∷ []) 1 a ∷ cells)
    (visible_after_each (at + 1) text a row ∙ ap (λ n. visible_each (at + 1) text a ++ visible_from n row) on)

-- the first of them
pub first_of_each : (at : ℕ) (text : List ℕ) (a : Attributes) (cells : List VisibleCell) → 0 < length text → first_column (visible_each at text a ++ cells) ≡ at
first_of_each at [] a cells h = absurd (omega arith)
first_of_each at (b ∷ text) a cells h = refl
