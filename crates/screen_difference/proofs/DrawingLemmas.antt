-- Cells of a text that are written in turn.
use Rattle.std.proofs.Common.{◌≡◌, ℕ, suc, ◌+◌, ◌<◌, ◌∙◌, true, List, [], ◌∷◌, length, refl, ap, arith}
use Rattle.std.specs.Prelude.{◌&&◌, ◌==◌, if◌then◌else◌}
use Rattle.std.specs.Cmp.{unsigned_Decides}
use Rattle.std.proofs.lemmas.Bool.{and_from}
use Rattle.cell_base.specs.Attributes.{Attributes}
use Rattle.screen_change.specs.Written.{Written, with_change, with_cell, with_each}
use Rattle.cell_edits.specs.VisibleCells.{visible_each}
use Rattle.screen_difference.specs.Difference.{position}
use Rattle.screen_difference.specs.Drawing.{Drawing, moved_to, with_all}
use Rattle.screen_difference.specs.FreshCells.{placed}

-- the last cell ends at a position
abbrev pub ends_at : Written → ℕ → ℕ → Drawing
ends_at w row column = record { written = w; has_begun = true; row = row; column = column }

each_after : (w : Written) (row column : ℕ) (text : List ℕ) (a : Attributes) → with_all (ends_at w row column) (placed row (visible_each column text a)) ≡ ends_at (with_each text a w) row (column + length text)
each_after w row column [] a = let e : column ≡ column + 0 = omega arith in ap (ends_at w row) e
each_after w row column (b ∷ text) a =
    let there : (row == row && column == column) ≡ true = and_from (row == row) (column == column) ((unsigned_Decides row row).1 refl) ((unsigned_Decides column column).1 refl) in
    let e : column + 1 + length text ≡ column + suc (length text) = omega arith in
    ap (λ t. with_all (ends_at (with_cell (b ∷ []) a (if t then w else with_change (position column row) w)) row (column + 1)) (placed row (visible_each (column + 1) text a))) there
    ∙ each_after (with_cell (b ∷ []) a w) row (column + 1) text a
    ∙ ap (ends_at (with_each text a (with_cell (b ∷ []) a w)) row) e

-- the first cell is moved to its position, and the remaining cells follow it
pub each_placed : (d : Drawing) (row column : ℕ) (text : List ℕ) (a : Attributes) → 0 < length text
    → with_all d (placed row (visible_each column text a)) ≡ record { written = with_each text a (moved_to row column a d); has_begun = true; row = row; column = column + length text }
each_placed d row column [] a h = absurd (omega arith)
each_placed d row column (b ∷ text) a h =
    let w : Written = with_cell (b ∷ []) a (moved_to row column a d) in
    let e : column + 1 + length text ≡ column + suc (length text) = omega arith in
    each_after w row (column + 1) text a ∙ ap (ends_at (with_each text a w) row) e
