-- Cells that are written one by one, and by stretches.
use Rattle.std.proofs.Common.{◌≡◌, ◌+◌, ◌∙◌, true, false, List, [], ◌∷◌, ◌++◌, Some, None, refl, sym, ap, append_assoc}
use Rattle.std.specs.Prelude.{◌&&◌, ◌==◌, fold, if◌then◌else◌}
use Rattle.std.specs.Cmp.{unsigned_Decides}
use Rattle.std.proofs.lemmas.Bool.{and_parts}
use Rattle.std.proofs.lemmas.List.{append-nil}
use Rattle.cell_base.specs.Attributes.{Attributes}
use Rattle.cell_base.specs.CellContent.{CellContent}
use Rattle.screen_change.specs.CellChanges.{cells_written, last_pen}
use Rattle.screen_change.specs.ChangeValue.{ChangeValue, AllAttributes}
use Rattle.screen_change.specs.Written.{Written, begun, finished, with_change, with_cells}
use Rattle.screen_change.proofs.RunLemmas.{cells_are_written, pen_is_after, nothing_written, change_written}
use Rattle.screen_change.proofs.TextLemmas.{by_test}
use Rattle.screen_difference.specs.Difference.{Stretch, cells_of, alone, longer, before_stretches, stretches, position, stretches_written, difference}
use Rattle.screen_difference.specs.Drawing.{Drawing, first_moved, moved_to, with_placed, with_all}
use Rattle.screen_difference.specs.FreshCells.{PlacedCell}

-- ---- cells that are pushed, by stretches

-- the drawing after a stretch is written
abbrev stretch_done : Written → Stretch → Drawing
stretch_done w s = record { written = with_cells w (cells_of s); has_begun = true; row = s.row; column = fold (λ n c. n + c.width) s.column (cells_of s) }

-- one that may begin where the last cell ends, and one that doesn't
abbrev joined : Drawing → Stretch → Drawing
joined d s = stretch_done (moved_to s.row s.column s.first.attributes d) s

abbrev independent : Drawing → Stretch → Drawing
independent d s = stretch_done (with_change (position s.column s.row) d.written) s

abbrev all_joined : Drawing → List Stretch → Drawing
all_joined d [] = d
all_joined d (s ∷ ss) = fold independent (joined d s) ss

-- a stretch that goes on at the cell's end
goes_on : (d : Drawing) (c : PlacedCell) (s : Stretch) → (c.row == s.row && c.column + c.cell.width == s.column) ≡ true → joined (with_placed d c) s ≡ joined d (longer c s)
goes_on d c s e =
    let both = and_parts (c.row == s.row) (c.column + c.cell.width == s.column) e in
    let row : c.row ≡ s.row = (unsigned_Decides c.row s.row).0 both.0 in
    let column : c.column + c.cell.width ≡ s.column = (unsigned_Decides (c.column + c.cell.width) s.column).0 both.1 in
    ap (λ t. stretch_done (if t then (with_placed d c).written else with_change (position s.column s.row) (with_placed d c).written) s) e
    ∙ (λ i. record { written = with_cells (with_placed d c).written (cells_of s); has_begun = true; row = sym row i; column = fold (λ n x. n + x.width) (sym column i) (cells_of s) })

stands : (d : Drawing) (c : PlacedCell) (s : Stretch) → (c.row == s.row && c.column + c.cell.width == s.column) ≡ false → joined (with_placed d c) s ≡ independent (with_placed d c) s
stands d c s e = ap (λ t. stretch_done (if t then (with_placed d c).written else with_change (position s.column s.row) (with_placed d c).written) s) e

one_more : (d : Drawing) (c : PlacedCell) (ss : List Stretch) → all_joined (with_placed d c) ss ≡ all_joined d (before_stretches c ss)
one_more d c [] = refl
one_more d c (s ∷ ss) =
    by_test (c.row == s.row && c.column + c.cell.width == s.column)
    (λ e. ap (λ (x : Drawing). fold independent x ss) (goes_on d c s e) ∙ sym (ap (λ t. all_joined d (if t then longer c s ∷ ss else alone c ∷ s ∷ ss)) e))
    (λ e. ap (λ (x : Drawing). fold independent x ss) (stands d c s e) ∙ sym (ap (λ t. all_joined d (if t then longer c s ∷ ss else alone c ∷ s ∷ ss)) e))

by_stretches : (d : Drawing) (cells : List PlacedCell) → with_all d cells ≡ all_joined d (stretches cells)
by_stretches d [] = refl
by_stretches d (c ∷ cells) = by_stretches (with_placed d c) cells ∙ one_more d c (stretches cells)

-- ---- the changes that stretches write

-- cells after a change
after_change : (change : ChangeValue) (w : Written) (cells : List CellContent) → finished (with_cells (with_change change w) cells) ≡ finished w ++ change ∷ cells_written w.pen cells
after_change change w cells = cells_are_written (with_change change w) cells refl ∙ append_assoc (finished w) (change ∷ []) (cells_written w.pen cells)

all_independent : (d : Drawing) (ss : List Stretch) → finished (fold independent d ss).written ≡ finished d.written ++ stretches_written (Some d.written.pen) ss
all_independent d [] = sym (append-nil (finished d.written))
all_independent d (s ∷ ss) =
    let w : Written = with_change (position s.column s.row) d.written in
    all_independent (independent d s) ss
    ∙ (λ i. after_change (position s.column s.row) d.written (cells_of s) i ++ stretches_written (Some (pen_is_after w (cells_of s) i)) ss)
    ∙ append_assoc (finished d.written) (position s.column s.row ∷ cells_written d.written.pen (cells_of s)) (stretches_written (Some (last_pen s.first.attributes s.remaining)) ss)

-- nothing, and then the first stretch
first_written : (s : Stretch) → finished (with_cells (first_moved s.row s.column s.first.attributes) (cells_of s)) ≡ position s.column s.row ∷ AllAttributes s.first.attributes ∷ cells_written s.first.attributes (cells_of s)
first_written s =
    let a = s.first.attributes in
    after_change (AllAttributes a) (with_change (position s.column s.row) (begun a)) (cells_of s)
    ∙ ap (λ (cs : List ChangeValue). cs ++ AllAttributes a ∷ cells_written a (cells_of s)) (change_written (position s.column s.row) (begun a) ∙ ap (λ (cs : List ChangeValue). cs ++ position s.column s.row ∷ []) (nothing_written a))

all_written : (d : Drawing) (pen : Attributes) (ss : List Stretch) → d.has_begun ≡ false → d.written ≡ begun pen → finished (all_joined d ss).written ≡ stretches_written None ss
all_written d pen [] n e = ap finished e ∙ nothing_written pen
all_written d pen (s ∷ ss) n e =
    let w : Written = first_moved s.row s.column s.first.attributes in
    let begins : joined d s ≡ stretch_done w s = ap (λ t. stretch_done (if t then (if d.row == s.row && d.column == s.column then d.written else with_change (position s.column s.row) d.written) else w) s) n in
    ap (λ (x : Drawing). finished (fold independent x ss).written) begins
    ∙ all_independent (stretch_done w s) ss
    ∙ (λ i. first_written s i ++ stretches_written (Some (pen_is_after w (cells_of s) i)) ss)

-- cells that are pushed into a new writer are their difference
pub pushed_is_difference : (d : Drawing) (pen : Attributes) (cells : List PlacedCell) → d.has_begun ≡ false → d.written ≡ begun pen → finished (with_all d cells).written ≡ difference cells
pushed_is_difference d pen cells n e = ap (λ (x : Drawing). finished x.written) (by_stretches d cells) ∙ all_written d pen (stretches cells) n e
