-- Runs of equal attributes and stretches side by side are the one cut of cells into groups as long as may be.
use Rattle.std.proofs.Common.{◌≡◌, ℕ, ◌+◌, ◌∙◌, true, List, [], ◌∷◌, ◌++◌, map, refl, sym, ap, subst}
use Rattle.std.specs.List.{AllByRecursion}
use Rattle.std.specs.Prelude.{◌&&◌, ◌==◌, flat_map, if◌then◌else◌}
use Rattle.std.specs.Cmp.{unsigned_Decides}
use Rattle.std.proofs.lemmas.Bool.{and_from, and_parts, false≢true}
use Rattle.cell_base.specs.Attributes.{Attributes}
use Rattle.cell_base.specs.CellContent.{CellContent}
use Rattle.cell_base.specs.SameAttributes.{same_attributes, same_attributes_decides}
use Rattle.screen_change.specs.CellRuns.{CellRun, before_runs, cell_runs}
use Rattle.screen_change.proofs.TextLemmas.{by_test}
use Rattle.screen_difference.specs.Difference.{Stretch, alone, before_stretches, longer, stretches}
use Rattle.screen_difference.specs.FreshCells.{PlacedCell}
use Rattle.terminal.specs.Groups.{AreRunsOf, AreStretchesOf, GoesOn, HaveEqualAttributes, NoNeighborsJoin, column_after, placed_by, side_by_side, written, written_by}

not_empty : {A : Type 0} (x : A) (xs : List A) → (x ∷ xs) ≡ [] → ⊥
not_empty x xs e = cc

-- where no neighbors can be joined, none after the first group can
rest_has_none : {G : Type 0} (Join : G → G → Type 0) (group : G) (groups : List G) → NoNeighborsJoin Join (group ∷ groups) → NoNeighborsJoin Join groups
rest_has_none Join group [] p = tt
rest_has_none Join group (next ∷ groups) p = p.1

-- nor can any where the first group is replaced by one that joins only groups that the first one joins
other_first : {G : Type 0} (Join : G → G → Type 0) (one other : G) (groups : List G) → ((next : G) → Join other next → Join one next) → NoNeighborsJoin Join (one ∷ groups) → NoNeighborsJoin Join (other ∷ groups)
other_first Join one other [] f p = tt
other_first Join one other (next ∷ groups) f p = ((λ j. p.0 (f next j)), p.1)

-- ---- runs are a cut

abbrev run_of : Attributes → List (List ℕ) → CellRun
run_of attributes texts = record { attributes = attributes; cells = texts }

abbrev single : CellContent → CellRun
single cell = run_of cell.attributes (cell.text ∷ [])

one_more_run : (cell : CellContent) (cells : List CellContent) (runs : List CellRun) → AreRunsOf cells runs → AreRunsOf (cell ∷ cells) (before_runs cell runs)
one_more_run cell cells [] are = record {
  whole = ap (λ ws. written cell ∷ ws) are.whole;
  filled = ((λ e. not_empty (written cell) [] e), tt);
  longest = tt;
}
one_more_run cell cells (run ∷ runs) are =
    by_test (same_attributes cell.attributes run.attributes)
    (λ e.
    let same : cell.attributes ≡ run.attributes = (same_attributes_decides cell.attributes run.attributes).0 e in
    let longer_run : CellRun = run_of run.attributes (cell.text ∷ run.cells) in
    subst (λ t. AreRunsOf (cell ∷ cells) (if t then longer_run ∷ runs else single cell ∷ run ∷ runs)) (sym e) (record {
      whole = (λ i. (cell.text, sym same i) ∷ are.whole i);
      filled = ((λ f. not_empty (cell.text, run.attributes) (written_by run) f), are.filled.1);
      longest = other_first HaveEqualAttributes run longer_run runs (λ next j. j) are.longest;
    }))
    (λ e.
    subst (λ t. AreRunsOf (cell ∷ cells) (if t then run_of run.attributes (cell.text ∷ run.cells) ∷ runs else single cell ∷ run ∷ runs)) (sym e) (record {
      whole = ap (λ ws. written cell ∷ ws) are.whole;
      filled = ((λ f. not_empty (written cell) [] f), are.filled);
      longest = ((λ j. false≢true (sym e ∙ (same_attributes_decides cell.attributes run.attributes).1 j)), are.longest);
    }))

pub runs_are_cut : (cells : List CellContent) → AreRunsOf cells (cell_runs cells)
runs_are_cut [] = record { whole = refl; filled = tt; longest = tt }
runs_are_cut (cell ∷ cells) = one_more_run cell cells (cell_runs cells) (runs_are_cut cells)

-- ---- no other runs are a cut

-- a cell of a text and attributes, and the runs of texts and attributes
abbrev cell_of : List ℕ × Attributes → CellContent
cell_of w = record { text = w.0; width = 0; attributes = w.1 }

abbrev written_runs : List (List ℕ × Attributes) → List CellRun
written_runs [] = []
written_runs (w ∷ ws) = before_runs (cell_of w) (written_runs ws)

width_is_left_out : (cell : CellContent) (runs : List CellRun) → before_runs (cell_of (written cell)) runs ≡ before_runs cell runs
width_is_left_out cell [] = refl
width_is_left_out cell (run ∷ runs) = refl

runs_of_written : (cells : List CellContent) → written_runs (map written cells) ≡ cell_runs cells
runs_of_written [] = refl
runs_of_written (cell ∷ cells) = ap (before_runs (cell_of (written cell))) (runs_of_written cells) ∙ width_is_left_out cell (cell_runs cells)

stands_alone : (attributes : Attributes) (text : List ℕ) (runs : List CellRun) → NoNeighborsJoin HaveEqualAttributes (run_of attributes (text ∷ []) ∷ runs)
    → before_runs (cell_of (text, attributes)) runs ≡ run_of attributes (text ∷ []) ∷ runs
stands_alone attributes text [] p = refl
stands_alone attributes text (next ∷ runs) p =
    ap (λ t. if t then run_of next.attributes (text ∷ next.cells) ∷ runs else run_of attributes (text ∷ []) ∷ next ∷ runs)
    (by_test (same_attributes attributes next.attributes) (λ e. absurd (p.0 ((same_attributes_decides attributes next.attributes).0 e))) (λ e. e))

run_again : (attributes : Attributes) (text : List ℕ) (texts : List (List ℕ)) (ws : List (List ℕ × Attributes)) (runs : List CellRun)
    → written_runs ws ≡ runs → NoNeighborsJoin HaveEqualAttributes (run_of attributes (text ∷ texts) ∷ runs)
    → written_runs (written_by (run_of attributes (text ∷ texts)) ++ ws) ≡ run_of attributes (text ∷ texts) ∷ runs
run_again attributes text [] ws runs e p = ap (before_runs (cell_of (text, attributes))) e ∙ stands_alone attributes text runs p
run_again attributes text (next ∷ texts) ws runs e p =
    let rest : List CellRun = run_of attributes (next ∷ texts) ∷ runs in
    let separate : NoNeighborsJoin HaveEqualAttributes rest =
    other_first HaveEqualAttributes (run_of attributes (text ∷ next ∷ texts)) (run_of attributes (next ∷ texts)) runs (λ other j. j) p in
    ap (before_runs (cell_of (text, attributes))) (run_again attributes next texts ws runs e separate)
    ∙ ap (λ t. if t then run_of attributes (text ∷ next ∷ texts) ∷ runs else run_of attributes (text ∷ []) ∷ rest) ((same_attributes_decides attributes attributes).1 refl)

first_again : (attributes : Attributes) (texts : List (List ℕ)) (ws : List (List ℕ × Attributes)) (runs : List CellRun)
    → (written_by (run_of attributes texts) ≡ [] → ⊥) → written_runs ws ≡ runs → NoNeighborsJoin HaveEqualAttributes (run_of attributes texts ∷ runs)
    → written_runs (written_by (run_of attributes texts) ++ ws) ≡ run_of attributes texts ∷ runs
first_again attributes [] ws runs some e p = absurd (some refl)
first_again attributes (text ∷ texts) ws runs some e p = run_again attributes text texts ws runs e p

runs_again : (runs : List CellRun) → AllByRecursion (λ run. written_by run ≡ [] → ⊥) runs → NoNeighborsJoin HaveEqualAttributes runs → written_runs (flat_map written_by runs) ≡ runs
runs_again [] some p = refl
runs_again (run ∷ runs) some p =
    first_again run.attributes run.cells (flat_map written_by runs) runs some.0 (runs_again runs some.1 (rest_has_none HaveEqualAttributes run runs p)) p

pub one_run_cut : (cells : List CellContent) (runs : List CellRun) → AreRunsOf cells runs → runs ≡ cell_runs cells
one_run_cut cells runs are = sym (runs_again runs are.filled are.longest) ∙ ap written_runs are.whole ∙ runs_of_written cells

-- ---- stretches are a cut

goes_on_if : (c : PlacedCell) (s : Stretch) → GoesOn (alone c) s → (c.row == s.row && c.column + c.cell.width == s.column) ≡ true
goes_on_if c s j = and_from (c.row == s.row) (c.column + c.cell.width == s.column) ((unsigned_Decides c.row s.row).1 (sym j.0)) ((unsigned_Decides (c.column + c.cell.width) s.column).1 (sym j.1))

goes_on : (c : PlacedCell) (s : Stretch) → (c.row == s.row && c.column + c.cell.width == s.column) ≡ true → GoesOn (alone c) s
goes_on c s e =
    let both = and_parts (c.row == s.row) (c.column + c.cell.width == s.column) e in
    (sym ((unsigned_Decides c.row s.row).0 both.0), sym ((unsigned_Decides (c.column + c.cell.width) s.column).0 both.1))

one_more_stretch : (c : PlacedCell) (cells : List PlacedCell) (ss : List Stretch) → AreStretchesOf cells ss → AreStretchesOf (c ∷ cells) (before_stretches c ss)
one_more_stretch c cells [] are = record {
  whole = ap (λ cs. c ∷ cs) are.whole;
  filled = ((λ e. not_empty c [] e), tt);
  longest = tt;
}
one_more_stretch c cells (s ∷ ss) are =
    by_test (c.row == s.row && c.column + c.cell.width == s.column)
    (λ e.
    let on : GoesOn (alone c) s = goes_on c s e in
    subst (λ t. AreStretchesOf (c ∷ cells) (if t then longer c s ∷ ss else alone c ∷ s ∷ ss)) (sym e) (record {
      whole = (λ i. c ∷ (side_by_side (sym on.0 i) (sym on.1 i) (s.first ∷ s.remaining) ++ flat_map placed_by ss)) ∙ ap (λ cs. c ∷ cs) are.whole;
      filled = ((λ f. not_empty c (side_by_side c.row (c.column + c.cell.width) (s.first ∷ s.remaining)) f), are.filled.1);
      longest = other_first GoesOn s (longer c s) ss (λ next j. (j.0 ∙ sym on.0, j.1 ∙ after c s on.1)) are.longest;
    }))
    (λ e.
    subst (λ t. AreStretchesOf (c ∷ cells) (if t then longer c s ∷ ss else alone c ∷ s ∷ ss)) (sym e) (record {
      whole = ap (λ cs. c ∷ cs) are.whole;
      filled = ((λ f. not_empty c [] f), are.filled);
      longest = ((λ j. false≢true (sym e ∙ goes_on_if c s j)), are.longest);
    }))
  where
    after : (c : PlacedCell) (s : Stretch) → s.column ≡ c.column + c.cell.width → column_after (longer c s) ≡ column_after s
    after c s e = ap (λ column. column_after (record s { column = column })) (sym e)

pub stretches_are_cut : (cells : List PlacedCell) → AreStretchesOf cells (stretches cells)
stretches_are_cut [] = record { whole = refl; filled = tt; longest = tt }
stretches_are_cut (c ∷ cells) = one_more_stretch c cells (stretches cells) (stretches_are_cut cells)

-- ---- no other stretches are a cut

abbrev stretch_of : ℕ → ℕ → CellContent → List CellContent → Stretch
stretch_of row column first remaining = record { row = row; column = column; first = first; remaining = remaining }

abbrev placed_at : ℕ → ℕ → CellContent → PlacedCell
placed_at row column cell = record { row = row; column = column; cell = cell }

begins_next : (c : PlacedCell) (ss : List Stretch) → NoNeighborsJoin GoesOn (alone c ∷ ss) → before_stretches c ss ≡ alone c ∷ ss
begins_next c [] p = refl
begins_next c (s ∷ ss) p =
    ap (λ t. if t then longer c s ∷ ss else alone c ∷ s ∷ ss)
    (by_test (c.row == s.row && c.column + c.cell.width == s.column) (λ e. absurd (p.0 (goes_on c s e))) (λ e. e))

stretch_again : (row column : ℕ) (first : CellContent) (remaining : List CellContent) (cells : List PlacedCell) (ss : List Stretch)
    → stretches cells ≡ ss → NoNeighborsJoin GoesOn (stretch_of row column first remaining ∷ ss)
    → stretches (side_by_side row column (first ∷ remaining) ++ cells) ≡ stretch_of row column first remaining ∷ ss
stretch_again row column first [] cells ss e p = ap (before_stretches (placed_at row column first)) e ∙ begins_next (placed_at row column first) ss p
stretch_again row column first (next ∷ remaining) cells ss e p =
    let c : PlacedCell = placed_at row column first in
    let s : Stretch = stretch_of row (column + first.width) next remaining in
    let separate : NoNeighborsJoin GoesOn (s ∷ ss) = other_first GoesOn (stretch_of row column first (next ∷ remaining)) s ss (λ other j. j) p in
    ap (before_stretches c) (stretch_again row (column + first.width) next remaining cells ss e separate)
    ∙ ap (λ t. if t then longer c s ∷ ss else alone c ∷ s ∷ ss) (goes_on_if c s (refl, refl))

stretches_again : (ss : List Stretch) → NoNeighborsJoin GoesOn ss → stretches (flat_map placed_by ss) ≡ ss
stretches_again [] p = refl
stretches_again (s ∷ ss) p =
    stretch_again s.row s.column s.first s.remaining (flat_map placed_by ss) ss (stretches_again ss (rest_has_none GoesOn s ss p)) p

pub one_stretch_cut : (cells : List PlacedCell) (ss : List Stretch) → AreStretchesOf cells ss → ss ≡ stretches cells
one_stretch_cut cells ss are = sym (stretches_again ss are.longest) ∙ ap stretches are.whole
