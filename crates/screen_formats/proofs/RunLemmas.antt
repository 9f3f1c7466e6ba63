-- Runs that are made cell by cell are those of the groups.
use Rattle.std.proofs.Common.{◌≡◌, ℕ, ◌+◌, Bool, true, false, List, [], ◌∷◌, ◌++◌, map, refl, sym, ap, ◌∙◌, arith}
use Rattle.std.specs.List.{AllByRecursion}
use Rattle.std.specs.Prelude.{◌==◌, not, sum_by, filter, flat_map, fold, if◌then◌else◌}
use Rattle.std.proofs.lemmas.Bool.{and_parts, eqb-true}
use Rattle.std.proofs.lemmas.List.{append-nil}
use Rattle.std.proofs.lemmas.List.Sums.{sum_by-append}
use Rattle.std.proofs.lemmas.Grind.{flat_map-append}
use Rattle.cell_edits.specs.VisibleCells.{VisibleCell, texts_joined}
use Rattle.cell_base.specs.SameAttributes.{same_attributes, same_attributes_decides}
use Rattle.cell_views.specs.Groups.{AreTogether, GoOn, joined, groups_by, IsCut}
use Rattle.cell_views.proofs.GroupLemmas.{cut_joined, groups_are_cut}
use Rattle.screen_formats.specs.Runs.{RendersAs, Run, begins_run, goes_on, run_of, runs_of}
use Rattle.screen_formats.specs.RunSteps.{grown, with_cell}

flat_map-one : {A : Type 0} (f : VisibleCell → List A) (cells : List VisibleCell) (v : VisibleCell) → flat_map f cells ++ f v ≡ flat_map f (cells ++ v ∷ [])
flat_map-one f cells v = ap (λ xs. flat_map f cells ++ xs) (sym (append-nil (f v))) ∙ sym (flat_map-append f cells (v ∷ []))

grown_run : (first : VisibleCell) (cells : List VisibleCell) (v : VisibleCell) → grown (run_of (first ∷ cells)) v ≡ run_of (first ∷ cells ++ v ∷ [])
grown_run first cells v =
    let columns : sum_by (λ w. w.cell.width) (first ∷ cells) + v.cell.width ≡ sum_by (λ w. w.cell.width) (first ∷ cells ++ v ∷ []) = omega (arith, sum_by-append (λ w. w.cell.width) (first ∷ cells) (v ∷ [])) in
    λ i. record {
      attributes = first.cell.attributes;
      width = first.cell.width;
      column = first.column;
      columns = columns i;
      text = flat_map-one (λ w. w.cell.text) (first ∷ cells) v i;
    }

either_run : (b : Bool) (first : VisibleCell) (cells : List VisibleCell) (v : VisibleCell)
    → map run_of (if not b then (first ∷ cells) ∷ (v ∷ []) ∷ [] else (first ∷ cells ++ v ∷ []) ∷ []) ≡ (if b then grown (run_of (first ∷ cells)) v ∷ [] else run_of (first ∷ cells) ∷ run_of (v ∷ []) ∷ [])
either_run true first cells v = ap (λ (run : Run). run ∷ []) (sym (grown_run first cells v))
either_run false first cells v = refl

joined_run : (groups : List (List VisibleCell)) (v : VisibleCell) → IsCut begins_run groups → map run_of (joined begins_run groups v) ≡ with_cell (map run_of groups) v
joined_run [] v cut = refl
joined_run ([] ∷ []) v cut = absurd cut
joined_run ((first ∷ cells) ∷ []) v cut = either_run (goes_on (run_of (first ∷ cells)) v) first cells v
joined_run (cells ∷ next ∷ groups) v cut = ap (λ (runs : List Run). run_of cells ∷ runs) (joined_run (next ∷ groups) v cut.2)

runs_made : (groups : List (List VisibleCell)) (cells : List VisibleCell) → IsCut begins_run groups → fold with_cell (map run_of groups) cells ≡ map run_of (fold (joined begins_run) groups cells)
runs_made groups [] cut = refl
runs_made groups (v ∷ cells) cut =
    ap (λ runs. fold with_cell runs cells) (sym (joined_run groups v cut))
    ∙ runs_made (joined begins_run groups v) cells (cut_joined begins_run groups v cut)

pub runs_are_made : (cells : List VisibleCell) → fold with_cell [] cells ≡ runs_of cells
runs_are_made cells = runs_made [] cells tt

-- the runs after a cell that may not be wanted
pub wanted_next : (test : VisibleCell → Bool) (runs next : List Run) (v : VisibleCell) (cells : List VisibleCell)
    → next ≡ (if test v then with_cell runs v else runs) → fold with_cell next (filter test cells) ≡ fold with_cell runs (filter test (v ∷ cells))
wanted_next test runs next v cells is = by_test (test v) refl
  where
    by_test : (b : Bool) → test v ≡ b → fold with_cell next (filter test cells) ≡ fold with_cell runs (filter test (v ∷ cells))
    by_test true e = rw e (ap (λ rs. fold with_cell rs (filter test cells)) (is ∙ ap (λ b. if b then with_cell runs v else runs) e))
    by_test false e = rw e (ap (λ rs. fold with_cell rs (filter test cells)) (is ∙ ap (λ b. if b then with_cell runs v else runs) e))

-- a cell changes only the last run
pub with_cell_last : (runs : List Run) (last : Run) (v : VisibleCell) → with_cell (runs ++ last ∷ []) v ≡ runs ++ with_cell (last ∷ []) v
with_cell_last [] last v = refl
with_cell_last (run ∷ []) last v = refl
with_cell_last (run ∷ next ∷ runs) last v = ap (λ (rest : List Run). run ∷ rest) (with_cell_last (next ∷ runs) last v)

-- ---- the texts of the runs

texts_of_groups : (groups : List (List VisibleCell)) → flat_map (λ run. run.text) (map run_of groups) ≡ texts_joined (flat_map (λ g. g) groups)
texts_of_groups [] = refl
texts_of_groups (cells ∷ groups) =
    ap (λ (t : List ℕ). texts_joined cells ++ t) (texts_of_groups groups)
    ∙ sym (flat_map-append (λ (v : VisibleCell). v.cell.text) cells (flat_map (λ g. g) groups))

pub texts_of_runs : (cells : List VisibleCell) → flat_map (λ run. run.text) (runs_of cells) ≡ texts_joined cells
texts_of_runs cells = texts_of_groups (groups_by begins_run cells) ∙ ap texts_joined (groups_are_cut begins_run cells).whole

-- ---- the rendition of the cells

unless : (b : Bool) → not b ≡ false → b ≡ true
unless true e = refl
unless false e = sym e

-- cells that continue the run of a first cell have the run's attributes and width
rest_renders : (first : VisibleCell) (rest before cells : List VisibleCell) → GoOn begins_run (first ∷ before) cells → AllByRecursion (RendersAs (run_of (first ∷ rest))) cells
rest_renders first rest before [] h = tt
rest_renders first rest before (v ∷ cells) h =
    let alike = and_parts (same_attributes first.cell.attributes v.cell.attributes) (first.cell.width == v.cell.width) (unless (goes_on (run_of (first ∷ before)) v) h.0) in (
      record {
        attributes = sym ((same_attributes_decides first.cell.attributes v.cell.attributes).0 alike.0);
        width = sym (eqb-true first.cell.width v.cell.width alike.1);
      },
      rest_renders first rest (before ++ v ∷ []) cells h.1,
    )

group_renders : (group : List VisibleCell) → AreTogether begins_run group → AllByRecursion (RendersAs (run_of group)) group
group_renders [] h = absurd h
group_renders (first ∷ cells) h = (record { attributes = refl; width = refl }, rest_renders first cells [] cells h)

all_render : (groups : List (List VisibleCell)) → IsCut begins_run groups → AllByRecursion (λ group. AllByRecursion (RendersAs (run_of group)) group) groups
all_render [] h = tt
all_render (group ∷ []) h = (group_renders group h, tt)
all_render (group ∷ next ∷ groups) h = (group_renders group h.0, all_render (next ∷ groups) h.2)

pub cells_render_as_runs : (cells : List VisibleCell) → AllByRecursion (λ group. AllByRecursion (RendersAs (run_of group)) group) (groups_by begins_run cells)
cells_render_as_runs cells = all_render (groups_by begins_run cells) (groups_are_cut begins_run cells).cut
