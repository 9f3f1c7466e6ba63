-- The clusters of the texts of a difference.
use Rattle.std.proofs.Common.{◌≡◌, ℕ, ◌+◌, ◌∙◌, true, List, [], ◌∷◌, ◌++◌, map, get_or, drop, Option, Some, None, refl, sym, ap, subst}
use Rattle.std.specs.Prelude.{⊤, ◌==◌, ◌&&◌, if◌then◌else◌}
use Rattle.std.specs.List.{flat_map}
use Rattle.std.proofs.lemmas.List.Concat.{flat_map-append}
use Rattle.unicode_segmentation.specs.Grapheme.{graphemes}
use Rattle.cell_base.specs.Attributes.{Attributes}
use Rattle.cell_base.specs.CellContent.{CellContent}
use Rattle.cell_base.specs.SameAttributes.{same_attributes}
use Rattle.screen_change.specs.CellChanges.{attributes_due, runs_written, cells_written, last_pen}
use Rattle.screen_change.specs.CellRuns.{CellRun, before_runs, cell_runs}
use Rattle.screen_change.specs.ChangeValue.{ChangeValue, AllAttributes, Text}
use Rattle.screen_change.specs.Texts.{texts}
use Rattle.screen_change.proofs.TextLemmas.{by_test, clusters_of_texts}
use Rattle.screen_difference.specs.Difference.{Stretch, cells_of, alone, longer, before_stretches, stretches, stretch_written, stretches_written, difference}
use Rattle.screen_difference.specs.DrawnCells.{HavePositions, clusters_of, printed}
use Rattle.screen_difference.specs.FreshCells.{PlacedCell}

-- ---- texts that are each one cluster

abbrev Alone : List (List ℕ) → Type 0
Alone [] = ⊤
Alone (t ∷ ts) = (graphemes true t ≡ t ∷ []) × Alone ts

alone_maps : (ts : List (List ℕ)) → Alone ts → map (graphemes true) ts ≡ map (λ t. t ∷ []) ts
alone_maps [] p = refl
alone_maps (t ∷ ts) p = λ i. p.0 i ∷ alone_maps ts p.1 i

maps_alone : (ts : List (List ℕ)) → map (graphemes true) ts ≡ map (λ t. t ∷ []) ts → Alone ts
maps_alone [] e = tt
maps_alone (t ∷ ts) e = (ap (λ (xs : List (List (List ℕ))). get_or xs 0 []) e, maps_alone ts (ap (λ (xs : List (List (List ℕ))). drop 1 xs) e))

printed_texts : (ts : List (List ℕ)) → printed (map Text ts) ≡ flat_map (graphemes true) ts
printed_texts [] = refl
printed_texts (t ∷ ts) = ap (λ (cs : List (List ℕ)). graphemes true t ++ cs) (printed_texts ts)

printed_cells : (ts : List (List ℕ)) → Alone ts → printed (map Text (texts ts)) ≡ ts
printed_cells ts p = printed_texts (texts ts) ∙ clusters_of_texts ts (alone_maps ts p)

-- ---- runs

cells_of_runs : List CellRun → List (List ℕ)
cells_of_runs runs = flat_map (λ run. run.cells) runs

abbrev AreAlone : List CellRun → Type 0
AreAlone [] = ⊤
AreAlone (run ∷ runs) = Alone run.cells × AreAlone runs

printed_due : (pen a : Attributes) → printed (attributes_due pen a) ≡ []
printed_due pen a = by_test (same_attributes a pen) (λ e. ap (λ b. printed (if b then [] else AllAttributes a ∷ [])) e) (λ e. ap (λ b. printed (if b then [] else AllAttributes a ∷ [])) e)

printed_runs : (pen : Attributes) (runs : List CellRun) → AreAlone runs → printed (runs_written pen runs) ≡ cells_of_runs runs
unfolding cells_of_runs
printed_runs pen [] p = refl
printed_runs pen (run ∷ runs) p =
    let due : List ChangeValue = attributes_due pen run.attributes in
    let own : List ChangeValue = map Text (texts run.cells) in
    let rest : List ChangeValue = runs_written run.attributes runs in
    flat_map-append clusters_of (due ++ own) rest
    ∙ ap (λ (cs : List (List ℕ)). cs ++ printed rest) (flat_map-append clusters_of due own)
    ∙ (λ i. (printed_due pen run.attributes i ++ printed_cells run.cells p.0 i) ++ printed_runs run.attributes runs p.1 i)

before_cells : (cell : CellContent) (runs : List CellRun) → cells_of_runs (before_runs cell runs) ≡ cell.text ∷ cells_of_runs runs
unfolding cells_of_runs
before_cells cell [] = refl
before_cells cell (run ∷ runs) =
    by_test (same_attributes cell.attributes run.attributes)
    (λ e. ap (λ b. cells_of_runs (if b then record run { cells = cell.text ∷ run.cells } ∷ runs else record { attributes = cell.attributes; cells = cell.text ∷ [] } ∷ run ∷ runs)) e)
    (λ e. ap (λ b. cells_of_runs (if b then record run { cells = cell.text ∷ run.cells } ∷ runs else record { attributes = cell.attributes; cells = cell.text ∷ [] } ∷ run ∷ runs)) e)

before_alone : (cell : CellContent) (runs : List CellRun) → (graphemes true cell.text ≡ cell.text ∷ []) → AreAlone runs → AreAlone (before_runs cell runs)
before_alone cell [] p q = ((p, tt), tt)
before_alone cell (run ∷ runs) p q =
    by_test (same_attributes cell.attributes run.attributes)
    (λ e. subst AreAlone (sym (ap (λ b. if b then record run { cells = cell.text ∷ run.cells } ∷ runs else record { attributes = cell.attributes; cells = cell.text ∷ [] } ∷ run ∷ runs) e)) ((p, q.0), q.1))
    (λ e. subst AreAlone (sym (ap (λ b. if b then record run { cells = cell.text ∷ run.cells } ∷ runs else record { attributes = cell.attributes; cells = cell.text ∷ [] } ∷ run ∷ runs) e)) ((p, tt), q))

runs_alone : (cells : List CellContent) → Alone (map (λ c. c.text) cells) → AreAlone (cell_runs cells)
runs_alone [] p = tt
runs_alone (cell ∷ cells) p = before_alone cell (cell_runs cells) p.0 (runs_alone cells p.1)

runs_cells : (cells : List CellContent) → cells_of_runs (cell_runs cells) ≡ map (λ c. c.text) cells
unfolding cells_of_runs
runs_cells [] = refl
runs_cells (cell ∷ cells) = before_cells cell (cell_runs cells) ∙ ap (λ (cs : List (List ℕ)). cell.text ∷ cs) (runs_cells cells)

printed_written : (pen : Attributes) (cells : List CellContent) → Alone (map (λ c. c.text) cells) → printed (cells_written pen cells) ≡ map (λ c. c.text) cells
printed_written pen cells p = printed_runs pen (cell_runs cells) (runs_alone cells p) ∙ runs_cells cells

-- ---- stretches

texts_of : Stretch → List (List ℕ)
texts_of s = map (λ c. c.text) (cells_of s)

cells_of_stretches : List Stretch → List (List ℕ)
cells_of_stretches ss = flat_map texts_of ss

abbrev AllAlone : List Stretch → Type 0
AllAlone [] = ⊤
AllAlone (s ∷ ss) = Alone (map (λ c. c.text) (cells_of s)) × AllAlone ss

printed_stretch : (pen : Option Attributes) (s : Stretch) → Alone (map (λ c. c.text) (cells_of s)) → printed (stretch_written pen s) ≡ texts_of s
unfolding texts_of
printed_stretch None s p = printed_written s.first.attributes (cells_of s) p
printed_stretch (Some pen) s p = printed_written pen (cells_of s) p

printed_stretches : (pen : Option Attributes) (ss : List Stretch) → AllAlone ss → printed (stretches_written pen ss) ≡ cells_of_stretches ss
unfolding cells_of_stretches
printed_stretches pen [] p = refl
printed_stretches pen (s ∷ ss) p =
    let after : Option Attributes = Some (last_pen s.first.attributes s.remaining) in
    flat_map-append clusters_of (stretch_written pen s) (stretches_written after ss) ∙ (λ i. printed_stretch pen s p.0 i ++ printed_stretches after ss p.1 i)

before_texts : (c : PlacedCell) (ss : List Stretch) → cells_of_stretches (before_stretches c ss) ≡ c.cell.text ∷ cells_of_stretches ss
unfolding cells_of_stretches texts_of
before_texts c [] = refl
before_texts c (s ∷ ss) =
    by_test (c.row == s.row && c.column + c.cell.width == s.column)
    (λ e. ap (λ b. cells_of_stretches (if b then longer c s ∷ ss else alone c ∷ s ∷ ss)) e)
    (λ e. ap (λ b. cells_of_stretches (if b then longer c s ∷ ss else alone c ∷ s ∷ ss)) e)

before_all : (c : PlacedCell) (ss : List Stretch) → (graphemes true c.cell.text ≡ c.cell.text ∷ []) → AllAlone ss → AllAlone (before_stretches c ss)
before_all c [] p q = ((p, tt), tt)
before_all c (s ∷ ss) p q =
    by_test (c.row == s.row && c.column + c.cell.width == s.column)
    (λ e. subst AllAlone (sym (ap (λ b. if b then longer c s ∷ ss else alone c ∷ s ∷ ss) e)) ((p, q.0), q.1))
    (λ e. subst AllAlone (sym (ap (λ b. if b then longer c s ∷ ss else alone c ∷ s ∷ ss) e)) ((p, tt), q))

stretches_alone : (cells : List PlacedCell) → Alone (map (λ c. c.cell.text) cells) → AllAlone (stretches cells)
stretches_alone [] p = tt
stretches_alone (c ∷ cells) p = before_all c (stretches cells) p.0 (stretches_alone cells p.1)

stretches_texts : (cells : List PlacedCell) → cells_of_stretches (stretches cells) ≡ map (λ c. c.cell.text) cells
unfolding cells_of_stretches
stretches_texts [] = refl
stretches_texts (c ∷ cells) = before_texts c (stretches cells) ∙ ap (λ (cs : List (List ℕ)). c.cell.text ∷ cs) (stretches_texts cells)

printed_difference : (cells : List PlacedCell) → Alone (map (λ c. c.cell.text) cells) → printed (difference cells) ≡ map (λ c. c.cell.text) cells
printed_difference cells p = printed_stretches None (stretches cells) (stretches_alone cells p) ∙ stretches_texts cells

pub printed_are_cells : (cells : List PlacedCell) → map (graphemes true) (map (λ c. c.cell.text) cells) ≡ map (λ text. text ∷ []) (map (λ c. c.cell.text) cells) → printed (difference cells) ≡ map (λ c. c.cell.text) cells
printed_are_cells cells e = printed_difference cells (maps_alone (map (λ c. c.cell.text) cells) e)

positions_alone : (width_of : List ℕ → ℕ) (width rows : ℕ) (cells : List PlacedCell) → HavePositions width_of width rows cells → Alone (map (λ c. c.cell.text) cells)
positions_alone width_of width rows [] p = tt
positions_alone width_of width rows (c ∷ cells) p = (p.0.sound.stands.alone, positions_alone width_of width rows cells p.1)

pub placed_are_printed : (width_of : List ℕ → ℕ) (width rows : ℕ) (cells : List PlacedCell) → HavePositions width_of width rows cells → printed (difference cells) ≡ map (λ c. c.cell.text) cells
placed_are_printed width_of width rows cells p = printed_difference cells (positions_alone width_of width rows cells p)
