-- Cells that are written one by one, and by runs.
use Rattle.std.proofs.Common.{◌≡◌, ℕ, ◌<◌, ◌∙◌, true, false, List, [], ◌∷◌, ◌++◌, length, map, refl, sym, ap, append_assoc, arith}
use Rattle.std.specs.Prelude.{fold, if◌then◌else◌}
use Rattle.std.proofs.lemmas.List.{append-nil}
use Rattle.std.proofs.lemmas.Bool.{false≢true}
use Rattle.text_clusters.specs.Plain.{each}
use Rattle.cell_base.specs.Attributes.{Attributes}
use Rattle.cell_base.specs.CellContent.{CellContent}
use Rattle.cell_base.specs.SameAttributes.{same_attributes, same_attributes_decides}
use Rattle.screen_change.specs.CellChanges.{attributes_due, runs_written, cells_written, last_pen}
use Rattle.screen_change.specs.CellRuns.{CellRun, before_runs, cell_runs}
use Rattle.screen_change.specs.ChangeValue.{ChangeValue, AllAttributes, Text}
use Rattle.screen_change.specs.Texts.{texts}
use Rattle.screen_change.specs.Written.{Written, begun, finished, with_change, with_attributes, with_cell, with_each}
use Rattle.screen_change.proofs.TextLemmas.{by_test, no_texts}

texts_of : List (List ℕ) → List ChangeValue
texts_of cells = map Text (texts cells)

-- ---- each test, by its answer

same_is : (a b : Attributes) → same_attributes a b ≡ true → a ≡ b
same_is a b e = (same_attributes_decides a b).0 e

is_same : (a b : Attributes) → a ≡ b → same_attributes a b ≡ true
is_same a b e = (same_attributes_decides a b).1 e

differ : (a b c : Attributes) → a ≡ b → same_attributes a c ≡ false → same_attributes c b ≡ false
differ a b c e d = by_test (same_attributes c b) (λ t. absurd (false≢true (sym d ∙ is_same a c (e ∙ sym (same_is c b t))))) (λ t. t)

due_none : (pen a : Attributes) → same_attributes a pen ≡ true → attributes_due pen a ≡ []
due_none pen a e = ap (λ t. if t then [] else AllAttributes a ∷ []) e

due_some : (pen a : Attributes) → same_attributes a pen ≡ false → attributes_due pen a ≡ AllAttributes a ∷ []
due_some pen a e = ap (λ t. if t then [] else AllAttributes a ∷ []) e

alone : CellContent → CellRun
alone cell = record { attributes = cell.attributes; cells = cell.text ∷ [] }

longer : CellContent → CellRun → CellRun
longer cell run = record run { cells = cell.text ∷ run.cells }

joins : (cell : CellContent) (run : CellRun) (runs : List CellRun) → same_attributes cell.attributes run.attributes ≡ true → before_runs cell (run ∷ runs) ≡ longer cell run ∷ runs
unfolding alone longer
joins cell run runs e = ap (λ t. if t then longer cell run ∷ runs else alone cell ∷ run ∷ runs) e

stands : (cell : CellContent) (run : CellRun) (runs : List CellRun) → same_attributes cell.attributes run.attributes ≡ false → before_runs cell (run ∷ runs) ≡ alone cell ∷ run ∷ runs
unfolding alone longer
stands cell run runs e = ap (λ t. if t then longer cell run ∷ runs else alone cell ∷ run ∷ runs) e

-- ---- runs after texts that are open

abbrev open_written : Attributes → List (List ℕ) → List CellRun → List ChangeValue
open_written pen cells [] = texts_of cells
open_written pen cells (run ∷ runs) =
    if same_attributes run.attributes pen then texts_of (cells ++ run.cells) ++ runs_written run.attributes runs
    else texts_of cells ++ runs_written pen (run ∷ runs)

open_joins : (pen : Attributes) (cells : List (List ℕ)) (run : CellRun) (runs : List CellRun) → same_attributes run.attributes pen ≡ true
    → open_written pen cells (run ∷ runs) ≡ texts_of (cells ++ run.cells) ++ runs_written run.attributes runs
open_joins pen cells run runs e = ap (λ t. if t then texts_of (cells ++ run.cells) ++ runs_written run.attributes runs else texts_of cells ++ runs_written pen (run ∷ runs)) e

open_stands : (pen : Attributes) (cells : List (List ℕ)) (run : CellRun) (runs : List CellRun) → same_attributes run.attributes pen ≡ false
    → open_written pen cells (run ∷ runs) ≡ texts_of cells ++ (AllAttributes run.attributes ∷ texts_of run.cells ++ runs_written run.attributes runs)
unfolding texts_of
open_stands pen cells run runs e =
    ap (λ t. if t then texts_of (cells ++ run.cells) ++ runs_written run.attributes runs else texts_of cells ++ runs_written pen (run ∷ runs)) e
    ∙ ap (λ (due : List ChangeValue). texts_of cells ++ (due ++ texts_of run.cells ++ runs_written run.attributes runs)) (due_some pen run.attributes e)

nothing_open : (pen : Attributes) (runs : List CellRun) → open_written pen [] runs ≡ runs_written pen runs
unfolding texts_of
nothing_open pen [] = ap (map Text) no_texts
nothing_open pen (run ∷ runs) =
    by_test (same_attributes run.attributes pen)
    (λ e. open_joins pen [] run runs e ∙ ap (λ (due : List ChangeValue). due ++ texts_of run.cells ++ runs_written run.attributes runs) (sym (due_none pen run.attributes e)))
    (λ e. ap (λ t. if t then texts_of run.cells ++ runs_written run.attributes runs else texts_of [] ++ runs_written pen (run ∷ runs)) e ∙ ap (λ (ts : List (List ℕ)). map Text ts ++ runs_written pen (run ∷ runs)) no_texts)

-- a cell with the pen's attributes joins the open texts
goes_on : (pen : Attributes) (cells : List (List ℕ)) (cell : CellContent) (runs : List CellRun) → same_attributes cell.attributes pen ≡ true
    → open_written pen (cells ++ cell.text ∷ []) runs ≡ open_written pen cells (before_runs cell runs)
unfolding alone longer
goes_on pen cells cell [] e = sym (open_joins pen cells (alone cell) [] e ∙ append-nil (texts_of (cells ++ cell.text ∷ [])))
goes_on pen cells cell (run ∷ runs) e =
    let is : cell.attributes ≡ pen = same_is cell.attributes pen e in
    by_test (same_attributes cell.attributes run.attributes)
    (λ t.
    let has : same_attributes run.attributes pen ≡ true = is_same run.attributes pen (sym (same_is cell.attributes run.attributes t) ∙ is) in
    open_joins pen (cells ++ cell.text ∷ []) run runs has
    ∙ ap (λ (ts : List (List ℕ)). texts_of ts ++ runs_written run.attributes runs) (append_assoc cells (cell.text ∷ []) run.cells)
    ∙ sym (ap (open_written pen cells) (joins cell run runs t) ∙ open_joins pen cells (longer cell run) runs has))
    (λ t.
    let hasn't : same_attributes run.attributes pen ≡ false = differ cell.attributes pen run.attributes is t in
    ap (λ b. if b then texts_of ((cells ++ cell.text ∷ []) ++ run.cells) ++ runs_written run.attributes runs else texts_of (cells ++ cell.text ∷ []) ++ runs_written pen (run ∷ runs)) hasn't
    ∙ ap (λ (p : Attributes). texts_of (cells ++ cell.text ∷ []) ++ runs_written p (run ∷ runs)) (sym is)
    ∙ sym (ap (open_written pen cells) (stands cell run runs t) ∙ open_joins pen cells (alone cell) (run ∷ runs) e))

-- a cell with other attributes begins a run
begins : (pen : Attributes) (cells : List (List ℕ)) (cell : CellContent) (runs : List CellRun) → same_attributes cell.attributes pen ≡ false
    → texts_of cells ++ (AllAttributes cell.attributes ∷ open_written cell.attributes (cell.text ∷ []) runs) ≡ open_written pen cells (before_runs cell runs)
unfolding alone longer
begins pen cells cell [] e =
    sym (open_stands pen cells (alone cell) [] e ∙ ap (λ (ts : List ChangeValue). texts_of cells ++ (AllAttributes cell.attributes ∷ ts)) (append-nil (texts_of (cell.text ∷ []))))
begins pen cells cell (run ∷ runs) e =
    by_test (same_attributes cell.attributes run.attributes)
    (λ t.
    let is : cell.attributes ≡ run.attributes = same_is cell.attributes run.attributes t in
    let hasn't : same_attributes run.attributes pen ≡ false = ap (λ (a : Attributes). same_attributes a pen) (sym is) ∙ e in
    ap (λ (ts : List ChangeValue). texts_of cells ++ (AllAttributes cell.attributes ∷ ts)) (open_joins cell.attributes (cell.text ∷ []) run runs (is_same run.attributes cell.attributes (sym is)))
    ∙ ap (λ (a : Attributes). texts_of cells ++ (AllAttributes a ∷ texts_of (cell.text ∷ run.cells) ++ runs_written run.attributes runs)) is
    ∙ sym (ap (open_written pen cells) (joins cell run runs t) ∙ open_stands pen cells (longer cell run) runs hasn't))
    (λ t.
    let other : same_attributes run.attributes cell.attributes ≡ false = differ cell.attributes cell.attributes run.attributes refl t in
    ap (λ b. texts_of cells ++ (AllAttributes cell.attributes ∷ (if b then texts_of (cell.text ∷ run.cells) ++ runs_written run.attributes runs else texts_of (cell.text ∷ []) ++ runs_written cell.attributes (run ∷ runs)))) other
    ∙ sym (ap (open_written pen cells) (stands cell run runs t) ∙ open_stands pen cells (alone cell) (run ∷ runs) e))

-- ---- all cells

all_written : (w : Written) (cells : List CellContent) → finished (fold (λ v cell. with_cell cell.text cell.attributes v) w cells) ≡ w.changes ++ open_written w.pen w.cells (cell_runs cells)
unfolding texts_of
all_written w [] = refl
all_written w (cell ∷ cells) =
    by_test (same_attributes cell.attributes w.pen)
    (λ e.
    ap (λ b. finished (fold (λ v c. with_cell c.text c.attributes v) (let next = if b then w else record { changes = finished w ++ AllAttributes cell.attributes ∷ []; pen = cell.attributes; cells = [] } in record next { cells = next.cells ++ cell.text ∷ [] }) cells)) e
    ∙ all_written (record w { cells = w.cells ++ cell.text ∷ [] }) cells
    ∙ ap (λ (cs : List ChangeValue). w.changes ++ cs) (goes_on w.pen w.cells cell (cell_runs cells) e))
    (λ e.
    ap (λ b. finished (fold (λ v c. with_cell c.text c.attributes v) (let next = if b then w else record { changes = finished w ++ AllAttributes cell.attributes ∷ []; pen = cell.attributes; cells = [] } in record next { cells = next.cells ++ cell.text ∷ [] }) cells)) e
    ∙ all_written (record { changes = finished w ++ AllAttributes cell.attributes ∷ []; pen = cell.attributes; cells = cell.text ∷ [] }) cells
    ∙ append_assoc (w.changes ++ texts_of w.cells) (AllAttributes cell.attributes ∷ []) (open_written cell.attributes (cell.text ∷ []) (cell_runs cells))
    ∙ append_assoc w.changes (texts_of w.cells) (AllAttributes cell.attributes ∷ open_written cell.attributes (cell.text ∷ []) (cell_runs cells))
    ∙ ap (λ (cs : List ChangeValue). w.changes ++ cs) (begins w.pen w.cells cell (cell_runs cells) e))

pub cells_are_written : (w : Written) (cells : List CellContent) → w.cells ≡ [] → finished (fold (λ v cell. with_cell cell.text cell.attributes v) w cells) ≡ w.changes ++ cells_written w.pen cells
cells_are_written w cells none =
    all_written w cells
    ∙ ap (λ (ts : List (List ℕ)). w.changes ++ open_written w.pen ts (cell_runs cells)) none
    ∙ ap (λ (cs : List ChangeValue). w.changes ++ cs) (nothing_open w.pen (cell_runs cells))

pub pen_is_after : (w : Written) (cells : List CellContent) → (fold (λ v cell. with_cell cell.text cell.attributes v) w cells).pen ≡ last_pen w.pen cells
pen_is_after w [] = refl
pen_is_after w (cell ∷ cells) =
    pen_is_after (with_cell cell.text cell.attributes w) cells
    ∙ by_test (same_attributes cell.attributes w.pen)
    (λ e. ap (λ b. last_pen (if b then w else record { changes = finished w ++ AllAttributes cell.attributes ∷ []; pen = cell.attributes; cells = [] }).pen cells) e ∙ ap (λ (p : Attributes). last_pen p cells) (sym (same_is cell.attributes w.pen e)))
    (λ e. ap (λ b. last_pen (if b then w else record { changes = finished w ++ AllAttributes cell.attributes ∷ []; pen = cell.attributes; cells = [] }).pen cells) e)

-- ---- a cell for each byte

pen_after : (a : Attributes) (w : Written) → (with_attributes a w).pen ≡ a
pen_after a w =
    by_test (same_attributes a w.pen)
    (λ e. ap (λ b. (if b then w else record { changes = finished w ++ AllAttributes a ∷ []; pen = a; cells = [] }).pen) e ∙ sym (same_is a w.pen e))
    (λ e. ap (λ b. (if b then w else record { changes = finished w ++ AllAttributes a ∷ []; pen = a; cells = [] }).pen) e)

same_pen : (a : Attributes) (w : Written) → w.pen ≡ a → with_attributes a w ≡ w
same_pen a w e = ap (λ b. if b then w else record { changes = finished w ++ AllAttributes a ∷ []; pen = a; cells = [] }) (is_same a w.pen (sym e))

more_each : (text : List ℕ) (a : Attributes) (w : Written) → w.pen ≡ a → with_each text a w ≡ record w { cells = w.cells ++ each text }
more_each [] a w e = ap (λ (cells : List (List ℕ)). record w { cells = cells }) (sym (append-nil w.cells))
more_each (byte ∷ text) a w e =
    ap (λ (next : Written). with_each text a (record next { cells = next.cells ++ (byte ∷ []) ∷ [] })) (same_pen a w e)
    ∙ more_each text a (record w { cells = w.cells ++ (byte ∷ []) ∷ [] }) e
    ∙ ap (λ (cells : List (List ℕ)). record w { cells = cells }) (append_assoc w.cells ((byte ∷ []) ∷ []) (each text))

-- the attributes, and then a cell for each byte
pub each_written : (text : List ℕ) (a : Attributes) (w : Written) → 0 < length text → (let next = with_attributes a w in record next { cells = next.cells ++ each text }) ≡ with_each text a w
each_written [] a w l = absurd (omega (arith, l))
each_written (byte ∷ text) a w l =
    let next = with_attributes a w in
    sym (more_each text a (record next { cells = next.cells ++ (byte ∷ []) ∷ [] }) (pen_after a w) ∙ ap (λ (cells : List (List ℕ)). record next { cells = cells }) (append_assoc next.cells ((byte ∷ []) ∷ []) (each text)))

-- ---- changes and attributes that are written

pub nothing_written : (pen : Attributes) → finished (begun pen) ≡ []
nothing_written pen = ap (map Text) no_texts

pub change_written : (change : ChangeValue) (w : Written) → finished (with_change change w) ≡ finished w ++ change ∷ []
change_written change w = ap (λ (ts : List (List ℕ)). (finished w ++ change ∷ []) ++ map Text ts) no_texts ∙ append-nil (finished w ++ change ∷ [])

pub attributes_written : (a : Attributes) (w : Written) → finished (with_attributes a w) ≡ finished w ++ attributes_due w.pen a
attributes_written a w =
    by_test (same_attributes a w.pen)
    (λ e.
    ap (λ b. finished (if b then w else record { changes = finished w ++ AllAttributes a ∷ []; pen = a; cells = [] })) e
    ∙ sym (append-nil (finished w))
    ∙ ap (λ (due : List ChangeValue). finished w ++ due) (sym (due_none w.pen a e)))
    (λ e.
    ap (λ b. finished (if b then w else record { changes = finished w ++ AllAttributes a ∷ []; pen = a; cells = [] })) e
    ∙ ap (λ (ts : List (List ℕ)). (finished w ++ AllAttributes a ∷ []) ++ map Text ts) no_texts
    ∙ append-nil (finished w ++ AllAttributes a ∷ [])
    ∙ ap (λ (due : List ChangeValue). finished w ++ due) (sym (due_some w.pen a e)))
