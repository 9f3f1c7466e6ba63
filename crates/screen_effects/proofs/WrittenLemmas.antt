-- Cells that are written side by side.
use Rattle.std.proofs.Common.{◌≡◌, ℕ, zero, suc, ◌+◌, ◌<◌, ◌≤◌, Bool, true, false, List, [], ◌∷◌, ◌++◌, length, get_or, drop, set, map, refl, sym, ap, subst, ◌∙◌, arith, append_assoc, append-nil, length-append}
use Rattle.std.specs.Prelude.{⊤, fold, ◌==◌, ◌&&◌, ◌||◌, nat_lt, nat_le, if◌then◌else◌}
use Rattle.std.specs.List.{flat_map, list_any, concat}
use Rattle.std.proofs.lemmas.Bool.{or_parts}
use Rattle.std.proofs.lemmas.List.{get_or-set_same}
use Rattle.std.proofs.lemmas.List.Folds.{list_any-append}
use Rattle.std.specs.Str.Lossy.{replacement_bytes}
use Rattle.std.specs.Char.{is_ascii_control}
use Rattle.text_clusters.proofs.PlainLemmas.{graphemes-nil}
use Rattle.std.proofs.lemmas.List.Sums.{fold-append}
use Rattle.std.proofs.lemmas.Bool.Decides.{nat_tests}
use Rattle.unicode_segmentation.specs.Grapheme.{graphemes}
use Rattle.cell_base.specs.declared.attributes.LineAttribute.TheVariants.{SingleWidthLine}
use Rattle.cell_base.specs.Attributes.{Attributes}
use Rattle.cell_base.specs.CellContent.{CellContent}
use Rattle.cell_base.specs.Cluster.{clusters, is_cluster, read_cluster}
use Rattle.cell_base.specs.Row.{Row, space, columns_of, set_columns}
use Rattle.cell_base.specs.Screen.{Screen, IsScreen, height, line_feed, carriage_return, cluster_columns, write_columns, put}
use Rattle.screen_change.specs.ChangeValue.{ChangeValue, Text, AllAttributes}
use Rattle.screen_change.specs.Texts.{texts, stay_independent}
use Rattle.screen_change.proofs.TextLemmas.{by_test, same_texts_are, one_text, each_text}
use Rattle.screen_effects.specs.Display.{Display, IsDisplay}
use Rattle.screen_effects.specs.Effect.{on_screen, with_pen, effect, replay}
use Rattle.screen_effects.proofs.EffectLaws.{effect_is, replay_is}
use Rattle.screen_effects.specs.Strokes.{Stroke, Cluster, TextPart, Control, Plain, with_byte, text_parts, part_strokes, stroke_done, text_done}
use Rattle.screen_effects.proofs.StrokeLaws.{whole_columns, stroke_is as stays_display}
use Rattle.cell_base.specs.WholeRow.{IsWhole}
use Rattle.cell_base.proofs.RowLemmas.{set_columns-again, whole-append}
use Rattle.cell_base.specs.SameAttributes.{same_attributes, same_attributes_decides}
use Rattle.screen_change.specs.CellRuns.{CellRun, before_runs, cell_runs}
use Rattle.screen_change.specs.CellChanges.{attributes_due, runs_written, cells_written, last_pen}
use Rattle.screen_effects.specs.WrittenCells.{IsCellText, IsSoundText, AreSound, joined_columns, with_cells}

-- ---- one cluster that fits

module _ (width_of : List ℕ → ℕ) where
  abbrev pub text_columns : Attributes → List ℕ → Row
  text_columns pen text = columns_of text (nat_le 2 (width_of text)) pen

  columns_count : (pen : Attributes) (text : List ℕ) → 0 < length (text_columns pen text)
  columns_count pen text = by_test (nat_le 2 (width_of text)) (λ e. rw e (omega arith)) (λ e. rw e (omega arith))

  -- a wide one needs two columns, and a narrow one has one on any screen
  cluster_is : (s : Screen) (text : List ℕ) → length (text_columns s.pen text) ≤ s.width → cluster_columns width_of s text ≡ text_columns s.pen text
  cluster_is s text fits =
      by_test (nat_le 2 (width_of text))
      (λ e.
      let two : 2 ≤ s.width = subst (λ b. length (columns_of text b s.pen) ≤ s.width) e fits in
      let one : (s.width == 1) ≡ false = grind (arith, nat_tests) in
      let more : nat_lt 1 s.width ≡ true = grind (arith, nat_tests) in
      (λ i. columns_of (if e i && one i then space else text) (e i && more i) s.pen) ∙ ap (λ b. columns_of text b s.pen) (sym e))
      (λ e. (λ i. columns_of (if e i && s.width == 1 then space else text) (e i && nat_lt 1 s.width) s.pen) ∙ ap (λ b. columns_of text b s.pen) (sym e))

  put_is : (s : Screen) (text : List ℕ) → s.column + length (text_columns s.pen text) ≤ s.width → put width_of s text ≡ write_columns (text_columns s.pen text) s
  put_is s text fits =
      let is = cluster_is s text (omega (arith, fits)) in
      let stays : nat_lt s.width (s.column + length (text_columns s.pen text)) ≡ false = grind (arith, nat_tests) in
      ap (λ (c : Row). write_columns c (if nat_lt s.width (s.column + length c) then carriage_return (line_feed s) else s)) is
      ∙ ap (λ b. write_columns (text_columns s.pen text) (if b then carriage_return (line_feed s) else s)) stays

  and_false : (b : Bool) → (b && false) ≡ false
  and_false true = refl
  and_false false = refl

  stroke_is : (d : Display) (text : List ℕ) → d.screen.column + length (text_columns d.screen.pen text) ≤ d.screen.width
      → stroke_done width_of d (Cluster text) ≡ on_screen (write_columns (text_columns d.screen.pen text)) d
  stroke_is d text fits =
      let s = d.screen in
      let is = cluster_is s text (omega (arith, fits)) in
      let stays : nat_lt s.width (s.column + length (text_columns s.pen text)) ≡ false = grind (arith, nat_tests) in
      let test : (s.row + 1 == height s && nat_lt s.width (s.column + length (cluster_columns width_of s text))) ≡ false =
      ap (λ (c : Row). s.row + 1 == height s && nat_lt s.width (s.column + length c)) is ∙ ap (λ b. s.row + 1 == height s && b) stays ∙ and_false (s.row + 1 == height s) in
      λ i. record d { screen = put_is s text fits i; sizes = if test i then drop 1 d.sizes ++ SingleWidthLine ∷ [] else d.sizes }

-- ---- columns after columns

set_set : {A : Type 0} (xs : List A) (i : ℕ) (x y : A) → set (set xs i x) i y ≡ set xs i y
set_set [] i x y = refl
set_set (z ∷ xs) zero x y = refl
set_set {A} (z ∷ xs) (suc i) x y = ap (λ (l : List A). z ∷ l) (set_set xs i x y)

-- writing columns, and then more after them, is writing them all at once
pub write_again : (s : Screen) (a b : Row) → IsScreen s → IsWhole a → s.column + length a ≤ s.width → write_columns b (write_columns a s) ≡ write_columns (a ++ b) s
write_again s a b h p fits =
    let row : Row = get_or s.rows s.row [] in
    let wide : length row ≡ s.width = h.even s.row [] h.row_in in
    let first : Row = set_columns row s.column a in
    let was : get_or (set s.rows s.row first) s.row [] ≡ first = get_or-set_same s.rows s.row first [] h.row_in in
    let both : set_columns first (s.column + length a) b ≡ set_columns row s.column (a ++ b) = set_columns-again row s.column a b (omega arith) p in
    let rows : set (set s.rows s.row first) s.row (set_columns (get_or (set s.rows s.row first) s.row []) (s.column + length a) b) ≡ set s.rows s.row (set_columns row s.column (a ++ b)) =
    set_set s.rows s.row first (set_columns (get_or (set s.rows s.row first) s.row []) (s.column + length a) b)
    ∙ ap (λ (r : Row). set s.rows s.row (set_columns r (s.column + length a) b)) was
    ∙ ap (λ (r : Row). set s.rows s.row r) both in
    let count : s.column + length a + length b ≡ s.column + length (a ++ b) = omega (arith, length-append a b) in
    λ i. record s { rows = rows i; column = count i }

-- ---- texts

abbrev pub AreTexts : List (List ℕ) → Type 0
AreTexts [] = ⊤
AreTexts (text ∷ texts) = IsCellText text × AreTexts texts

plain_parts : (byte : ℕ) (text : List ℕ) → list_any is_ascii_control (byte ∷ text) ≡ false → text_parts (byte ∷ text) ≡ Plain (byte ∷ text) ∷ []
plain_parts byte [] e = ap (λ b. if b then Control byte ∷ [] else with_byte byte []) (or_parts (is_ascii_control byte) false e).0
plain_parts byte (next ∷ text) e =
    let parts = or_parts (is_ascii_control byte) (list_any is_ascii_control (next ∷ text)) e in
    ap (λ b. if b then Control byte ∷ text_parts (next ∷ text) else with_byte byte (text_parts (next ∷ text))) parts.0
    ∙ ap (with_byte byte) (plain_parts next text parts.1)

read_again : (ts : List (List ℕ)) → AreTexts ts → map read_cluster ts ≡ ts
read_again [] p = refl
read_again (t ∷ ts) p =
    let one : is_cluster t ≡ true = ap (λ (g : List (List ℕ)). length g == 1) p.0.alone in
    (λ i. (if one i then t else replacement_bytes) ∷ read_again ts p.1 i)

-- ---- runs, and the pen after them

pub joined : (cell : CellContent) (run : CellRun) (runs : List CellRun) → same_attributes cell.attributes run.attributes ≡ true → before_runs cell (run ∷ runs) ≡ record run { cells = cell.text ∷ run.cells } ∷ runs
joined cell run runs e = ap (λ b. if b then record run { cells = cell.text ∷ run.cells } ∷ runs else record { attributes = cell.attributes; cells = cell.text ∷ [] } ∷ run ∷ runs) e

pub stands : (cell : CellContent) (run : CellRun) (runs : List CellRun) → same_attributes cell.attributes run.attributes ≡ false → before_runs cell (run ∷ runs) ≡ record { attributes = cell.attributes; cells = cell.text ∷ [] } ∷ run ∷ runs
stands cell run runs e = ap (λ b. if b then record run { cells = cell.text ∷ run.cells } ∷ runs else record { attributes = cell.attributes; cells = cell.text ∷ [] } ∷ run ∷ runs) e

abbrev pub runs_pen : Attributes → List CellRun → Attributes
runs_pen pen runs = fold (λ _ run. run.attributes) pen runs

before_pen : (cell : CellContent) (runs : List CellRun) (pen : Attributes) → runs_pen pen (before_runs cell runs) ≡ runs_pen cell.attributes runs
before_pen cell [] pen = refl
before_pen cell (run ∷ runs) pen =
    by_test (same_attributes cell.attributes run.attributes)
    (λ e. ap (runs_pen pen) (joined cell run runs e))
    (λ e. ap (runs_pen pen) (stands cell run runs e))

pub pen_is : (cells : List CellContent) (pen : Attributes) → runs_pen pen (cell_runs cells) ≡ last_pen pen cells
pen_is [] pen = refl
pen_is (cell ∷ cells) pen = before_pen cell (cell_runs cells) pen ∙ pen_is cells cell.attributes

module _ (width_of : List ℕ → ℕ) where
  abbrev pub row_of_texts : Attributes → List (List ℕ) → Row
  row_of_texts pen ts = flat_map (text_columns width_of pen) ts

  clusters_are : (t : List ℕ) (ts : List (List ℕ)) (d : Display) → IsDisplay d → d.screen.column + length (row_of_texts d.screen.pen (t ∷ ts)) ≤ d.screen.width
      → fold (stroke_done width_of) d (map Cluster (t ∷ ts)) ≡ on_screen (write_columns (row_of_texts d.screen.pen (t ∷ ts))) d
  clusters_are t [] d h fits =
      let whole = append-nil (text_columns width_of d.screen.pen t) in
      stroke_is width_of d t (subst (λ (r : Row). d.screen.column + length r ≤ d.screen.width) whole fits) ∙ ap (λ (r : Row). on_screen (write_columns r) d) (sym whole)
  clusters_are t (u ∷ ts) d h fits =
      let first : Row = text_columns width_of d.screen.pen t in
      let rest : Row = row_of_texts d.screen.pen (u ∷ ts) in
      let count : length (first ++ rest) ≡ length first + length rest = length-append first rest in
      let one : stroke_done width_of d (Cluster t) ≡ on_screen (write_columns first) d = stroke_is width_of d t (omega (arith, fits, count)) in
      let lawful : IsDisplay (on_screen (write_columns first) d) = subst IsDisplay one (stays_display width_of d (Cluster t) h) in
      ap (λ (e : Display). fold (stroke_done width_of) e (map Cluster (u ∷ ts))) one
      ∙ clusters_are u ts (on_screen (write_columns first) d) lawful (omega (arith, fits, count))
      ∙ ap (λ (s : Screen). record d { screen = s }) (write_again d.screen first rest h.lawful (whole_columns t (nat_le 2 (width_of t)) d.screen.pen) (omega (arith, fits, count)))

  text_is : (t : List ℕ) (ts : List (List ℕ)) (d : Display) → graphemes true t ≡ ts → AreTexts ts → list_any is_ascii_control t ≡ false → text_done width_of d t ≡ fold (stroke_done width_of) d (map Cluster ts)
  text_is [] ts d e p n = ap (λ (cs : List (List ℕ)). fold (stroke_done width_of) d (map Cluster cs)) (sym graphemes-nil ∙ e)
  text_is (byte ∷ t) ts d e p n =
      ap (λ (parts : List TextPart). fold (stroke_done width_of) d (flat_map part_strokes parts)) (plain_parts byte t n)
      ∙ ap (λ (ss : List Stroke). fold (stroke_done width_of) d ss) (append-nil (map Cluster (clusters (byte ∷ t))))
      ∙ ap (λ (cs : List (List ℕ)). fold (stroke_done width_of) d (map Cluster (map read_cluster cs))) e
      ∙ ap (λ (cs : List (List ℕ)). fold (stroke_done width_of) d (map Cluster cs)) (read_again ts p)

  each_is : (ts : List (List ℕ)) (d : Display) → AreTexts ts → replay width_of d (map Text ts) ≡ fold (stroke_done width_of) d (map Cluster ts)
  each_is [] d p = refl
  each_is (t ∷ ts) d p =
      ap (λ (e : Display). replay width_of e (map Text ts)) (text_is t (t ∷ []) d p.0.alone (p.0, tt) p.0.printed)
      ∙ each_is ts (stroke_done width_of d (Cluster t)) p.1

  none_joined : (ts : List (List ℕ)) → AreTexts ts → list_any is_ascii_control (concat ts) ≡ false
  none_joined [] p = refl
  none_joined (t ∷ ts) p = list_any-append is_ascii_control t (concat ts) ∙ (λ i. p.0.printed i || none_joined ts p.1 i)

  pub texts_replayed : (t : List ℕ) (ts : List (List ℕ)) (d : Display) → AreTexts (t ∷ ts) → replay width_of d (map Text (texts (t ∷ ts))) ≡ fold (stroke_done width_of) d (map Cluster (t ∷ ts))
  texts_replayed t ts d p =
      by_test (stay_independent (t ∷ ts))
      (λ e.
      ap (λ (all : List (List ℕ)). replay width_of d (map Text all)) (one_text t ts e)
      ∙ text_is (concat (t ∷ ts)) (t ∷ ts) d (same_texts_are (graphemes true (concat (t ∷ ts))) (t ∷ ts) e) p (none_joined (t ∷ ts) p))
      (λ e.
      ap (λ (all : List (List ℕ)). replay width_of d (map Text all)) (each_text t ts e)
      ∙ each_is (t ∷ ts) d p)

  -- ---- runs of equal attributes

  pen_lawful : (s : Screen) (a : Attributes) → IsScreen s → IsScreen (with_pen a s)
  pen_lawful s a h = record { wide_enough = h.wide_enough; even = h.even; column_in = h.column_in; row_in = h.row_in }

  pub texts_whole : (pen : Attributes) (ts : List (List ℕ)) → IsWhole (row_of_texts pen ts)
  texts_whole pen [] = tt
  texts_whole pen (t ∷ ts) = whole-append (text_columns width_of pen t) (row_of_texts pen ts) (whole_columns t (nat_le 2 (width_of t)) pen) (texts_whole pen ts)

  abbrev pub run_row : CellRun → Row
  run_row run = row_of_texts run.attributes run.cells

  abbrev runs_row : List CellRun → Row
  runs_row runs = flat_map run_row runs

  abbrev pub IsRun : List (List ℕ) → Type 0
  IsRun [] = ⊥
  IsRun (t ∷ ts) = AreTexts (t ∷ ts)

  abbrev AreRuns : List CellRun → Type 0
  AreRuns [] = ⊤
  AreRuns (run ∷ runs) = IsRun run.cells × AreRuns runs

  pub due_replayed : (a : Attributes) (d : Display) → replay width_of d (attributes_due d.screen.pen a) ≡ on_screen (with_pen a) d
  due_replayed a d =
      by_test (same_attributes a d.screen.pen)
      (λ e.
      ap (λ b. replay width_of d (if b then [] else AllAttributes a ∷ [])) e
      ∙ ap (λ (p : Attributes). on_screen (with_pen p) d) (sym ((same_attributes_decides a d.screen.pen).0 e)))
      (λ e. ap (λ b. replay width_of d (if b then [] else AllAttributes a ∷ [])) e)

  pub one_run : (a : Attributes) (ts : List (List ℕ)) (d : Display) → IsDisplay d → IsRun ts → d.screen.column + length (row_of_texts a ts) ≤ d.screen.width
      → replay width_of d (attributes_due d.screen.pen a ++ map Text (texts ts)) ≡ on_screen (λ s. with_pen a (write_columns (row_of_texts a ts) s)) d
  one_run a [] d h p fits = absurd p
  one_run a (t ∷ ts) d h p fits =
      let pen : Display = on_screen (with_pen a) d in
      fold-append (effect width_of) d (attributes_due d.screen.pen a) (map Text (texts (t ∷ ts)))
      ∙ ap (λ (e : Display). replay width_of e (map Text (texts (t ∷ ts)))) (due_replayed a d)
      ∙ texts_replayed t ts pen p
      ∙ clusters_are t ts pen (effect_is width_of d (AllAttributes a) h) fits

  runs_are : (runs : List CellRun) (run : CellRun) (d : Display) → IsDisplay d → AreRuns (run ∷ runs) → d.screen.column + length (runs_row (run ∷ runs)) ≤ d.screen.width
      → replay width_of d (runs_written d.screen.pen (run ∷ runs)) ≡ on_screen (λ s. with_pen (runs_pen s.pen (run ∷ runs)) (write_columns (runs_row (run ∷ runs)) s)) d
  runs_are [] run d h p fits =
      let whole : run_row run ++ [] ≡ run_row run = append-nil (run_row run) in
      ap (λ (cs : List ChangeValue). replay width_of d cs) (append-nil (attributes_due d.screen.pen run.attributes ++ map Text (texts run.cells)))
      ∙ one_run run.attributes run.cells d h p.0 (subst (λ (r : Row). d.screen.column + length r ≤ d.screen.width) whole fits)
      ∙ ap (λ (r : Row). on_screen (λ s. with_pen run.attributes (write_columns r s)) d) (sym whole)
  runs_are (other ∷ runs) run d h p fits =
      let first : Row = run_row run in
      let rest : Row = runs_row (other ∷ runs) in
      let count : length (first ++ rest) ≡ length first + length rest = length-append first rest in
      let own : List ChangeValue = attributes_due d.screen.pen run.attributes ++ map Text (texts run.cells) in
      let remaining : List ChangeValue = runs_written run.attributes (other ∷ runs) in
      let next : Display = on_screen (λ s. with_pen run.attributes (write_columns first s)) d in
      let one : replay width_of d own ≡ next = one_run run.attributes run.cells d h p.0 (omega (arith, fits, count)) in
      let lawful : IsDisplay next = subst IsDisplay one (replay_is width_of own d h) in
      fold-append (effect width_of) d own remaining
      ∙ ap (λ (e : Display). replay width_of e remaining) one
      ∙ runs_are runs other next lawful p.1 (omega (arith, fits, count))
      ∙ ap (λ (s : Screen). record d { screen = with_pen (runs_pen run.attributes (other ∷ runs)) s }) (write_again (with_pen run.attributes d.screen) first rest (pen_lawful d.screen run.attributes h.lawful) (texts_whole run.attributes run.cells) (omega (arith, fits, count)))

  -- ---- cells in runs

  cell_row : (cell : CellContent) → IsSoundText width_of cell.text (nat_le 2 cell.width) → text_columns width_of cell.attributes cell.text ≡ columns_of cell.text (nat_le 2 cell.width) cell.attributes
  cell_row cell p = ap (λ b. columns_of cell.text b cell.attributes) p.width

  longer : (cells : List (List ℕ)) (text : List ℕ) → IsCellText text → IsRun cells → IsRun (text ∷ cells)
  longer [] text p q = absurd q
  longer (t ∷ ts) text p q = (p, q)

  before_lawful : (cell : CellContent) (runs : List CellRun) → IsCellText cell.text → AreRuns runs → AreRuns (before_runs cell runs)
  before_lawful cell [] p q = ((p, tt), tt)
  before_lawful cell (run ∷ runs) p q =
      by_test (same_attributes cell.attributes run.attributes)
      (λ e. subst AreRuns (sym (joined cell run runs e)) (longer run.cells cell.text p q.0, q.1))
      (λ e. subst AreRuns (sym (stands cell run runs e)) ((p, tt), q))

  before_row : (cell : CellContent) (runs : List CellRun) → IsSoundText width_of cell.text (nat_le 2 cell.width) → runs_row (before_runs cell runs) ≡ columns_of cell.text (nat_le 2 cell.width) cell.attributes ++ runs_row runs
  before_row cell [] p = ap (λ (r : Row). r ++ []) (append-nil (text_columns width_of cell.attributes cell.text) ∙ cell_row cell p)
  before_row cell (run ∷ runs) p =
      by_test (same_attributes cell.attributes run.attributes)
      (λ e.
      let is : cell.attributes ≡ run.attributes = (same_attributes_decides cell.attributes run.attributes).0 e in
      ap runs_row (joined cell run runs e)
      ∙ append_assoc (text_columns width_of run.attributes cell.text) (run_row run) (runs_row runs)
      ∙ ap (λ (a : Attributes). text_columns width_of a cell.text ++ runs_row (run ∷ runs)) (sym is)
      ∙ ap (λ (r : Row). r ++ runs_row (run ∷ runs)) (cell_row cell p))
      (λ e.
      ap runs_row (stands cell run runs e)
      ∙ ap (λ (r : Row). r ++ runs_row (run ∷ runs)) (append-nil (text_columns width_of cell.attributes cell.text) ∙ cell_row cell p))

  runs_lawful : (cells : List CellContent) → AreSound width_of cells → AreRuns (cell_runs cells)
  runs_lawful [] p = tt
  runs_lawful (cell ∷ cells) p = before_lawful cell (cell_runs cells) p.0.stands (runs_lawful cells p.1)

  row_is : (cells : List CellContent) → AreSound width_of cells → runs_row (cell_runs cells) ≡ joined_columns cells
  row_is [] p = refl
  row_is (cell ∷ cells) p = before_row cell (cell_runs cells) p.0 ∙ ap (λ (r : Row). columns_of cell.text (nat_le 2 cell.width) cell.attributes ++ r) (row_is cells p.1)

  some_runs : (runs : List CellRun) (d : Display) → IsDisplay d → AreRuns runs → 0 < length runs → d.screen.column + length (runs_row runs) ≤ d.screen.width
      → replay width_of d (runs_written d.screen.pen runs) ≡ on_screen (λ s. with_pen (runs_pen s.pen runs) (write_columns (runs_row runs) s)) d
  some_runs [] d h p n fits = absurd (omega (arith, n))
  some_runs (run ∷ runs) d h p n fits = runs_are runs run d h p fits

  some_before : (cell : CellContent) (runs : List CellRun) → 0 < length (before_runs cell runs)
  some_before cell [] = omega arith
  some_before cell (run ∷ runs) =
      by_test (same_attributes cell.attributes run.attributes)
      (λ e. subst (λ (rs : List CellRun). 0 < length rs) (sym (joined cell run runs e)) (omega arith))
      (λ e. subst (λ (rs : List CellRun). 0 < length rs) (sym (stands cell run runs e)) (omega arith))

  some_cells : (cells : List CellContent) → 0 < length cells → 0 < length (cell_runs cells)
  some_cells [] n = absurd (omega (arith, n))
  some_cells (cell ∷ cells) n = some_before cell (cell_runs cells)

  pub written_is : (d : Display) (cells : List CellContent) → IsDisplay d → AreSound width_of cells → 0 < length cells → d.screen.column + length (joined_columns cells) ≤ d.screen.width
      → replay width_of d (cells_written d.screen.pen cells) ≡ with_cells cells d
  written_is d cells h p n fits =
      let row : runs_row (cell_runs cells) ≡ joined_columns cells = row_is cells p in
      some_runs (cell_runs cells) d h (runs_lawful cells p) (some_cells cells n) (subst (λ (r : Row). d.screen.column + length r ≤ d.screen.width) (sym row) fits)
      ∙ (λ i. on_screen (λ s. with_pen (pen_is cells d.screen.pen i) (write_columns (row i) s)) d)

pub written_are_shown : (width_of : List ℕ → ℕ) (d : Display) (cells : List CellContent) → IsDisplay d → AreSound width_of cells → 0 < length cells → d.screen.column + length (joined_columns cells) ≤ d.screen.width
    → replay width_of d (cells_written d.screen.pen cells) ≡ with_cells cells d
written_are_shown width_of = written_is width_of
