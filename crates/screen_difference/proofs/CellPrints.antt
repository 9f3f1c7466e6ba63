-- The texts that cells print if they are written side by side.
use Rattle.std.proofs.Common.{◌≡◌, ℕ, ◌+◌, ◌≤◌, ◌∙◌, Bool, true, false, List, [], ◌∷◌, ◌++◌, length, get_or, set, map, refl, sym, ap, subst, arith, append-nil, length-set}
use Rattle.std.specs.Prelude.{◌==◌, ◌&&◌, ◌||◌, nat_lt, nat_le, fold, if◌then◌else◌}
use Rattle.std.specs.List.{concat, flat_map, list_any}
use Rattle.std.specs.Str.Lossy.{replacement_bytes}
use Rattle.std.specs.Char.{is_ascii_control}
use Rattle.std.proofs.lemmas.Bool.{or_parts}
use Rattle.std.proofs.lemmas.Bool.Decides.{nat_tests}
use Rattle.std.proofs.lemmas.List.Folds.{list_any-append}
use Rattle.unicode_segmentation.specs.Grapheme.{graphemes}
use Rattle.text_clusters.proofs.PlainLemmas.{graphemes-nil}
use Rattle.cell_base.specs.Attributes.{Attributes}
use Rattle.cell_base.specs.CellContent.{CellContent}
use Rattle.cell_base.specs.Cluster.{clusters, is_cluster, read_cluster}
use Rattle.cell_base.specs.Row.{Row, space, columns_of, set_columns}
use Rattle.cell_base.specs.SameAttributes.{same_attributes, same_attributes_decides}
use Rattle.cell_base.specs.Screen.{Screen, height, line_feed, carriage_return, cluster_columns, write_columns, put}
use Rattle.screen_change.specs.CellChanges.{attributes_due, cells_written, last_pen, runs_written}
use Rattle.screen_change.specs.CellRuns.{CellRun, before_runs, cell_runs}
use Rattle.screen_change.specs.ChangeValue.{ChangeValue, AllAttributes, Text}
use Rattle.screen_change.specs.Texts.{stay_independent, texts}
use Rattle.screen_change.proofs.TextLemmas.{by_test, each_text, no_texts, one_text, same_texts_are}
use Rattle.screen_effects.specs.Display.{Display}
use Rattle.screen_effects.specs.Strokes.{Stroke, Cluster, TextPart, Control, Plain, needs_next_row, part_strokes, scrolls, stroke_done, stroke_on, strokes, text_parts, with_byte}
use Rattle.screen_effects.proofs.WrittenLemmas.{AreTexts, joined, pen_is, runs_pen, stands}
use Rattle.screen_difference.specs.Prints.{PlacedText, print_of, strokes_print, strokes_scroll, text_put}
use Rattle.screen_difference.proofs.JoinLemmas.{Prints, Prints-as, Prints-join, Prints-nothing, Stand, stand_of}

-- ---- texts side by side

-- the columns of a wide text, and of another
abbrev pub count_of : Bool → ℕ
count_of wide = if wide then 2 else 1

abbrev pub text_width : (List ℕ → ℕ) → List ℕ → ℕ
text_width width_of text = count_of (nat_le 2 (width_of text))

-- texts in a row, each at the column where the last one ends, and the column after them
abbrev pub beside : (List ℕ → ℕ) → ℕ → ℕ → List (List ℕ) → List PlacedText
beside width_of row column [] = []
beside width_of row column (text ∷ texts) = record { row = row; column = column; text = text } ∷ beside width_of row (column + text_width width_of text) texts

abbrev pub after : (List ℕ → ℕ) → ℕ → List (List ℕ) → ℕ
after width_of column [] = column
after width_of column (text ∷ texts) = after width_of (column + text_width width_of text) texts

-- the cursor goes after them
abbrev pub dropped_after : (List ℕ → ℕ) → List (List ℕ) → Stand → Stand
dropped_after width_of texts at = record at { column = after width_of at.column texts }

module _ (width_of : List ℕ → ℕ) where
  after_grows : (ts : List (List ℕ)) (column : ℕ) → column ≤ after width_of column ts
  after_grows [] column = omega arith
  after_grows (t ∷ ts) column = omega (arith, after_grows ts (column + text_width width_of t))

  after_both : (ts us : List (List ℕ)) (column : ℕ) → after width_of column (ts ++ us) ≡ after width_of (after width_of column ts) us
  after_both [] us column = refl
  after_both (t ∷ ts) us column = after_both ts us (column + text_width width_of t)

  beside_both : (ts us : List (List ℕ)) (row column : ℕ)
      → beside width_of row column (ts ++ us) ≡ beside width_of row column ts ++ beside width_of row (after width_of column ts) us
  beside_both [] us row column = refl
  beside_both (t ∷ ts) us row column =
      let first : PlacedText = record { row = row; column = column; text = t } in
      ap (λ (xs : List PlacedText). first ∷ xs) (beside_both ts us row (column + text_width width_of t))

  both_texts : (ts us : List (List ℕ)) → AreTexts (ts ++ us) → AreTexts ts × AreTexts us
  both_texts [] us p = (tt, p)
  both_texts (t ∷ ts) us p = let rest = both_texts ts us p.1 in ((p.0, rest.0), rest.1)

-- ---- one cluster that fits in the row

-- the strokes print these texts, none of them scrolls, and they leave the cursor, the size and the pen as in `after`
record StrokesPrint (width_of : List ℕ → ℕ) (s : Screen) (ss : List Stroke) (ts : List PlacedText) (after : Stand) : Type 0 where
  prints : strokes_print width_of s ss ≡ ts
  still : strokes_scroll width_of s ss ≡ false
  leaves : stand_of (fold (stroke_on width_of) s ss) ≡ after

-- the screen, with the cursor at the start of the next row if the text wraps
abbrev wrapped_if : Screen → Bool → Screen
wrapped_if s wraps = if wraps then carriage_return (line_feed s) else s

not_past : (a b : ℕ) → a ≤ b → nat_lt b a ≡ false
not_past a b h = grind (arith, nat_tests)

and_false : (b : Bool) → (b && false) ≡ false
and_false true = refl
and_false false = refl

module _ (width_of : List ℕ → ℕ) where
  -- it takes its columns, is put as it is, and stays in the row
  cluster_count : (s : Screen) (t : List ℕ) → text_width width_of t ≤ s.width → length (cluster_columns width_of s t) ≡ text_width width_of t
  cluster_count s t fits =
      by_test (nat_le 2 (width_of t))
      (λ e.
      let two : 2 ≤ s.width = subst (λ b. count_of b ≤ s.width) e fits in
      let more : nat_lt 1 s.width ≡ true = grind (arith, nat_tests) in
      (λ i. length (columns_of (if e i && s.width == 1 then space else t) (e i && more i) s.pen)) ∙ sym (ap count_of e))
      (λ e. (λ i. length (columns_of (if e i && s.width == 1 then space else t) (e i && nat_lt 1 s.width) s.pen)) ∙ sym (ap count_of e))

  put_whole : (s : Screen) (t : List ℕ) → text_width width_of t ≤ s.width → text_put width_of s t ≡ t
  put_whole s t fits =
      by_test (nat_le 2 (width_of t))
      (λ e.
      let two : 2 ≤ s.width = subst (λ b. count_of b ≤ s.width) e fits in
      let more : (s.width == 1) ≡ false = grind (arith, nat_tests) in
      λ i. if e i && more i then space else t)
      (λ e. λ i. if e i && s.width == 1 then space else t)

  stays : (s : Screen) (t : List ℕ) → s.column + text_width width_of t ≤ s.width → needs_next_row width_of s (Cluster t) ≡ false
  stays s t fits = ap (λ n. nat_lt s.width (s.column + n)) (cluster_count s t (omega (arith, fits))) ∙ not_past (s.column + text_width width_of t) s.width fits

  cluster_print : (s : Screen) (t : List ℕ) → s.column + text_width width_of t ≤ s.width → print_of width_of s t ≡ record { row = s.row; column = s.column; text = t }
  cluster_print s t fits =
      let no = stays s t fits in
      let whole = put_whole s t (omega (arith, fits)) in
      λ i. record { row = (wrapped_if s (no i)).row; column = (wrapped_if s (no i)).column; text = whole i }

  cluster_still : (s : Screen) (t : List ℕ) → s.column + text_width width_of t ≤ s.width → scrolls width_of s (Cluster t) ≡ false
  cluster_still s t fits = ap (λ b. s.row + 1 == height s && b) (stays s t fits) ∙ and_false (s.row + 1 == height s)

  cluster_leaves : (s : Screen) (t : List ℕ) → s.column + text_width width_of t ≤ s.width → stand_of (put width_of s t) ≡ dropped_after width_of (t ∷ []) (stand_of s)
  cluster_leaves s t fits =
      let columns : Row = cluster_columns width_of s t in
      let count : length columns ≡ text_width width_of t = cluster_count s t (omega (arith, fits)) in
      let rows : length (set s.rows s.row (set_columns (get_or s.rows s.row []) s.column columns)) ≡ length s.rows = length-set {A = Row} s.rows s.row (set_columns (get_or s.rows s.row []) s.column columns) in
      ap (λ b. stand_of (write_columns columns (wrapped_if s b))) (stays s t fits)
      ∙ (λ i. record { row = s.row; column = s.column + count i; width = s.width; rows = rows i; pen = s.pen })

  -- ---- clusters, and a text of them

  clusters_print : (ts : List (List ℕ)) (s : Screen) (at : Stand) → stand_of s ≡ at → after width_of at.column ts ≤ at.width
      → StrokesPrint width_of s (map Cluster ts) (beside width_of at.row at.column ts) (dropped_after width_of ts at)
  clusters_print [] s at e fits = record { prints = refl; still = refl; leaves = e }
  clusters_print (t ∷ ts) s at e fits =
      let within : at.column + text_width width_of t ≤ at.width = omega (arith, after_grows width_of ts (at.column + text_width width_of t), fits) in
      let room : s.column + text_width width_of t ≤ s.width = subst (λ (x : Stand). x.column + text_width width_of t ≤ x.width) (sym e) within in
      let first : print_of width_of s t ≡ record { row = at.row; column = at.column; text = t } = cluster_print s t room ∙ (λ i. record { row = (e i).row; column = (e i).column; text = t }) in
      let next = cluster_leaves s t room ∙ ap (dropped_after width_of (t ∷ [])) e in
      let rest = clusters_print ts (put width_of s t) (dropped_after width_of (t ∷ []) at) next fits in
      let quiet = cluster_still s t room in
      record { prints = λ i. first i ∷ rest.prints i; still = λ i. quiet i || rest.still i; leaves = rest.leaves }

plain_parts : (byte : ℕ) (text : List ℕ) → list_any is_ascii_control (byte ∷ text) ≡ false → text_parts (byte ∷ text) ≡ Plain (byte ∷ text) ∷ []
plain_parts byte [] e = ap (λ b. if b then Control byte ∷ [] else with_byte byte []) (or_parts (is_ascii_control byte) false e).0
plain_parts byte (next ∷ text) e =
    let parts = or_parts (is_ascii_control byte) (list_any is_ascii_control (next ∷ text)) e in
    ap (λ b. if b then Control byte ∷ text_parts (next ∷ text) else with_byte byte (text_parts (next ∷ text))) parts.0
    ∙ ap (with_byte byte) (plain_parts next text parts.1)

read_again : (ts : List (List ℕ)) → AreTexts ts → map read_cluster ts ≡ ts
read_again [] p = refl
read_again (t ∷ ts) p =
    let one : is_cluster t ≡ true = ap (λ (g : List (List ℕ)). length g == 1) p.0.alone in
    (λ i. (if one i then t else replacement_bytes) ∷ read_again ts p.1 i)

none_joined : (ts : List (List ℕ)) → AreTexts ts → list_any is_ascii_control (concat ts) ≡ false
none_joined [] p = refl
none_joined (t ∷ ts) p = list_any-append is_ascii_control t (concat ts) ∙ (λ i. p.0.printed i || none_joined ts p.1 i)

-- a text without controls puts its clusters
strokes_are : (text : List ℕ) (ts : List (List ℕ)) → graphemes true text ≡ ts → AreTexts ts → list_any is_ascii_control text ≡ false → strokes text ≡ map Cluster ts
strokes_are [] ts e p n = ap (λ (cs : List (List ℕ)). map Cluster cs) (sym graphemes-nil ∙ e)
strokes_are (byte ∷ text) ts e p n =
    ap (λ (parts : List TextPart). flat_map part_strokes parts) (plain_parts byte text n)
    ∙ append-nil (map Cluster (clusters (byte ∷ text)))
    ∙ ap (λ (cs : List (List ℕ)). map Cluster (map read_cluster cs)) e
    ∙ ap (λ (cs : List (List ℕ)). map Cluster cs) (read_again ts p)

module _ (width_of : List ℕ → ℕ) where
  -- strokes on a display change its screen as strokes on the screen
  screen_is : (ss : List Stroke) (d : Display) → (fold (stroke_done width_of) d ss).screen ≡ fold (stroke_on width_of) d.screen ss
  screen_is [] d = refl
  screen_is (stroke ∷ ss) d = screen_is ss (stroke_done width_of d stroke)

  -- the changes print these texts side by side, from the cursor on
  abbrev pub PrintsBeside : Display → Stand → List ChangeValue → List (List ℕ) → Type 0
  PrintsBeside d at changes ts = Prints width_of d changes (beside width_of at.row at.column ts) (dropped_after width_of ts at)

  text_prints : (text : List ℕ) (ts : List (List ℕ)) (d : Display) (at : Stand) → strokes text ≡ map Cluster ts → stand_of d.screen ≡ at → after width_of at.column ts ≤ at.width
      → PrintsBeside d at (Text text ∷ []) ts
  text_prints text ts d at is e fits =
      let p = clusters_print width_of ts d.screen at e fits in
      record {
        prints = append-nil (strokes_print width_of d.screen (strokes text)) ∙ ap (λ (ss : List Stroke). strokes_print width_of d.screen ss) is ∙ p.prints;
        still = ap (λ (ss : List Stroke). strokes_scroll width_of d.screen ss || false) is ∙ (λ i. p.still i || false);
        leaves = ap stand_of (screen_is (strokes text) d ∙ ap (λ (ss : List Stroke). fold (stroke_on width_of) d.screen ss) is) ∙ p.leaves;
      }

  each_prints : (ts : List (List ℕ)) (d : Display) (at : Stand) → AreTexts ts → stand_of d.screen ≡ at → after width_of at.column ts ≤ at.width
      → PrintsBeside d at (map Text ts) ts
  each_prints [] d at p e fits = Prints-nothing e
  each_prints (t ∷ ts) d at p e fits =
      let within : at.column + text_width width_of t ≤ at.width = omega (arith, after_grows width_of ts (at.column + text_width width_of t), fits) in
      Prints-join (text_prints t (t ∷ []) d at (strokes_are t (t ∷ []) p.0.alone (p.0, tt) p.0.printed) e within) (λ x f. each_prints ts x (dropped_after width_of (t ∷ []) at) p.1 f fits)

  -- joined, or one by one
  pub texts_print : (ts : List (List ℕ)) (d : Display) (at : Stand) → AreTexts ts → stand_of d.screen ≡ at → after width_of at.column ts ≤ at.width
      → PrintsBeside d at (map Text (texts ts)) ts
  texts_print [] d at p e fits = subst (λ (all : List (List ℕ)). PrintsBeside d at (map Text all) []) (sym no_texts) (Prints-nothing e)
  texts_print (t ∷ ts) d at p e fits =
      by_test (stay_independent (t ∷ ts))
      (λ q.
      let is = strokes_are (concat (t ∷ ts)) (t ∷ ts) (same_texts_are (graphemes true (concat (t ∷ ts))) (t ∷ ts) q) p (none_joined (t ∷ ts) p) in
      subst (λ (all : List (List ℕ)). PrintsBeside d at (map Text all) (t ∷ ts)) (sym (one_text t ts q)) (text_prints (concat (t ∷ ts)) (t ∷ ts) d at is e fits))
      (λ q. subst (λ (all : List (List ℕ)). PrintsBeside d at (map Text all) (t ∷ ts)) (sym (each_text t ts q)) (each_prints (t ∷ ts) d at p e fits))

-- ---- runs of equal attributes

abbrev due_if : Attributes → Bool → List ChangeValue
due_if a same = if same then [] else AllAttributes a ∷ []

abbrev with_pen_of : Attributes → Stand → Stand
with_pen_of a at = record at { pen = a }

abbrev run_texts : List CellRun → List (List ℕ)
run_texts [] = []
run_texts (run ∷ runs) = run.cells ++ run_texts runs

-- the runs have the cells' texts, in turn
before_texts : (cell : CellContent) (runs : List CellRun) → run_texts (before_runs cell runs) ≡ cell.text ∷ run_texts runs
before_texts cell [] = refl
before_texts cell (run ∷ runs) = by_test (same_attributes cell.attributes run.attributes) (λ e. ap run_texts (joined cell run runs e)) (λ e. ap run_texts (stands cell run runs e))

runs_texts : (cells : List CellContent) → run_texts (cell_runs cells) ≡ map (λ c. c.text) cells
runs_texts [] = refl
runs_texts (cell ∷ cells) = before_texts cell (cell_runs cells) ∙ ap (λ (ts : List (List ℕ)). cell.text ∷ ts) (runs_texts cells)

module _ (width_of : List ℕ → ℕ) where
  pub pen_prints : (a : Attributes) (d : Display) (at : Stand) → stand_of d.screen ≡ at → Prints width_of d (AllAttributes a ∷ []) [] (with_pen_of a at)
  pen_prints a d at e = record { prints = refl; still = refl; leaves = ap (with_pen_of a) e }

  -- attributes print nothing, due or not
  due_prints : (a : Attributes) (d : Display) (at : Stand) → stand_of d.screen ≡ at → Prints width_of d (attributes_due at.pen a) [] (with_pen_of a at)
  due_prints a d at e =
      by_test (same_attributes a at.pen)
      (λ q.
      let is : at.pen ≡ a = sym ((same_attributes_decides a at.pen).0 q) in
      subst (λ b. Prints width_of d (due_if a b) [] (with_pen_of a at)) (sym q) (Prints-nothing (e ∙ (λ i. with_pen_of (is i) at))))
      (λ q. subst (λ b. Prints width_of d (due_if a b) [] (with_pen_of a at)) (sym q) (pen_prints a d at e))

  runs_print : (runs : List CellRun) (d : Display) (at : Stand) → AreTexts (run_texts runs) → stand_of d.screen ≡ at → after width_of at.column (run_texts runs) ≤ at.width
      → Prints width_of d (runs_written at.pen runs) (beside width_of at.row at.column (run_texts runs)) (with_pen_of (runs_pen at.pen runs) (dropped_after width_of (run_texts runs) at))
  runs_print [] d at p e fits = Prints-nothing e
  runs_print (run ∷ runs) d at p e fits =
      let a : Attributes = run.attributes in
      let penned : Stand = with_pen_of a at in
      let mid : Stand = dropped_after width_of run.cells penned in
      let two = both_texts width_of run.cells (run_texts runs) p in
      let far = after_both width_of run.cells (run_texts runs) at.column in
      let rest_fits : after width_of mid.column (run_texts runs) ≤ at.width = subst (λ n. n ≤ at.width) far fits in
      let own_fits : mid.column ≤ at.width = omega (arith, after_grows width_of (run_texts runs) mid.column, rest_fits) in
      Prints-as
      (Prints-join (Prints-join (due_prints a d at e) (λ x f. texts_print width_of run.cells x penned two.0 f own_fits)) (λ x f. runs_print runs x mid two.1 f rest_fits))
      (sym (beside_both width_of run.cells (run_texts runs) at.row at.column))
      (λ i. record at { column = sym far i; pen = runs_pen a runs })

  -- ---- cells

  pub cells_print : (cells : List CellContent) (d : Display) (at : Stand) → AreTexts (map (λ c. c.text) cells) → stand_of d.screen ≡ at → after width_of at.column (map (λ c. c.text) cells) ≤ at.width
      → Prints width_of d (cells_written at.pen cells) (beside width_of at.row at.column (map (λ c. c.text) cells)) (with_pen_of (last_pen at.pen cells) (dropped_after width_of (map (λ c. c.text) cells) at))
  cells_print cells d at p e fits =
      let is = runs_texts cells in
      let are : AreTexts (run_texts (cell_runs cells)) = subst AreTexts (sym is) p in
      let fit : after width_of at.column (run_texts (cell_runs cells)) ≤ at.width = subst (λ (ts : List (List ℕ)). after width_of at.column ts ≤ at.width) (sym is) fits in
      Prints-as
      (runs_print (cell_runs cells) d at are e fit)
      (ap (λ (ts : List (List ℕ)). beside width_of at.row at.column ts) is)
      (λ i. with_pen_of (pen_is cells at.pen i) (dropped_after width_of (is i) at))
