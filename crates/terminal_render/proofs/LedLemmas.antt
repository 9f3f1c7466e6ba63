-- What leads from one screen to another has an encoding.
use Rattle.std.proofs.Common.{◌≡◌, inl, ℕ, ◌+◌, ◌<◌, ◌≤◌, Bool, true, false, List, [], ◌∷◌, ◌++◌, length, take, map, refl, sym, ap, subst, ◌∙◌, arith}
use Rattle.std.specs.Prelude.{⊤, All, ◌==◌, ◌&&◌, not, Option, Some, None, fold, if◌then◌else◌}
use Rattle.std.specs.List.{AllByRecursion}
use Rattle.std.proofs.lemmas.Bool.{cond_both}
use Rattle.std.proofs.lemmas.Bool.Decides.{nat_tests}
use Rattle.std.proofs.lemmas.List.Elements.{All-head, All-tail}
use Rattle.std.proofs.lemmas.List.{take_all}
use Rattle.cell_base.specs.declared.attributes.Position.TheVariants.{Absolute}
use Rattle.cell_base.specs.Attributes.{Attributes}
use Rattle.cell_base.specs.CellContent.{CellContent}
use Rattle.cell_base.specs.SameAttributes.{same_attributes}
use Rattle.cell_base.specs.Row.{Row, Narrow, LeftHalf, RightHalf, closed_end}
use Rattle.cell_base.specs.Screen.{Screen, IsScreen, height}
use Rattle.screen_change.specs.CellChanges.{attributes_due, last_pen, runs_written}
use Rattle.screen_change.specs.CellRuns.{CellRun, cell_runs}
use Rattle.screen_change.specs.ChangeValue.{ChangeValue, AllAttributes, CursorPosition, CursorVisibility, Text, Title}
use Rattle.screen_change.specs.Texts.{texts}
use Rattle.screen_change.proofs.TextLemmas.{by_test}
use Rattle.cell_edits.specs.VisibleCells.{VisibleCell, visible_at, visible_from}
use Rattle.cell_base.specs.WholeRow.{IsWhole}
use Rattle.cell_base.proofs.RowLemmas.{whole_ends, whole_starts}
use Rattle.screen_difference.specs.Difference.{Stretch, alone, before_stretches, cells_of, difference, longer, stretch_written, stretches, stretches_written}
use Rattle.screen_difference.specs.FreshCells.{PlacedCell, columns_from, fresh, is_shown, placed, row_fresh, rows_fresh, screen_fresh, shared_width}
use Rattle.screen_effects.specs.Effect.{cursor_row}
use Rattle.terminal_table.specs.Changes.{visibility}
use Rattle.xterm_table.specs.Follows.{Follows}
use Rattle.terminal_table.specs.Led.{last_cell, led, led_with_title, position_and_pen, sight_changes, written_again}
use Rattle.terminal_render.specs.Spelling.{HasEncoding, HaveEncodings, IsSpelledPen, IsSpelledRow, IsSpelledRun, IsSpelledScreen}
use Rattle.terminal_render.proofs.CellLemmas.{AreSpelledCellRuns, AreSpelledCells, runs_spelled, texts_spelled}
use Rattle.terminal_render.proofs.ChangeLemmas.{is_encoded, coordinate_some, encodings_append}
use Rattle.terminal_render.proofs.TextLemmas.{AreSpelledRuns}

-- ---- cells

-- a cell's text and attributes have an encoding, and it begins before a column
abbrev IsSpelledCell : ℕ → ℕ → CellContent → Type 0
IsSpelledCell width column cell = (IsSpelledRun cell.text × IsSpelledPen cell.attributes) × (column < width)

abbrev AreVisible : ℕ → List VisibleCell → Type 0
AreVisible width = AllByRecursion (λ v. IsSpelledCell width v.column v.cell)

abbrev ArePlaced : ℕ → List PlacedCell → Type 0
ArePlaced width = AllByRecursion (λ c. IsSpelledCell width c.column c.cell)

visible_spelled : (width at : ℕ) (row : Row) → at + length row ≤ width → IsSpelledRow row → AreVisible width (visible_from at row)
visible_spelled width at [] h p = tt
visible_spelled width at (Narrow text attributes ∷ row) h p = (((p.0, p.1), omega (arith, h)), visible_spelled width (at + 1) row (omega (arith, h)) p.2)
visible_spelled width at (LeftHalf text attributes ∷ row) h p = (((p.0, p.1), omega (arith, h)), visible_spelled width (at + 1) row (omega (arith, h)) p.2)
visible_spelled width at (RightHalf attributes ∷ row) h p = visible_spelled width (at + 1) row (omega (arith, h)) p.1

fresh_spelled : (width : ℕ) (olds news : List VisibleCell) → AreVisible width news → AreVisible width (fresh olds news)
fresh_spelled width olds [] p = tt
fresh_spelled width olds (v ∷ news) p =
    let rest = fresh_spelled width olds news p.1 in
    by_test (is_shown olds v)
    (λ e. subst (AreVisible width) (sym (ap (λ b. if not b then v ∷ fresh olds news else fresh olds news) e)) rest)
    (λ e. subst (AreVisible width) (sym (ap (λ b. if not b then v ∷ fresh olds news else fresh olds news) e)) (p.0, rest))

placed_spelled : (width row : ℕ) (cells : List VisibleCell) → AreVisible width cells → ArePlaced width (placed row cells)
placed_spelled width row [] p = tt
placed_spelled width row (v ∷ cells) p = (p.0, placed_spelled width row cells p.1)

placed_append : (width : ℕ) (xs ys : List PlacedCell) → ArePlaced width xs → ArePlaced width ys → ArePlaced width (xs ++ ys)
placed_append width [] ys p q = q
placed_append width (x ∷ xs) ys p q = (p.0, placed_append width xs ys p.1 q)

-- ---- whole rows

-- all columns of a whole row are the row
whole_columns : (n : ℕ) (row : Row) → n ≡ length row → IsWhole row → columns_from 0 n row ≡ row
whole_columns n row e w =
    ap (λ (r : Row). closed_end (take n r)) (whole_starts row w)
    ∙ ap closed_end (take_all n row (omega (arith, e)))
    ∙ whole_ends row w

row_spelled : (width : ℕ) (old new : Row) → length old ≡ width → length new ≡ width → IsWhole new → IsSpelledRow new → AreVisible width (row_fresh 0 0 width old new)
row_spelled width old new a b w p =
    let count : ℕ = shared_width width 0 old 0 new in
    let all : count ≡ length new = omega (arith, a, b) in
    fresh_spelled width (visible_from 0 (columns_from 0 count old)) (visible_from 0 (columns_from 0 count new))
    (subst (λ (r : Row). AreVisible width (visible_from 0 r)) (sym (whole_columns count new all w)) (visible_spelled width 0 new (omega (arith, b)) p))

rows_spelled : (width number : ℕ) (olds news : List Row) → All (λ row. length row ≡ width) olds → All (λ row. length row ≡ width) news → All IsWhole news → All IsSpelledRow news
    → ArePlaced width (rows_fresh (row_fresh 0 0 width) number olds news)
rows_spelled width number [] news a b w p = tt
rows_spelled width number (old ∷ olds) [] a b w p = tt
rows_spelled width number (old ∷ olds) (new ∷ news) a b w p =
    placed_append width (placed number (row_fresh 0 0 width old new)) (rows_fresh (row_fresh 0 0 width) (number + 1) olds news)
    (placed_spelled width number (row_fresh 0 0 width old new)
    (row_spelled width old new (All-head (λ row. length row ≡ width) old olds a) (All-head (λ row. length row ≡ width) new news b) (All-head IsWhole new news w) (All-head IsSpelledRow new news p)))
    (rows_spelled width (number + 1) olds news (All-tail (λ row. length row ≡ width) old olds a) (All-tail (λ row. length row ≡ width) new news b) (All-tail IsWhole new news w) (All-tail IsSpelledRow new news p))

-- ---- stretches

abbrev IsSpelledStretch : ℕ → Stretch → Type 0
IsSpelledStretch width stretch = (stretch.column < width) × AreSpelledCells (cells_of stretch)

abbrev AreSpelledStretches : ℕ → List Stretch → Type 0
AreSpelledStretches width = AllByRecursion (IsSpelledStretch width)

before_spelled : (width : ℕ) (c : PlacedCell) (ss : List Stretch) → IsSpelledCell width c.column c.cell → AreSpelledStretches width ss → AreSpelledStretches width (before_stretches c ss)
before_spelled width c [] p q = ((p.1, (p.0, tt)), tt)
before_spelled width c (s ∷ ss) p q =
    by_test (c.row == s.row && c.column + c.cell.width == s.column)
    (λ e. subst (AreSpelledStretches width) (sym (ap (λ b. if b then longer c s ∷ ss else alone c ∷ s ∷ ss) e)) ((p.1, (p.0, q.0.1)), q.1))
    (λ e. subst (AreSpelledStretches width) (sym (ap (λ b. if b then longer c s ∷ ss else alone c ∷ s ∷ ss) e)) ((p.1, (p.0, tt)), q))

stretches_spelled : (width : ℕ) (cells : List PlacedCell) → ArePlaced width cells → AreSpelledStretches width (stretches cells)
stretches_spelled width [] p = tt
stretches_spelled width (c ∷ cells) p = before_spelled width c (stretches cells) p.0 (stretches_spelled width cells p.1)

-- ---- the last cell of a row

-- the cell, if there is one, has a text and attributes with an encoding, and a column less than `bound`
abbrev pub IsSpelledLast : ℕ → Option VisibleCell → Type 0
IsSpelledLast bound None = ⊤
IsSpelledLast bound (Some v) = IsSpelledRun v.cell.text × IsSpelledPen v.cell.attributes × (v.column < bound)

pub last_from : (bound at : ℕ) (row : Row) (start : Option VisibleCell) → at + length row ≤ bound → IsSpelledRow row → IsSpelledLast bound start → IsSpelledLast bound (fold (λ _ v. Some v) start (visible_from at row))
last_from bound at [] start h p q = q
last_from bound at (Narrow text attributes ∷ row) start h p q = last_from bound (at + 1) row (Some (visible_at at text 1 attributes)) (omega (arith, h)) p.2 (p.0, p.1, omega (arith, h))
last_from bound at (LeftHalf text attributes ∷ row) start h p q = last_from bound (at + 1) row (Some (visible_at at text 2 attributes)) (omega (arith, h)) p.2 (p.0, p.1, omega (arith, h))
last_from bound at (RightHalf attributes ∷ row) start h p q = last_from bound (at + 1) row start (omega (arith, h)) p.1 q

-- ---- each change of a difference of screens

-- What holds of a text and of attributes that have an encoding, and of a position before the last column, holds of each
-- change that draws the cells of a difference, and places the cursor.
module _ (width : ℕ) (P : ChangeValue → Type 0) (of_text : (text : List ℕ) → IsSpelledRun text → P (Text text)) (of_pen : (pen : Attributes) → IsSpelledPen pen → P (AllAttributes pen))
    (of_position : (column row : ℕ) → column < width → P (CursorPosition (Absolute column) (Absolute row))) where
  abbrev Each : List ChangeValue → Type 0
  Each = AllByRecursion P

  each_append : (xs ys : List ChangeValue) → Each xs → Each ys → Each (xs ++ ys)
  each_append [] ys p q = q
  each_append (x ∷ xs) ys p q = (p.0, each_append xs ys p.1 q)

  each_due : (pen a : Attributes) → IsSpelledPen a → Each (attributes_due pen a)
  each_due pen a p = cond_both (same_attributes a pen) _ _ Each (λ e. tt) (λ e. (of_pen a p, tt))

  each_text : (ts : List (List ℕ)) → AreSpelledRuns ts → Each (map Text ts)
  each_text [] p = tt
  each_text (t ∷ ts) p = (of_text t p.0, each_text ts p.1)

  each_run : (pen : Attributes) (runs : List CellRun) → AreSpelledCellRuns runs → Each (runs_written pen runs)
  each_run pen [] p = tt
  each_run pen (run ∷ runs) p =
      each_append (attributes_due pen run.attributes ++ map Text (texts run.cells)) (runs_written run.attributes runs)
      (each_append (attributes_due pen run.attributes) (map Text (texts run.cells)) (each_due pen run.attributes p.0.0) (each_text (texts run.cells) (texts_spelled run.cells p.0.1)))
      (each_run run.attributes runs p.1)

  each_stretch : (pen : Option Attributes) (s : Stretch) → IsSpelledStretch width s → Each (stretch_written pen s)
  each_stretch None s p =
      (of_position s.column s.row p.0, (of_pen s.first.attributes p.1.0.1, each_run s.first.attributes (cell_runs (cells_of s)) (runs_spelled (cells_of s) p.1)))
  each_stretch (Some pen) s p = (of_position s.column s.row p.0, each_run pen (cell_runs (cells_of s)) (runs_spelled (cells_of s) p.1))

  each_of_stretches : (pen : Option Attributes) (ss : List Stretch) → AreSpelledStretches width ss → Each (stretches_written pen ss)
  each_of_stretches pen [] p = tt
  each_of_stretches pen (s ∷ ss) p =
      each_append (stretch_written pen s) (stretches_written (Some (last_pen s.first.attributes s.remaining)) ss)
      (each_stretch pen s p.0) (each_of_stretches (Some (last_pen s.first.attributes s.remaining)) ss p.1)

  each_again : (s : Screen) → IsSpelledPen s.pen → (o : Option VisibleCell) → IsSpelledLast width o → Each (written_again s o)
  each_again s p None q = tt
  each_again s p (Some v) q = (of_position v.column s.row q.2, (of_pen v.cell.attributes q.1, (of_text v.cell.text q.0, (of_pen s.pen p, tt))))

  each_position : (s : Screen) → s.width ≡ width → IsScreen s → IsSpelledScreen s → Each (position_and_pen s)
  each_position s wide h p =
      let again : List ChangeValue = written_again s (last_cell (cursor_row s)) in
      let moves : List ChangeValue = CursorPosition (Absolute s.column) (Absolute s.row) ∷ AllAttributes s.pen ∷ [] in
      cond_both (s.column == s.width) again moves Each
      (λ e.
      let row : Row = cursor_row s in
      let even : length row ≡ s.width = h.even s.row [] h.row_in in
      each_again s p.pen (last_cell row) (last_from width 0 row None (omega (arith, even, wide)) (p.rows s.row [] h.row_in) tt))
      (λ e.
      let in_columns = h.column_in in
      let before : s.column < width = grind (arith, nat_tests) in
      (of_position s.column s.row before, (of_pen s.pen p.pen, tt)))

  pub each_of_difference : (old new : Screen) → new.width ≡ width → old.width ≡ new.width → IsScreen old → IsScreen new → All IsWhole new.rows → IsSpelledScreen new → Each (difference (screen_fresh old new) ++ position_and_pen new)
  each_of_difference old new is wide g h w p =
      let cells : List PlacedCell = screen_fresh old new in
      let even : All (λ row. length row ≡ old.width) new.rows = subst (λ m. All (λ row. length row ≡ m) new.rows) (sym wide) h.even in
      let own : ArePlaced old.width cells =
      subst (λ (rows : List Row). ArePlaced old.width (rows_fresh (row_fresh 0 0 old.width) 0 rows new.rows)) (sym (take_all (height old) old.rows (omega arith)))
      (rows_spelled old.width 0 old.rows new.rows g.even even w p.rows) in
      let spelled : ArePlaced width cells = subst (λ m. ArePlaced m cells) (wide ∙ is) own in
      each_append (difference cells) (position_and_pen new) (each_of_stretches None (stretches cells) (stretches_spelled width cells spelled)) (each_position new is h p)

-- ---- encodings

pub all_have : (width tall : ℕ) (changes : List ChangeValue) → AllByRecursion (HasEncoding width tall) changes → HaveEncodings width tall changes
all_have width tall [] p = tt
all_have width tall (change ∷ changes) p = (p.0, all_have width tall changes p.1)

-- ---- what leads from one screen to another

sight_has : (w n : ℕ) (b v : Bool) → HaveEncodings w n (sight_changes b v)
sight_has w n true true = tt
sight_has w n false false = tt
sight_has w n true false = (is_encoded w n (CursorVisibility (visibility false)) tt tt tt, tt)
sight_has w n false true = (is_encoded w n (CursorVisibility (visibility true)) tt tt tt, tt)

module _ (width_of : List ℕ → ℕ) where
  pub led_has : (old new : Screen) → IsScreen old → Follows width_of old new → IsSpelledScreen new → HaveEncodings new.width (height new) (led old new)
  led_has old new g f p =
      let w = new.width in
      let n = height new in
      let first : List ChangeValue = difference (screen_fresh old new) ++ position_and_pen new in
      encodings_append w n first (sight_changes old.visible new.visible)
      (all_have w n first
      (each_of_difference w (HasEncoding w n)
      (λ text q. is_encoded w n (Text text) q.spelled tt (inl q.printed))
      (λ pen q. is_encoded w n (AllAttributes pen) q tt tt)
      (λ column row lt. is_encoded w n (CursorPosition (Absolute column) (Absolute row)) tt (coordinate_some w n column (Absolute row) lt) tt)
      old new refl (sym f.wide) g f.lawful f.whole p))
      (sight_has w n old.visible new.visible)

  pub led_has_with_title : (old new : Screen) → IsScreen old → Follows width_of old new → IsSpelledScreen new → HaveEncodings new.width (height new) (led_with_title old new)
  led_has_with_title old new g f p = (is_encoded new.width (height new) (Title new.title) p.title tt tt, led_has old new g f p)
