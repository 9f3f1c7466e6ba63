-- The changes of a repaint have an encoding.
use Rattle.std.proofs.Common.{◌≡◌, ℕ, ◌+◌, ◌<◌, ◌≤◌, ◌⊎◌, inl, inr, Bool, true, false, List, [], ◌∷◌, ◌++◌, map, fold, refl, sym, subst, arith}
use Rattle.std.specs.Prelude.{All, ⊤, not, ◌==◌, ◌&&◌, ◌||◌, pos, Option, Some, None, if◌then◌else◌}
use Rattle.std.specs.List.{list_any}
use Rattle.std.proofs.lemmas.Bool.{cond_both}
use Rattle.std.proofs.lemmas.List.Elements.{All-head, All-tail}
use Rattle.cell_base.specs.declared.attributes.CursorShape.{CursorShape as Shape}
use Rattle.cell_base.specs.declared.attributes.CursorVisibility.TheVariants.{Hidden, Visible}
use Rattle.cell_base.specs.declared.attributes.Position.TheVariants.{Absolute, Relative}
use Rattle.cell_base.specs.declared.color.ColorAttribute.{ColorAttribute}
use Rattle.cell_base.specs.declared.color.ColorAttribute.TheVariants as attribute
use Rattle.cell_base.specs.Attributes.{Attributes, plain}
use Rattle.cell_base.specs.CellContent.{CellContent}
use Rattle.cell_base.specs.Row.{Row, Narrow, LeftHalf, RightHalf}
use Rattle.cell_base.specs.SameAttributes.{same_attributes}
use Rattle.cell_base.specs.Screen.{Screen, IsScreen, height}
use Rattle.screen_change.specs.CellChanges.{attributes_due, runs_written, cells_written, clear_due}
use Rattle.screen_change.specs.CellRuns.{CellRun, cell_runs, is_blank_of, background_at_end, less_blanks}
use Rattle.screen_change.specs.ChangeValue.{ChangeValue, AllAttributes, Text, ClearScreen, ClearToEndOfLine, ClearToEndOfScreen, CursorPosition, CursorVisibility, Title}
use Rattle.screen_change.specs.Texts.{texts}
use Rattle.cell_base.specs.UpToLast.{up_to_last}
use Rattle.cell_edits.specs.VisibleCells.{visible_from, contents}
use Rattle.escape_framing.proofs.Existence.Utf8Lemmas.{order}
use Rattle.screen_effects.specs.Display.{Display, IsDisplay}
use Rattle.screen_repaint.specs.Repaint.{pen_left, row_cells, go_with_blanks, end_cleared, row_painted, in_next_row, rows_painted, are_some, cursor_placed, cursor_shown, title_due, repaint}
use Rattle.terminal_render.specs.Spelling.{IsSpelledColor, IsSpelledPen, IsSpelledRow, IsSpelledScreen, HasEncoding, HaveEncodings, IsLeftOut, HaveOtherEncodings}
use Rattle.terminal_render.proofs.TextLemmas.{AreSpelledRuns}
use Rattle.terminal_render.proofs.CellLemmas.{AreSpelledCellRuns, AreSpelledCells, runs_spelled, texts_spelled}
use Rattle.terminal_render.proofs.ChangeLemmas.{is_encoded, encodings_append, coordinate_some}

-- ---- cells

visible_spelled : (at : ℕ) (row : Row) → IsSpelledRow row → AreSpelledCells (contents (visible_from at row))
visible_spelled at [] p = tt
visible_spelled at (Narrow text attributes ∷ row) p = ((p.0, p.1), visible_spelled (at + 1) row p.2)
visible_spelled at (LeftHalf text attributes ∷ row) p = ((p.0, p.1), visible_spelled (at + 1) row p.2)
visible_spelled at (RightHalf attributes ∷ row) p = visible_spelled (at + 1) row p.1

kept_spelled : (passes : CellContent → Bool) (cells : List CellContent) → AreSpelledCells cells → AreSpelledCells (up_to_last passes cells)
kept_spelled passes [] p = tt
kept_spelled passes (cell ∷ cells) p = cond_both (passes cell || list_any passes cells) _ _ AreSpelledCells (λ e. (p.0, kept_spelled passes cells p.1)) (λ e. tt)

less_spelled : (background : Option ColorAttribute) (cells : List CellContent) → AreSpelledCells cells → AreSpelledCells (less_blanks background cells)
less_spelled None cells p = p
less_spelled (Some color) cells p = kept_spelled (λ cell. not (is_blank_of color cell)) cells p

abbrev IsSpelledOption : Option ColorAttribute → Type 0
IsSpelledOption None = ⊤
IsSpelledOption (Some color) = IsSpelledColor color

background_from : (start : Option ColorAttribute) (cells : List CellContent) → IsSpelledOption start → AreSpelledCells cells
    → IsSpelledOption (fold (λ _ cell. if is_blank_of cell.attributes.background cell then Some cell.attributes.background else None) start cells)
background_from start [] h p = h
background_from start (cell ∷ cells) h p =
    background_from (if is_blank_of cell.attributes.background cell then Some cell.attributes.background else None) cells
    (cond_both (is_blank_of cell.attributes.background cell) _ _ IsSpelledOption (λ e. p.0.1.background) (λ e. tt)) p.1

background_spelled : (cells : List CellContent) → AreSpelledCells cells → IsSpelledOption (background_at_end cells)
background_spelled cells p = background_from None cells tt p

-- ---- a repaint

module _ (width tall : ℕ) (some : 0 < width) where
  abbrev Encoded : List ChangeValue → Type 0
  Encoded changes = HaveEncodings width tall changes

  pub due_encoded : (pen a : Attributes) → IsSpelledPen a → Encoded (attributes_due pen a)
  due_encoded pen a p = cond_both (same_attributes a pen) _ _ Encoded (λ e. tt) (λ e. (is_encoded width tall (AllAttributes a) p tt tt, tt))

  encoded_texts : (ts : List (List ℕ)) → AreSpelledRuns ts → Encoded (map Text ts)
  encoded_texts [] p = tt
  encoded_texts (t ∷ ts) p = (is_encoded width tall (Text t) p.0.spelled tt (inl p.0.printed), encoded_texts ts p.1)

  runs_encoded : (pen : Attributes) (runs : List CellRun) → AreSpelledCellRuns runs → Encoded (runs_written pen runs)
  runs_encoded pen [] p = tt
  runs_encoded pen (run ∷ runs) p =
      encodings_append width tall (attributes_due pen run.attributes ++ map Text (texts run.cells)) (runs_written run.attributes runs)
      (encodings_append width tall (attributes_due pen run.attributes) (map Text (texts run.cells)) (due_encoded pen run.attributes p.0.0) (encoded_texts (texts run.cells) (texts_spelled run.cells p.0.1)))
      (runs_encoded run.attributes runs p.1)

  clear_encoded : (color : ColorAttribute) → IsSpelledColor color → Encoded (clear_due color)
  clear_encoded (attribute.TrueColorWithPaletteFallback c index) h = absurd h
  clear_encoded (attribute.TrueColorWithDefaultFallback c) h = (is_encoded width tall (ClearToEndOfLine (attribute.TrueColorWithDefaultFallback c)) h tt tt, tt)
  clear_encoded (attribute.PaletteIndex index) h = (is_encoded width tall (ClearToEndOfLine (attribute.PaletteIndex index)) h tt tt, tt)
  clear_encoded attribute.Default h = tt

  end_encoded : (background : Option ColorAttribute) (below_too : Bool) → IsSpelledOption background → Encoded (end_cleared background below_too)
  end_encoded None below_too h = tt
  end_encoded (Some color) true h = (is_encoded width tall (ClearToEndOfScreen color) h tt tt, tt)
  end_encoded (Some color) false h = clear_encoded color h

  row_encoded : (pen : Attributes) (cells : List CellContent) (below_too : Bool) → AreSpelledCells cells → Encoded (row_painted pen cells below_too)
  row_encoded pen cells below_too p =
      let background = background_at_end cells in
      encodings_append width tall (cells_written pen (less_blanks background cells)) (end_cleared background below_too)
      (runs_encoded pen (cell_runs (less_blanks background cells)) (runs_spelled (less_blanks background cells) (less_spelled background cells p)))
      (end_encoded background below_too (background_spelled cells p))

  next_encoded : (changes : List ChangeValue) → Encoded changes → Encoded (in_next_row changes)
  next_encoded [] p = tt
  next_encoded (change ∷ changes) p = (is_encoded width tall (CursorPosition (Absolute 0) (Relative (pos 1))) tt (coordinate_some width tall 0 (Relative (pos 1)) some) tt, p)

  pub rows_encoded : (pen : Attributes) (rows : List Row) → All IsSpelledRow rows → Encoded (rows_painted pen rows)
  rows_encoded pen [] p = tt
  rows_encoded pen (row ∷ below) p =
      let below_too = go_with_blanks (background_at_end (row_cells row)) below in
      let own = row_painted pen (row_cells row) below_too in
      let first = row_encoded pen (row_cells row) below_too (visible_spelled 0 row (All-head IsSpelledRow row below p)) in
      let rest = next_encoded (rows_painted (pen_left pen own) below) (rows_encoded (pen_left pen own) below (All-tail IsSpelledRow row below p)) in
      cond_both below_too own (own ++ in_next_row (rows_painted (pen_left pen own) below)) Encoded (λ e. first) (λ e. encodings_append width tall own (in_next_row (rows_painted (pen_left pen own) below)) first rest)

  title_encoded : (title : List ℕ) → HaveEncodings width tall (Title title ∷ []) → Encoded (title_due title)
  title_encoded [] h = tt
  title_encoded (byte ∷ title) h = h

-- ---- except the position of a pending wrap and the cursor's shape

rest_append : (s : Screen) (xs ys : List ChangeValue) → HaveOtherEncodings s xs → HaveOtherEncodings s ys → HaveOtherEncodings s (xs ++ ys)
rest_append s [] ys p q = q
rest_append s (x ∷ xs) ys p q = (p.0, rest_append s xs ys p.1 q)

all_rest : (s : Screen) (xs : List ChangeValue) → HaveEncodings s.width (height s) xs → HaveOtherEncodings s xs
all_rest s [] p = tt
all_rest s (x ∷ xs) p = (inl p.0, all_rest s xs p.1)

-- the changes before the cursor's position: a clear with the cursor hidden, the title, and the rows
abbrev prefix_of : Display → List ChangeValue
prefix_of d = (CursorVisibility Hidden ∷ ClearScreen attribute.Default ∷ []) ++ title_due d.screen.title ++ rows_painted plain d.screen.rows

prefix_encoded : (d : Display) → IsDisplay d → IsSpelledScreen d.screen → HaveEncodings d.screen.width (height d.screen) (prefix_of d)
prefix_encoded d h p =
    let w = d.screen.width in
    let n = height d.screen in
    let begin = CursorVisibility Hidden ∷ ClearScreen attribute.Default ∷ [] in
    encodings_append w n (begin ++ title_due d.screen.title) (rows_painted plain d.screen.rows)
    (encodings_append w n begin (title_due d.screen.title)
    (is_encoded w n (CursorVisibility Hidden) tt tt tt, (is_encoded w n (ClearScreen attribute.Default) tt tt tt, tt))
    (title_encoded w n h.lawful.wide_enough d.screen.title (is_encoded w n (Title d.screen.title) p.title tt tt, tt)))
    (rows_encoded w n h.lawful.wide_enough plain d.screen.rows p.rows)

pub placed_encoded : (width tall : ℕ) (painted : Bool) (column row : ℕ) → column < width → HaveEncodings width tall (cursor_placed painted column row)
placed_encoded width tall painted column row h =
    cond_both (not painted && (column == 0 && row == 0)) _ _ (HaveEncodings width tall) (λ e. tt)
    (λ e. (is_encoded width tall (CursorPosition (Absolute column) (Absolute row)) tt (coordinate_some width tall column (Absolute row) h) tt, tt))

pub shown_encoded : (width tall : ℕ) (visible : Bool) → HaveEncodings width tall (cursor_shown visible None)
shown_encoded width tall true = (is_encoded width tall (CursorVisibility Visible) tt tt tt, tt)
shown_encoded width tall false = tt

pub repaint_encoded : (d : Display) → IsDisplay d → IsSpelledScreen d.screen → d.screen.column < d.screen.width → d.shape ≡ None → HaveEncodings d.screen.width (height d.screen) (repaint d)
repaint_encoded d h p c e =
    let s = d.screen in
    let painted = rows_painted plain s.rows in
    let placed = cursor_placed (are_some painted) s.column s.row in
    let due = attributes_due (pen_left plain painted) s.pen in
    encodings_append s.width (height s) (prefix_of d ++ placed ++ due) (cursor_shown s.visible d.shape)
    (encodings_append s.width (height s) (prefix_of d ++ placed) due
    (encodings_append s.width (height s) (prefix_of d) placed (prefix_encoded d h p) (placed_encoded s.width (height s) (are_some painted) s.column s.row c))
    (due_encoded s.width (height s) h.lawful.wide_enough (pen_left plain painted) s.pen p.pen))
    (subst (λ shape. HaveEncodings s.width (height s) (cursor_shown s.visible shape)) (sym e) (shown_encoded s.width (height s) s.visible))

position_or : (s : Screen) (painted : Bool) → IsScreen s → HaveOtherEncodings s (cursor_placed painted s.column s.row)
position_or s painted h = cond_both (not painted && (s.column == 0 && s.row == 0)) _ _ (HaveOtherEncodings s) (λ e. tt) (λ e. (either (order s.column s.width), tt))
  where
    either : (s.column < s.width) ⊎ (s.width ≤ s.column) → HasEncoding s.width (height s) (CursorPosition (Absolute s.column) (Absolute s.row)) ⊎ IsLeftOut s (CursorPosition (Absolute s.column) (Absolute s.row))
    either (inl l) = inl (is_encoded s.width (height s) (CursorPosition (Absolute s.column) (Absolute s.row)) tt (coordinate_some s.width (height s) s.column (Absolute s.row) l) tt)
    either (inr l) = let k = h.column_in in inr (inl (omega arith, refl))

shape_or : (s : Screen) (visible : Bool) (shape : Option Shape) → HaveOtherEncodings s (cursor_shown visible shape)
shape_or s true None = (inl (is_encoded s.width (height s) (CursorVisibility Visible) tt tt tt), tt)
shape_or s true (Some shape) = (inl (is_encoded s.width (height s) (CursorVisibility Visible) tt tt tt), (inr (inr (shape, refl)), tt))
shape_or s false shape = tt

pub repaint_rest : (d : Display) → IsDisplay d → IsSpelledScreen d.screen → HaveOtherEncodings d.screen (repaint d)
repaint_rest d h p =
    let s = d.screen in
    let painted = rows_painted plain s.rows in
    let placed = cursor_placed (are_some painted) s.column s.row in
    let due = attributes_due (pen_left plain painted) s.pen in
    rest_append s (prefix_of d ++ placed ++ due) (cursor_shown s.visible d.shape)
    (rest_append s (prefix_of d ++ placed) due
    (rest_append s (prefix_of d) placed (all_rest s (prefix_of d) (prefix_encoded d h p)) (position_or s (are_some painted) h.lawful))
    (all_rest s due (due_encoded s.width (height s) h.lawful.wide_enough (pen_left plain painted) s.pen p.pen)))
    (shape_or s s.visible d.shape)
