-- The last cell of a row, written once more at its position.
use Rattle.std.proofs.Common.{◌≡◌, ℕ, ◌+◌, ◌-◌, ◌<◌, ◌≤◌, Bool, true, false, List, [], ◌∷◌, ◌++◌, length, get_or, set, drop, map, refl, sym, ap, ◌∙◌, subst, arith, append-nil, length-append}
use Rattle.std.specs.Prelude.{◌==◌, min, nat_le, Option, Some, None, fold, if◌then◌else◌}
use Rattle.std.proofs.lemmas.Bool.Decides.{nat_tests}
use Rattle.std.proofs.lemmas.List.{drop_all, set-get_or, take_at}
use Rattle.cell_base.specs.declared.attributes.Position.TheVariants.{Absolute}
use Rattle.cell_base.specs.Attributes.{Attributes}
use Rattle.cell_base.specs.Row.{Row, Narrow, LeftHalf, RightHalf, closed_end, closed_start, columns_of, set_columns}
use Rattle.cell_base.specs.SameAttributes.{same_attributes_decides}
use Rattle.cell_base.specs.Screen.{Screen, write_columns}
use Rattle.screen_change.specs.CellChanges.{attributes_due}
use Rattle.screen_change.specs.ChangeValue.{ChangeValue, AllAttributes, CursorPosition, Text}
use Rattle.screen_change.specs.Texts.{stay_independent, texts}
use Rattle.screen_change.proofs.TextLemmas.{by_test, each_text, one_text}
use Rattle.cell_edits.specs.VisibleCells.{VisibleCell, visible_at, visible_from}
use Rattle.cell_base.specs.WholeRow.{IsWhole}
use Rattle.cell_base.proofs.RowLemmas.{whole_ends}
use Rattle.screen_effects.specs.Display.{Display, IsDisplay}
use Rattle.screen_effects.specs.Effect.{cursor_row, effect, on_screen, replay}
use Rattle.screen_effects.specs.Positions.{resolved_column, resolved}
use Rattle.screen_effects.proofs.EffectLaws.{replay_is}
use Rattle.screen_effects.specs.WrittenCells.{IsSoundDisplay, IsSoundRow, IsSoundText}
use Rattle.screen_effects.proofs.WrittenLemmas.{one_run, row_of_texts, text_columns}
use Rattle.terminal_table.specs.Led.{last_cell, written_again}

-- ---- the last cell of a row

abbrev pub cell_columns : VisibleCell → Row
cell_columns v = columns_of v.cell.text (nat_le 2 v.cell.width) v.cell.attributes

-- a row, whose first column is `at`, ends in a cell, whose columns follow whole ones
pub record LastCell (width_of : List ℕ → ℕ) (at : ℕ) (row : Row) : Type 0 where
  pub cell : VisibleCell
  pub before : Row
  pub last : (start : Option VisibleCell) → fold (λ _ v. Some v) start (visible_from at row) ≡ Some cell
  pub whole : IsWhole before
  pub same : row ≡ before ++ cell_columns cell
  pub column : cell.column ≡ at + length before
  pub sound : IsSoundText width_of cell.cell.text (nat_le 2 cell.cell.width)
  pub some : 1 ≤ cell.cell.width
  pub most : cell.cell.width ≤ 2
  pub fills : length (cell_columns cell) ≡ cell.cell.width

pub last_cell_is : (width_of : List ℕ → ℕ) (at : ℕ) (row : Row) → 0 < length row → IsWhole row → IsSoundRow width_of row → LastCell width_of at row
last_cell_is width_of at [] n w p = absurd (omega (arith, n))
last_cell_is width_of at (Narrow text attributes ∷ []) n w p =
    record { cell = visible_at at text 1 attributes; before = []; last = λ start. refl; whole = tt; same = refl; column = omega arith; sound = p.0; some = omega arith; most = omega arith; fills = refl }
last_cell_is width_of at (Narrow text attributes ∷ next ∷ row) n w p =
    let rest = last_cell_is width_of (at + 1) (next ∷ row) (omega arith) w p.1 in
    let column = rest.column in
    record {
      cell = rest.cell;
      before = Narrow text attributes ∷ rest.before;
      last = λ start. rest.last (Some (visible_at at text 1 attributes));
      whole = rest.whole;
      same = ap (λ (r : Row). Narrow text attributes ∷ r) rest.same;
      column = omega arith;
      sound = rest.sound;
      some = rest.some;
      most = rest.most;
      fills = rest.fills;
    }
last_cell_is width_of at (RightHalf attributes ∷ row) n w p = absurd w
last_cell_is width_of at (LeftHalf text attributes ∷ []) n w p = absurd w
last_cell_is width_of at (LeftHalf text attributes ∷ Narrow other remaining ∷ row) n w p = absurd w
last_cell_is width_of at (LeftHalf text attributes ∷ LeftHalf other remaining ∷ row) n w p = absurd w
last_cell_is width_of at (LeftHalf text attributes ∷ RightHalf remaining ∷ []) n w p =
    record { cell = visible_at at text 2 attributes; before = []; last = λ start. refl; whole = tt; same = ap (λ (a : Attributes). LeftHalf text attributes ∷ RightHalf a ∷ []) w.0; column = omega arith; sound = p.0; some = omega arith; most = omega arith; fills = refl }
last_cell_is width_of at (LeftHalf text attributes ∷ RightHalf remaining ∷ next ∷ row) n w p =
    let rest = last_cell_is width_of (at + 1 + 1) (next ∷ row) (omega arith) w.1 p.1 in
    let column = rest.column in
    record {
      cell = rest.cell;
      before = LeftHalf text attributes ∷ RightHalf remaining ∷ rest.before;
      last = λ start. rest.last (Some (visible_at at text 2 attributes));
      whole = (w.0, rest.whole);
      same = ap (λ (r : Row). LeftHalf text attributes ∷ RightHalf remaining ∷ r) rest.same;
      column = omega arith;
      sound = rest.sound;
      some = rest.some;
      most = rest.most;
      fills = rest.fills;
    }

columns_count : (text : List ℕ) (wide : Bool) (a : Attributes) → 0 < length (columns_of text wide a)
columns_count text true a = omega arith
columns_count text false a = omega arith

-- columns at the end of a row, after whole ones, that are set once more leave the row as it is
pub set_again : (before columns : Row) → IsWhole before → set_columns (before ++ columns) (length before) columns ≡ before ++ columns
set_again before columns w =
    let row : Row = before ++ columns in
    let count : length row ≡ length before + length columns = length-append before columns in
    ap (λ (r : Row). closed_end r ++ columns ++ closed_start (drop (length before + length columns) row)) (take_at before columns (length before) refl)
    ∙ ap (λ (r : Row). closed_end before ++ columns ++ closed_start r) (drop_all (length before + length columns) row (omega (arith, count)))
    ∙ append-nil (closed_end before ++ columns)
    ∙ ap (λ (r : Row). r ++ columns) (whole_ends before w)

-- ---- one text that fits

pub one_text_is : (text : List ℕ) → texts (text ∷ []) ≡ text ∷ []
one_text_is text = by_test (stay_independent (text ∷ [])) (λ e. one_text text [] e ∙ ap (λ (t : List ℕ). t ∷ []) (append-nil text)) (λ e. each_text text [] e)

pub none_due : (a : Attributes) → attributes_due a a ≡ []
none_due a = ap (λ b. if b then [] else AllAttributes a ∷ []) ((same_attributes_decides a a).1 refl)

-- it is its columns
pub text_written : (width_of : List ℕ → ℕ) (d : Display) (text : List ℕ) (wide : Bool) → IsDisplay d → IsSoundText width_of text wide → d.screen.column + length (columns_of text wide d.screen.pen) ≤ d.screen.width
    → effect width_of d (Text text) ≡ on_screen (write_columns (columns_of text wide d.screen.pen)) d
text_written width_of d text wide h p fits =
    let pen : Attributes = d.screen.pen in
    let own : row_of_texts width_of pen (text ∷ []) ≡ columns_of text wide pen = append-nil (text_columns width_of pen text) ∙ ap (λ b. columns_of text b pen) p.width in
    let written : attributes_due pen pen ++ map Text (texts (text ∷ [])) ≡ Text text ∷ [] = λ i. none_due pen i ++ map Text (one_text_is text i) in
    ap (λ (changes : List ChangeValue). replay width_of d changes) (sym written)
    ∙ one_run width_of pen (text ∷ []) d h (p.stands, tt) (subst (λ (r : Row). d.screen.column + length r ≤ d.screen.width) (sym own) fits)
    ∙ ap (λ (r : Row). on_screen (write_columns r) d) own

-- ---- positions

pub column_is : (width from column : ℕ) → column < width → resolved_column width from (Absolute column) ≡ column
column_is width from column h =
    let other : (column == width) ≡ false = grind (arith, nat_tests) in
    ap (λ x. if x then width else min column (width - 1)) other ∙ omega arith

pub row_is : (size from row : ℕ) → row < size → resolved size from (Absolute row) ≡ row
row_is size from row h = omega arith

-- ---- the last cell of the cursor's row, written once more

-- on a display with the screen's rows the changes keep the rows, put the cursor after the last column of its row, and set the pen
pub written_is : (width_of : List ℕ → ℕ) (s : Screen) (d : Display) → IsDisplay d → IsSoundDisplay width_of d → d.screen.rows ≡ s.rows → s.row < length s.rows
    → replay width_of d (written_again s (last_cell (cursor_row s))) ≡ on_screen (λ t. record t { column = t.width; row = s.row; pen = s.pen }) d
written_is width_of s d h sound rows in_rows =
    let width : ℕ = d.screen.width in
    let tall : s.row < length d.screen.rows = subst (λ (rs : List Row). s.row < length rs) (sym rows) in_rows in
    let row : Row = get_or d.screen.rows s.row [] in
    let even : length row ≡ width = h.lawful.even s.row [] tall in
    let wide : 0 < width = h.lawful.wide_enough in
    let end : LastCell width_of 0 row = last_cell_is width_of 0 row (omega (arith, even)) (h.whole s.row [] tall) (sound s.row [] tall) in
    let v : VisibleCell = end.cell in
    let columns : Row = cell_columns v in
    let last : last_cell (cursor_row s) ≡ Some v = ap (λ (rs : List Row). last_cell (get_or rs s.row [])) (sym rows) ∙ end.last None in
    let count : length row ≡ length end.before + length columns = ap length end.same ∙ length-append end.before columns in
    let some : 0 < length columns = columns_count v.cell.text (nat_le 2 v.cell.width) v.cell.attributes in
    let at : v.column ≡ length end.before = end.column ∙ omega arith in
    let before : v.column < width = omega (arith, even, count, some, at) in
    let moves : List ChangeValue = CursorPosition (Absolute v.column) (Absolute s.row) ∷ AllAttributes v.cell.attributes ∷ [] in
    let there : Display = on_screen (λ t. record t { column = v.column; row = s.row; pen = v.cell.attributes }) d in
    let moved : replay width_of d moves ≡ there = λ i. on_screen (λ t. record t { column = column_is width d.screen.column v.column before i; row = row_is (length d.screen.rows) d.screen.row s.row tall i; pen = v.cell.attributes }) d in
    let lawful : IsDisplay there = subst IsDisplay moved (replay_is width_of moves d h) in
    let fits : v.column + length columns ≡ width = omega (arith, even, count, at) in
    let set_is : set_columns row v.column columns ≡ row =
    (λ i. set_columns (end.same i) (at i) columns) ∙ set_again end.before columns end.whole ∙ sym end.same in
    let same : set d.screen.rows s.row (set_columns row v.column columns) ≡ d.screen.rows = ap (λ (r : Row). set d.screen.rows s.row r) set_is ∙ set-get_or d.screen.rows s.row [] in
    ap (λ o. replay width_of d (written_again s o)) last
    ∙ ap (λ (e : Display). replay width_of e (Text v.cell.text ∷ AllAttributes s.pen ∷ [])) moved
    ∙ ap (λ (e : Display). effect width_of e (AllAttributes s.pen)) (text_written width_of there v.cell.text (nat_le 2 v.cell.width) lawful end.sound (omega (arith, fits)))
    ∙ (λ i. on_screen (λ t. record t { rows = same i; column = fits i; row = s.row; pen = s.pen }) d)
