-- How many changes an update has.
use Rattle.std.proofs.Common.{◌≡◌, ℕ, ◌+◌, ◌-◌, ◌*◌, ◌<◌, ◌≤◌, Bool, true, false, List, [], ◌∷◌, ◌++◌, length, drop, map, sym, ap, subst, arith, length-append, length-drop}
use Rattle.std.specs.Prelude.{All, ◌==◌, ◌||◌, not, nat_lt, Option, Some, None, if◌then◌else◌}
use Rattle.std.specs.List.{concat, flat_map, list_any}
use Rattle.std.proofs.lemmas.Bool.{or_parts}
use Rattle.std.proofs.lemmas.Bool.Decides.{nat_tests}
use Rattle.std.proofs.lemmas.List.{length-map}
use Rattle.std.proofs.lemmas.List.Elements.{All-head, All-tail}
use Rattle.cell_base.specs.declared.attributes.Position.TheVariants.{Absolute}
use Rattle.cell_base.specs.declared.color.ColorAttribute.{ColorAttribute}
use Rattle.cell_base.specs.declared.color.ColorAttribute.TheVariants as attribute
use Rattle.cell_base.specs.Attributes.{Attributes, plain}
use Rattle.cell_base.specs.CellContent.{CellContent}
use Rattle.cell_base.specs.Row.{Row, Narrow, LeftHalf, RightHalf}
use Rattle.cell_base.specs.SameAttributes.{same_attributes}
use Rattle.cell_base.specs.Screen.{Screen, IsScreen, height}
use Rattle.screen_change.specs.CellChanges.{attributes_due, cells_written, clear_due, runs_written}
use Rattle.screen_change.specs.CellRuns.{CellRun, background_at_end, before_runs, cell_runs, is_blank_of, less_blanks}
use Rattle.screen_change.specs.ChangeValue.{ChangeValue, AllAttributes, CursorPosition, Text}
use Rattle.screen_change.specs.Texts.{stay_independent, texts}
use Rattle.cell_base.specs.UpToLast.{up_to_last}
use Rattle.screen_change.proofs.TextLemmas.{by_test}
use Rattle.cell_edits.specs.VisibleCells.{VisibleCell, contents, visible_from}
use Rattle.screen_log.specs.Log.{Log, due, first_number, most_due}
use Rattle.screen_log.specs.LogSteps.{Sized}
use Rattle.screen_effects.specs.Effect.{cursor_row}
use Rattle.screen_repaint.specs.Repaint.{cursor_shown, end_cleared, go_with_blanks, in_next_row, pen_left, row_cells, row_painted, rows_painted}
use Rattle.terminal_table.specs.Led.{last_cell, written_again}
use Rattle.terminal_viewers.specs.Update.{due_or, painted_anew, as_encoded, update_changes}
use Rattle.terminal_viewers.proofs.PaintLemmas.{due_of, prefix_of, painted_rows, position_of, encoded_here, encoded_is, encoded_there}

-- ---- runs of cells

texts_count : (cells : List (List ℕ)) → length (texts cells) ≤ length cells
unfolding texts
texts_count [] = omega arith
texts_count (cell ∷ cells) = by_answer (stay_independent (cell ∷ cells))
  where
    by_answer : (b : Bool) → length (if b then concat (cell ∷ cells) ∷ [] else cell ∷ cells) ≤ length (cell ∷ cells)
    by_answer true = omega arith
    by_answer false = omega arith

-- the number of runs, and of their cells
abbrev runs_size : List CellRun → ℕ
runs_size [] = 0
runs_size (run ∷ runs) = 1 + length run.cells + runs_size runs

due_count : (pen a : Attributes) → length (attributes_due pen a) ≤ 1
due_count pen a = by_answer (same_attributes a pen)
  where
    by_answer : (b : Bool) → length (if b then [] else AllAttributes a ∷ []) ≤ 1
    by_answer true = omega arith
    by_answer false = omega arith

runs_count : (pen : Attributes) (runs : List CellRun) → length (runs_written pen runs) ≤ runs_size runs
runs_count pen [] = omega arith
runs_count pen (run ∷ runs) =
    let due : List ChangeValue = attributes_due pen run.attributes in
    let own : List ChangeValue = map Text (texts run.cells) in
    let remaining : List ChangeValue = runs_written run.attributes runs in
    let first = length-append (due ++ own) remaining in
    let second = length-append due own in
    let count : length own ≡ length (texts run.cells) = length-map (texts run.cells) Text in
    let a = due_count pen run.attributes in
    let b = texts_count run.cells in
    let c = runs_count run.attributes runs in
    omega arith

before_size : (cell : CellContent) (runs : List CellRun) → runs_size (before_runs cell runs) ≤ 2 + runs_size runs
before_size cell [] = omega arith
before_size cell (run ∷ runs) = by_answer (same_attributes cell.attributes run.attributes)
  where
    by_answer : (b : Bool) → runs_size (if b then record run { cells = cell.text ∷ run.cells } ∷ runs else record { attributes = cell.attributes; cells = cell.text ∷ [] } ∷ run ∷ runs) ≤ 2 + runs_size (run ∷ runs)
    by_answer true = omega arith
    by_answer false = omega arith

size_is : (cells : List CellContent) → runs_size (cell_runs cells) ≤ 2 * length cells
size_is [] = omega arith
size_is (cell ∷ cells) = let a = before_size cell (cell_runs cells) in let b = size_is cells in omega arith

-- ---- rows

kept_count : (passes : CellContent → Bool) (cells : List CellContent) → length (up_to_last passes cells) ≤ length cells
kept_count passes [] = omega arith
kept_count passes (cell ∷ cells) = by_answer (passes cell || list_any passes cells) (kept_count passes cells)
  where
    by_answer : (b : Bool) → length (up_to_last passes cells) ≤ length cells → length (if b then cell ∷ up_to_last passes cells else []) ≤ length (cell ∷ cells)
    by_answer true h = omega (arith, h)
    by_answer false h = omega arith

less_count : (background : Option ColorAttribute) (cells : List CellContent) → length (less_blanks background cells) ≤ length cells
less_count None cells = omega arith
less_count (Some color) cells = kept_count (λ cell. not (is_blank_of color cell)) cells

clear_count : (color : ColorAttribute) → length (clear_due color) ≤ 1
clear_count (attribute.TrueColorWithPaletteFallback c index) = omega arith
clear_count (attribute.TrueColorWithDefaultFallback c) = omega arith
clear_count (attribute.PaletteIndex index) = omega arith
clear_count attribute.Default = omega arith

end_count : (background : Option ColorAttribute) (below_too : Bool) → length (end_cleared background below_too) ≤ 1
end_count None below_too = omega arith
end_count (Some color) true = omega arith
end_count (Some color) false = clear_count color

cells_count : (at : ℕ) (row : Row) → length (contents (visible_from at row)) ≤ length row
cells_count at [] = omega arith
cells_count at (Narrow text attributes ∷ row) = let h = cells_count (at + 1) row in omega (arith, h)
cells_count at (LeftHalf text attributes ∷ row) = let h = cells_count (at + 1) row in omega (arith, h)
cells_count at (RightHalf attributes ∷ row) = let h = cells_count (at + 1) row in omega (arith, h)

row_count : (pen : Attributes) (row : Row) (below_too : Bool) → length (row_painted pen (row_cells row) below_too) ≤ 2 * length row + 1
row_count pen row below_too =
    let cells : List CellContent = row_cells row in
    let background = background_at_end cells in
    let kept : List CellContent = less_blanks background cells in
    let whole = length-append (cells_written pen kept) (end_cleared background below_too) in
    let a = runs_count pen (cell_runs kept) in
    let b = size_is kept in
    let c = less_count background cells in
    let d = cells_count 0 row in
    let e = end_count background below_too in
    omega (arith, whole, a, b, c, d, e)

next_count : (changes : List ChangeValue) → length (in_next_row changes) ≤ length changes + 1
next_count [] = omega arith
next_count (change ∷ changes) = omega arith

rows_count : (width : ℕ) (pen : Attributes) (rows : List Row) → All (λ row. length row ≡ width) rows → length (rows_painted pen rows) ≤ (2 * width + 2) * length rows
rows_count width pen [] h = omega arith
rows_count width pen (row ∷ below) h =
    let cells : List CellContent = row_cells row in
    let below_too : Bool = go_with_blanks (background_at_end cells) below in
    let own : List ChangeValue = row_painted pen cells below_too in
    let rest : List ChangeValue = rows_painted (pen_left pen own) below in
    let wide : length row ≡ width = All-head (λ (r : Row). length r ≡ width) row below h in
    let a : length own ≤ 2 * width + 1 = subst (λ n. length own ≤ 2 * n + 1) wide (row_count pen row below_too) in
    let b : length (in_next_row rest) ≤ length rest + 1 = next_count rest in
    let c : length rest ≤ (2 * width + 2) * length below = rows_count width (pen_left pen own) below (All-tail (λ (r : Row). length r ≡ width) row below h) in
    by_answer below_too own (in_next_row rest) a (omega (arith, b, c))
  where
    by_answer : (b : Bool) (own rest : List ChangeValue) → length own ≤ 2 * width + 1 → length rest ≤ (2 * width + 2) * length below + 1 → length (if b then own else own ++ rest) ≤ (2 * width + 2) * length (row ∷ below)
    by_answer true own rest p q = omega (arith, p)
    by_answer false own rest p q = let whole = length-append own rest in omega (arith, p, q, whole)

-- ---- the screen painted anew

again_count : (s : Screen) (o : Option VisibleCell) → length (written_again s o) ≤ 4
again_count s None = omega arith
again_count s (Some v) = omega arith

position_count : (s : Screen) → 0 < s.width → length (flat_map (as_encoded s) (position_of s)) ≤ 4
position_count s wide =
    by_test (s.column == s.width)
    (λ e. subst (λ (cs : List ChangeValue). length cs ≤ 4) (sym (encoded_there s wide e)) (again_count s (last_cell (cursor_row s))))
    (λ e. subst (λ (cs : List ChangeValue). length cs ≤ 4) (sym (encoded_here s e)) (one_position _))
  where
    one_position : (b : Bool) → length (if b then [] else CursorPosition (Absolute s.column) (Absolute s.row) ∷ []) ≤ 4
    one_position true = omega arith
    one_position false = omega arith

shown_count : (visible : Bool) → length (cursor_shown visible None) ≤ 1
shown_count true = omega arith
shown_count false = omega arith

abbrev pub bound_of : Screen → ℕ
bound_of s = 2 * s.width * height s + 2 * height s + 11

pub painted_count : (s : Screen) → IsScreen s → length (painted_anew s) ≤ bound_of s
painted_count s h =
    let position : List ChangeValue = flat_map (as_encoded s) (position_of s) in
    let shown : List ChangeValue = cursor_shown s.visible None in
    let rows : List ChangeValue = painted_rows s in
    let a : length (painted_anew s) ≡ length (prefix_of s ++ position ++ due_of s ++ shown) = ap length (encoded_is s h.wide_enough) in
    let b = length-append (prefix_of s ++ position ++ due_of s) shown in
    let c = length-append (prefix_of s ++ position) (due_of s) in
    let d = length-append (prefix_of s) position in
    let prefix : length (prefix_of s) ≡ 3 + length rows = omega arith in
    let e = rows_count s.width plain s.rows h.even in
    let f = position_count s h.wide_enough in
    let g = due_count (pen_left plain rows) s.pen in
    let k = shown_count s.visible in
    omega (arith, a, b, c, d, e, f, g, k, prefix)

-- ---- an update

most_bound : (s : Screen) (most : ℕ) → most ≡ most_due s.width (height s) → most ≤ bound_of s
most_bound s most e = omega (arith, e)

-- the changes that are due, or else those that paint the screen, are at most `bound`
due_within : (most bound : ℕ) (l : Log) (number : ℕ) (painted : List ChangeValue) → length l.entries ≤ l.number → most ≤ bound → length painted ≤ bound → length (due_or painted (due most l number)) ≤ bound
due_within most bound l number painted counted m p =
    by_test (number == 0 || nat_lt number (first_number l) || nat_lt l.number number || nat_lt most (l.number - number))
    (λ e. subst (λ b. length (due_or painted (if b then None else Some changes)) ≤ bound) (sym e) p)
    (λ e.
    let x = or_parts (number == 0 || nat_lt number (first_number l) || nat_lt l.number number) (nat_lt most (l.number - number)) e in
    let y = or_parts (number == 0 || nat_lt number (first_number l)) (nat_lt l.number number) x.0 in
    let z = or_parts (number == 0) (nat_lt number (first_number l)) y.0 in
    subst (λ b. length (due_or painted (if b then None else Some changes)) ≤ bound) (sym e) (in_bound x.1 y.1 z.1))
  where
    changes : List ChangeValue
    changes = drop (number - first_number l) l.entries

    in_bound : nat_lt most (l.number - number) ≡ false → nat_lt l.number number ≡ false → nat_lt number (first_number l) ≡ false → length (drop (number - first_number l) l.entries) ≤ bound
    in_bound a b c =
        let within : l.number - number ≤ most = grind (arith, nat_tests) in
        let not_above : number ≤ l.number = grind (arith, nat_tests) in
        let not_before : first_number l ≤ number = grind (arith, nat_tests) in
        let count = length-drop (number - first_number l) l.entries in
        omega (arith, count, within, not_above, not_before, counted, m)

pub update_count : (s : Screen) (log : Sized) (number : ℕ) → IsScreen s → length log.log.entries ≤ log.log.number → log.most ≡ most_due s.width (height s) → length (update_changes s log number) ≤ bound_of s
update_count s log number h counted e = due_within log.most (bound_of s) log.log number (painted_anew s) counted (most_bound s log.most e) (painted_count s h)
