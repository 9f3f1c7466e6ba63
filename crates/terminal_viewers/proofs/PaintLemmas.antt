-- The changes that paint a screen anew, and the display to which their replay leads.
use Rattle.std.proofs.Common.{◌≡◌, ℕ, ◌-◌, ◌<◌, Bool, true, false, List, [], ◌∷◌, ◌++◌, length, map, refl, sym, ap, ◌∙◌, subst, arith, append-nil}
use Rattle.std.specs.Prelude.{All, ⊤, ◌==◌, ◌&&◌, min, not, Option, Some, None, if◌then◌else◌}
use Rattle.std.specs.List.{flat_map}
use Rattle.std.proofs.lemmas.Bool.Decides.{nat_tests}
use Rattle.std.proofs.lemmas.List.{map-id}
use Rattle.std.proofs.lemmas.List.Concat.{flat_map-append, flat_map_single}
use Rattle.std.proofs.lemmas.List.Sums.{fold-append}
use Rattle.cell_base.specs.declared.attributes.CursorVisibility.TheVariants.{Hidden}
use Rattle.cell_base.specs.declared.attributes.Position.TheVariants.{Absolute}
use Rattle.cell_base.specs.declared.color.ColorAttribute.{ColorAttribute}
use Rattle.cell_base.specs.declared.color.ColorAttribute.TheVariants as attribute
use Rattle.cell_base.specs.Attributes.{Attributes, plain}
use Rattle.cell_base.specs.CellContent.{CellContent}
use Rattle.cell_base.specs.Row.{Row, space}
use Rattle.cell_base.specs.SameAttributes.{same_attributes}
use Rattle.cell_base.specs.Screen.{Screen}
use Rattle.screen_change.specs.CellChanges.{attributes_due, cells_written, clear_due, runs_written}
use Rattle.screen_change.specs.CellRuns.{CellRun, background_at_end, cell_runs, less_blanks}
use Rattle.screen_change.specs.ChangeValue.{ChangeValue, AllAttributes, ClearScreen, ClearToEndOfLine, ClearToEndOfScreen, CursorPosition, CursorVisibility, Text, Title}
use Rattle.screen_change.specs.Texts.{texts}
use Rattle.screen_change.proofs.TextLemmas.{by_test}
use Rattle.screen_effects.specs.Display.{Display, IsDisplay}
use Rattle.screen_effects.specs.Effect.{cursor_row, effect, on_screen, replay, with_pen}
use Rattle.screen_effects.specs.Positions.{resolved_column}
use Rattle.screen_effects.proofs.EffectLaws.{replay_is}
use Rattle.screen_repaint.specs.Repaint.{are_some, cursor_placed, cursor_shown, end_cleared, go_with_blanks, in_next_row, pen_left, repaint_with, row_cells, row_painted, rows_painted}
use Rattle.screen_repaint.specs.Shown.{shown_on}
use Rattle.screen_repaint.proofs.WholeLemmas.{titled_is_shown}
use Rattle.screen_effects.specs.WrittenCells.{IsSoundDisplay, IsSoundRow}
use Rattle.terminal_table.specs.Led.{last_cell, written_again}
use Rattle.terminal_table.proofs.PositionLemmas.{row_is, written_is}
use Rattle.terminal_viewers.specs.Update.{display_on, painted_anew, as_encoded}

-- ---- the changes of rows

-- the changes of rows: attributes, texts, clears to the end of a line or of the screen, and moves to the first column
abbrev pub IsOfRow : ChangeValue → Type 0
IsOfRow (AllAttributes attributes) = ⊤
IsOfRow (Text text) = ⊤
IsOfRow (ClearToEndOfLine color) = ⊤
IsOfRow (ClearToEndOfScreen color) = ⊤
IsOfRow (CursorPosition (Absolute column) y) = column ≡ 0
IsOfRow _ = ⊥

abbrev pub AreOfRow : List ChangeValue → Type 0
AreOfRow [] = ⊤
AreOfRow (change ∷ changes) = IsOfRow change × AreOfRow changes

of_row_append : (xs ys : List ChangeValue) → AreOfRow xs → AreOfRow ys → AreOfRow (xs ++ ys)
of_row_append [] ys p q = q
of_row_append (x ∷ xs) ys p q = (p.0, of_row_append xs ys p.1 q)

due_of_row : (pen a : Attributes) → AreOfRow (attributes_due pen a)
due_of_row pen a = by_answer (same_attributes a pen)
  where
    by_answer : (b : Bool) → AreOfRow (if b then [] else AllAttributes a ∷ [])
    by_answer true = tt
    by_answer false = (tt, tt)

texts_of_row : (ts : List (List ℕ)) → AreOfRow (map Text ts)
texts_of_row [] = tt
texts_of_row (t ∷ ts) = (tt, texts_of_row ts)

runs_of_row : (pen : Attributes) (runs : List CellRun) → AreOfRow (runs_written pen runs)
runs_of_row pen [] = tt
runs_of_row pen (run ∷ runs) =
    of_row_append (attributes_due pen run.attributes ++ map Text (texts run.cells)) (runs_written run.attributes runs)
    (of_row_append (attributes_due pen run.attributes) (map Text (texts run.cells)) (due_of_row pen run.attributes) (texts_of_row (texts run.cells)))
    (runs_of_row run.attributes runs)

clear_of_row : (color : ColorAttribute) → AreOfRow (clear_due color)
clear_of_row (attribute.TrueColorWithPaletteFallback c index) = (tt, tt)
clear_of_row (attribute.TrueColorWithDefaultFallback c) = (tt, tt)
clear_of_row (attribute.PaletteIndex index) = (tt, tt)
clear_of_row attribute.Default = tt

end_of_row : (background : Option ColorAttribute) (below_too : Bool) → AreOfRow (end_cleared background below_too)
end_of_row None below_too = tt
end_of_row (Some color) true = (tt, tt)
end_of_row (Some color) false = clear_of_row color

next_of_row : (changes : List ChangeValue) → AreOfRow changes → AreOfRow (in_next_row changes)
next_of_row [] p = tt
next_of_row (change ∷ changes) p = (refl, p)

pub rows_of_row : (pen : Attributes) (rows : List Row) → AreOfRow (rows_painted pen rows)
rows_of_row pen [] = tt
rows_of_row pen (row ∷ below) =
    let cells : List CellContent = row_cells row in
    let background = background_at_end cells in
    let below_too : Bool = go_with_blanks background below in
    let own : List ChangeValue = row_painted pen cells below_too in
    let rest : List ChangeValue = rows_painted (pen_left pen own) below in
    by_answer below_too own (in_next_row rest)
    (of_row_append (cells_written pen (less_blanks background cells)) (end_cleared background below_too) (runs_of_row pen (cell_runs (less_blanks background cells))) (end_of_row background below_too))
    (next_of_row rest (rows_of_row (pen_left pen own) below))
  where
    by_answer : (b : Bool) (own rest : List ChangeValue) → AreOfRow own → AreOfRow rest → AreOfRow (if b then own else own ++ rest)
    by_answer true own rest p q = p
    by_answer false own rest p q = of_row_append own rest p q

-- functions that agree on each change of a row agree on lists of them
pub each_of_row : (f g : ChangeValue → List ChangeValue) → ((change : ChangeValue) → IsOfRow change → f change ≡ g change) → (changes : List ChangeValue) → AreOfRow changes → flat_map f changes ≡ flat_map g changes
each_of_row f g same [] p = refl
each_of_row f g same (change ∷ changes) p = λ i. same change p.0 i ++ each_of_row f g same changes p.1 i

-- ---- the changes in the form that can be encoded

-- the changes of a row stay as they are, as the width isn't 0
pub encoded_of_row : (s : Screen) → 0 < s.width → (change : ChangeValue) → IsOfRow change → as_encoded s change ≡ change ∷ []
encoded_of_row s wide (CursorPosition (Absolute column) y) p =
    let not_there : (column == s.width) ≡ false = grind (arith, nat_tests) in
    ap (λ b. if b then written_again s (last_cell (cursor_row s)) else CursorPosition (Absolute column) y ∷ []) not_there
encoded_of_row s wide change p = refl

pub all_alone : (changes : List ChangeValue) → flat_map (λ change. change ∷ []) changes ≡ changes
all_alone changes = flat_map_single (λ (change : ChangeValue). change) changes ∙ map-id changes

due_encoded : (s : Screen) (pen a : Attributes) → flat_map (as_encoded s) (attributes_due pen a) ≡ attributes_due pen a
due_encoded s pen a = by_answer (same_attributes a pen)
  where
    by_answer : (b : Bool) → flat_map (as_encoded s) (if b then [] else AllAttributes a ∷ []) ≡ (if b then [] else AllAttributes a ∷ [])
    by_answer true = refl
    by_answer false = refl

shown_encoded : (s : Screen) (visible : Bool) → flat_map (as_encoded s) (cursor_shown visible None) ≡ cursor_shown visible None
shown_encoded s true = refl
shown_encoded s false = refl

-- the parts of the changes that paint a screen anew
abbrev pub painted_rows : Screen → List ChangeValue
painted_rows s = rows_painted plain s.rows

abbrev pub prefix_of : Screen → List ChangeValue
prefix_of s = (CursorVisibility Hidden ∷ ClearScreen attribute.Default ∷ []) ++ (Title s.title ∷ []) ++ painted_rows s

abbrev pub position_of : Screen → List ChangeValue
position_of s = cursor_placed (are_some (painted_rows s)) s.column s.row

abbrev pub due_of : Screen → List ChangeValue
due_of s = attributes_due (pen_left plain (painted_rows s)) s.pen

-- only the position of the cursor takes another form
pub encoded_is : (s : Screen) → 0 < s.width → painted_anew s ≡ prefix_of s ++ flat_map (as_encoded s) (position_of s) ++ due_of s ++ cursor_shown s.visible None
encoded_is s wide =
    let f : ChangeValue → List ChangeValue = as_encoded s in
    let begin : List ChangeValue = (CursorVisibility Hidden ∷ ClearScreen attribute.Default ∷ []) ++ (Title s.title ∷ []) in
    let rows : List ChangeValue = painted_rows s in
    let shown : List ChangeValue = cursor_shown s.visible None in
    let rows_are : flat_map f rows ≡ rows = each_of_row f (λ change. change ∷ []) (encoded_of_row s wide) rows (rows_of_row plain s.rows) ∙ all_alone rows in
    flat_map-append f (begin ++ rows ++ position_of s ++ due_of s) shown
    ∙ (λ i. flat_map-append f (begin ++ rows ++ position_of s) (due_of s) i ++ shown_encoded s s.visible i)
    ∙ (λ i. flat_map-append f (begin ++ rows) (position_of s) i ++ due_encoded s (pen_left plain rows) s.pen i ++ shown)
    ∙ (λ i. flat_map-append f begin rows i ++ flat_map f (position_of s) ++ due_of s ++ shown)
    ∙ (λ i. begin ++ rows_are i ++ flat_map f (position_of s) ++ due_of s ++ shown)

-- ---- no wrap is pending

pub encoded_here : (s : Screen) → (s.column == s.width) ≡ false → flat_map (as_encoded s) (position_of s) ≡ position_of s
encoded_here s e = by_answer (not (are_some (painted_rows s)) && (s.column == 0 && s.row == 0))
  where
    by_answer : (b : Bool) → flat_map (as_encoded s) (if b then [] else CursorPosition (Absolute s.column) (Absolute s.row) ∷ []) ≡ (if b then [] else CursorPosition (Absolute s.column) (Absolute s.row) ∷ [])
    by_answer true = refl
    by_answer false = ap (λ b. (if b then written_again s (last_cell (cursor_row s)) else CursorPosition (Absolute s.column) (Absolute s.row) ∷ []) ++ []) e

-- ---- a wrap is pending

and_false : (b : Bool) → (b && false) ≡ false
and_false true = refl
and_false false = refl

placed_there : (s : Screen) → 0 < s.width → (s.column == s.width) ≡ true → position_of s ≡ CursorPosition (Absolute s.column) (Absolute s.row) ∷ []
placed_there s wide e =
    let not_home : (s.column == 0) ≡ false = grind (arith, nat_tests) in
    let test : (not (are_some (painted_rows s)) && (s.column == 0 && s.row == 0)) ≡ false = ap (λ b. not (are_some (painted_rows s)) && (b && s.row == 0)) not_home ∙ and_false (not (are_some (painted_rows s))) in
    ap (λ b. if b then [] else CursorPosition (Absolute s.column) (Absolute s.row) ∷ []) test

pub encoded_there : (s : Screen) → 0 < s.width → (s.column == s.width) ≡ true → flat_map (as_encoded s) (position_of s) ≡ written_again s (last_cell (cursor_row s))
encoded_there s wide e =
    ap (flat_map (as_encoded s)) (placed_there s wide e)
    ∙ ap (λ b. (if b then written_again s (last_cell (cursor_row s)) else CursorPosition (Absolute s.column) (Absolute s.row) ∷ []) ++ []) e
    ∙ append-nil (written_again s (last_cell (cursor_row s)))

module _ (width_of : List ℕ → ℕ) where
  -- attributes and the cursor leave rows and position as they are
  after_rows : (e : Display) (pen a : Attributes) (visible : Bool) → (replay width_of (replay width_of e (attributes_due pen a)) (cursor_shown visible None)).screen.rows ≡ e.screen.rows
  after_rows e pen a visible = by_answer (same_attributes a pen) visible
    where
      by_answer : (b v : Bool) → (replay width_of (replay width_of e (if b then [] else AllAttributes a ∷ [])) (cursor_shown v None)).screen.rows ≡ e.screen.rows
      by_answer true true = refl
      by_answer true false = refl
      by_answer false true = refl
      by_answer false false = refl

  after_width : (e : Display) (pen a : Attributes) (visible : Bool) → (replay width_of (replay width_of e (attributes_due pen a)) (cursor_shown visible None)).screen.width ≡ e.screen.width
  after_width e pen a visible = by_answer (same_attributes a pen) visible
    where
      by_answer : (b v : Bool) → (replay width_of (replay width_of e (if b then [] else AllAttributes a ∷ [])) (cursor_shown v None)).screen.width ≡ e.screen.width
      by_answer true true = refl
      by_answer true false = refl
      by_answer false true = refl
      by_answer false false = refl

  -- replayed after the pen was set to `a`, they leave the pen `a`
  after_pen : (e f : Display) (pen a : Attributes) (visible : Bool) → f.screen ≡ with_pen a e.screen
      → (replay width_of (replay width_of f (attributes_due pen a)) (cursor_shown visible None)).screen ≡ with_pen a (replay width_of (replay width_of e (attributes_due pen a)) (cursor_shown visible None)).screen
  after_pen e f pen a visible same = by_answer (same_attributes a pen) visible
    where
      by_answer : (b v : Bool)
          → (replay width_of (replay width_of f (if b then [] else AllAttributes a ∷ [])) (cursor_shown v None)).screen ≡ with_pen a (replay width_of (replay width_of e (if b then [] else AllAttributes a ∷ [])) (cursor_shown v None)).screen
      by_answer true true = ap (λ (s : Screen). record s { visible = true }) same
      by_answer true false = same
      by_answer false true = ap (λ (s : Screen). record s { visible = true; pen = a }) same
      by_answer false false = ap (with_pen a) same

  three_parts : (d : Display) (prefix position due shown : List ChangeValue) → replay width_of d (prefix ++ position ++ due ++ shown) ≡ replay width_of (replay width_of (replay width_of (replay width_of d prefix) position) due) shown
  three_parts d prefix position due shown =
      fold-append (effect width_of) d (prefix ++ position ++ due) shown
      ∙ ap (λ (e : Display). replay width_of e shown) (fold-append (effect width_of) d (prefix ++ position) due ∙ ap (λ (e : Display). replay width_of e due) (fold-append (effect width_of) d prefix position))

  module _ (other : Display) (s : Screen) (narrow : width_of space ≡ 1) (h : IsDisplay (display_on s)) (sound : IsSoundDisplay width_of (display_on s)) (g : IsDisplay other)
      (wide : other.screen.width ≡ s.width) (high : length other.screen.rows ≡ length s.rows) where
    abbrev painted_before : Display
    painted_before = replay width_of other (prefix_of s)

    abbrev shown_now : List ChangeValue
    shown_now = cursor_shown s.visible None

    law : replay width_of other (repaint_with (Title s.title ∷ []) (display_on s)) ≡ shown_on other s.title (display_on s)
    law = titled_is_shown width_of other (display_on s) s.title narrow h sound g wide high

    here : (s.column == s.width) ≡ false → (replay width_of other (painted_anew s)).screen ≡ s
    here e =
        let as_encoded : painted_anew s ≡ repaint_with (Title s.title ∷ []) (display_on s) = encoded_is s h.lawful.wide_enough ∙ ap (λ (cs : List ChangeValue). prefix_of s ++ cs ++ due_of s ++ shown_now) (encoded_here s e) in
        ap (λ (cs : List ChangeValue). (replay width_of other cs).screen) as_encoded ∙ ap (λ (d : Display). d.screen) law

    there : (s.column == s.width) ≡ true → (replay width_of other (painted_anew s)).screen ≡ s
    there e =
        let d : Display = painted_before in
        let move : ChangeValue = CursorPosition (Absolute s.column) (Absolute s.row) in
        let moved : Display = effect width_of d move in
        let again : List ChangeValue = written_again s (last_cell (cursor_row s)) in
        let pen : Attributes = pen_left plain (painted_rows s) in
        let end : replay width_of (replay width_of moved (due_of s)) shown_now ≡ shown_on other s.title (display_on s) =
        ap (λ (cs : List ChangeValue). replay width_of (replay width_of (replay width_of d cs) (due_of s)) shown_now) (sym (placed_there s h.lawful.wide_enough e))
        ∙ sym (three_parts other (prefix_of s) (position_of s) (due_of s) shown_now)
        ∙ law in
        let rows : d.screen.rows ≡ s.rows = sym (after_rows moved pen s.pen s.visible) ∙ ap (λ (x : Display). x.screen.rows) end in
        let width : d.screen.width ≡ s.width = sym (after_width moved pen s.pen s.visible) ∙ ap (λ (x : Display). x.screen.width) end in
        let lawful : IsDisplay d = replay_is width_of (prefix_of s) other g in
        let sounds : IsSoundDisplay width_of d = subst (λ (rs : List Row). All (IsSoundRow width_of) rs) (sym rows) sound in
        let written = written_is width_of s d lawful sounds rows h.lawful.row_in in
        let tall : s.row < length d.screen.rows = subst (λ (rs : List Row). s.row < length rs) (sym rows) h.lawful.row_in in
        let test : (s.column == d.screen.width) ≡ true = ap (λ n. s.column == n) width ∙ e in
        let same : on_screen (λ t. record t { column = t.width; row = s.row; pen = s.pen }) d ≡ on_screen (with_pen s.pen) moved =
        λ i. on_screen (λ t. record t { column = at_width d.screen.width d.screen.column test i; row = sym (row_is (length d.screen.rows) d.screen.row s.row tall) i; pen = s.pen }) d in
        ap (λ (cs : List ChangeValue). (replay width_of other cs).screen) (encoded_is s h.lawful.wide_enough ∙ ap (λ (cs : List ChangeValue). prefix_of s ++ cs ++ due_of s ++ shown_now) (encoded_there s h.lawful.wide_enough e))
        ∙ ap (λ (x : Display). x.screen) (three_parts other (prefix_of s) again (due_of s) shown_now)
        ∙ after_pen moved (replay width_of d again) pen s.pen s.visible (ap (λ (x : Display). x.screen) (written ∙ same))
        ∙ ap (λ (x : Display). with_pen s.pen x.screen) end
      where
        at_width : (width from : ℕ) → (s.column == width) ≡ true → width ≡ resolved_column width from (Absolute s.column)
        at_width width from t = sym (ap (λ b. if b then width else min s.column (width - 1)) t)

    pub painted_is_shown : (replay width_of other (painted_anew s)).screen ≡ s
    painted_is_shown = by_test (s.column == s.width) (λ e. there e) (λ e. here e)
