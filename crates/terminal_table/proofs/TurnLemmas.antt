-- The changes of each control function turn a display into one that shows the screen after the function.
use Rattle.std.proofs.Common.{◌≡◌, ℕ, zero, suc, ◌+◌, ◌-◌, ◌<◌, Bool, true, false, List, [], ◌∷◌, ◌++◌, length, take, drop, set, get_or, map, replicate, refl, sym, ap, subst, ◌∙◌, arith, length-drop, length-set}
use Rattle.std.specs.Prelude.{◌==◌, min, Option, Some, None}
use Rattle.std.proofs.lemmas.List.{length-replicate, length-map}
use Rattle.std.proofs.lemmas.List.Elements.{All-append, All-drop, All-take, All-replicate}
use Rattle.std.proofs.lemmas.Bool.Decides.{nat_tests}
use Rattle.cell_base.specs.declared.attributes.LineAttribute.{LineAttribute}
use Rattle.cell_base.specs.declared.attributes.LineAttribute.TheVariants.{SingleWidthLine}
use Rattle.cell_base.specs.declared.attributes.Position.TheVariants.{Absolute}
use Rattle.cell_base.specs.declared.color.ColorAttribute.{ColorAttribute}
use Rattle.cell_base.specs.Attributes.{blank_of}
use Rattle.cell_base.specs.Row.{Row, blank, plain_row, closed_end, closed_start}
use Rattle.cell_base.specs.Screen.{Screen, IsScreen, height}
use Rattle.screen_change.specs.ChangeValue.{ChangeValue, AllAttributes, ClearScreen, ClearToEndOfLine, CursorVisibility}
use Rattle.csi_codec.specs.declared.rendition.Sgr.{Sgr}
use Rattle.csi_codec.specs.declared.rendition.Sgr.TheVariants as sgr
use Rattle.screen_effects.specs.Display.{Display, IsDisplay}
use Rattle.screen_effects.specs.Effect.{blank_row, cleared_after, scrolled_up, scrolled_down, effect, replay}
use Rattle.screen_effects.specs.Positions.{resolved, resolved_column}
use Rattle.screen_effects.specs.Regions.{moved_up, moved_down, in_region}
use Rattle.screen_effects.specs.Strokes.{Stroke, CarriageReturn as return_stroke, LineFeed as feed_stroke, stroke_done, scrolls}
use Rattle.terminal_table.specs.Modes.{SavedCursor}
use Rattle.terminal_table.specs.State.{State, IsState}
use Rattle.terminal_table.specs.Functions as table
use Rattle.terminal_table.specs.Functions.{ControlFunction}
use Rattle.terminal_table.specs.Steps.{active_column, target, at_position, reverse_index, erased_after, end_of_line_erased, rows_below_erased, line_erased, display_erased, with_rendition, on_pen, with_cursor, cursor_to_restore, reset_screen, screen_step, step_of}
use Rattle.terminal_table.specs.Changes.{position, same_position, rendition_changes, cursor_changes, changes, changes_of, visibility}
use Rattle.terminal_table.specs.Turns.{AreSingle, Turns}
use Rattle.terminal_table.proofs.ListLemmas.{drop_past, append_nil, whole_region, take_set, map_same}

-- the screen alone changes
pub screen_turns : (d : Display) (new shown : Screen) → new ≡ shown → Turns d (record d { screen = new }) shown
screen_turns d new shown e = record { screen = e; shape = refl; sizes = λ h. h }

-- ---- positions

-- a position within the screen is the one that is named
column_within : (width from at : ℕ) → 0 < width → resolved_column width from (Absolute (min at (width - 1))) ≡ min at (width - 1)
column_within width from at h = by_test (min at (width - 1) == width) refl
  where
    by_test : (b : Bool) → (min at (width - 1) == width) ≡ b → resolved_column width from (Absolute (min at (width - 1))) ≡ min at (width - 1)
    by_test true e = absurd (grind (arith, nat_tests))
    by_test false e = rw e (omega arith)

row_within : (size from at : ℕ) → resolved size from (Absolute (min at (size - 1))) ≡ min at (size - 1)
row_within size from at = omega arith

-- a position change that is computed for one screen leads to this position on another of the same size
pub positioned : (width_of : List ℕ → ℕ) (d : Display) (at : ℕ × ℕ) (other : Screen) → 0 < d.screen.width → other.width ≡ d.screen.width → height other ≡ height d.screen
    → (effect width_of d (position at other)) ≡ record d { screen = at_position at d.screen }
positioned width_of d at other h w t = λ i. record d { screen = record d.screen { column = columns i; row = rows i } }
  where
    columns : resolved_column d.screen.width d.screen.column (Absolute (min at.0 (other.width - 1))) ≡ min at.0 (d.screen.width - 1)
    columns = ap (λ n. resolved_column d.screen.width d.screen.column (Absolute (min at.0 (n - 1)))) w ∙ column_within d.screen.width d.screen.column at.0 h

    rows : resolved (height d.screen) d.screen.row (Absolute (min at.1 (height other - 1))) ≡ min at.1 (height d.screen - 1)
    rows = ap (λ n. resolved (height d.screen) d.screen.row (Absolute (min at.1 (n - 1)))) t ∙ row_within (height d.screen) d.screen.row at.1

position_turns : (width_of : List ℕ → ℕ) (d : Display) (at : ℕ × ℕ) → IsDisplay d → Turns d (effect width_of d (position at d.screen)) (at_position at d.screen)
position_turns width_of d at h = subst (λ x. Turns d x (at_position at d.screen)) (sym (positioned width_of d at d.screen h.lawful.wide_enough refl refl)) (screen_turns d (at_position at d.screen) (at_position at d.screen) refl)

-- ---- line feeds and returns

-- rows of single width stay so
pub stroke_single : (width_of : List ℕ → ℕ) (d : Display) (stroke : Stroke) → AreSingle d.sizes → AreSingle (stroke_done width_of d stroke).sizes
stroke_single width_of d stroke h = by_test (scrolls width_of d.screen stroke) refl
  where
    one : AreSingle (SingleWidthLine ∷ [])
    one zero x l = refl
    one (suc k) x l = absurd (omega arith)

    by_test : (b : Bool) → scrolls width_of d.screen stroke ≡ b → AreSingle (stroke_done width_of d stroke).sizes
    by_test true e = rw e (All-append (λ size. size ≡ SingleWidthLine) (drop 1 d.sizes) (SingleWidthLine ∷ []) (All-drop (λ size. size ≡ SingleWidthLine) 1 d.sizes h) one)
    by_test false e = rw e h

stroke_turns : (width_of : List ℕ → ℕ) (d : Display) (stroke : Stroke) → Turns d (stroke_done width_of d stroke) (stroke_done width_of d stroke).screen
stroke_turns width_of d stroke = record { screen = refl; shape = refl; sizes = stroke_single width_of d stroke }

-- ---- rows that move

region_single : (change : List LineAttribute → List LineAttribute) (sizes : List LineAttribute) (first size : ℕ) → ((xs : List LineAttribute) → AreSingle xs → AreSingle (change xs)) → AreSingle sizes → AreSingle (in_region change first size sizes)
region_single change sizes first size keeps h =
    All-append (λ x. x ≡ SingleWidthLine) (take first sizes ++ change (take size (drop first sizes))) (drop (first + size) sizes)
    (All-append (λ x. x ≡ SingleWidthLine) (take first sizes) (change (take size (drop first sizes))) (All-take (λ x. x ≡ SingleWidthLine) first sizes h) (keeps _ (All-take (λ x. x ≡ SingleWidthLine) size (drop first sizes) (All-drop (λ x. x ≡ SingleWidthLine) first sizes h))))
    (All-drop (λ x. x ≡ SingleWidthLine) (first + size) sizes h)

up_single : (count : ℕ) (xs : List LineAttribute) → AreSingle xs → AreSingle (moved_up SingleWidthLine count xs)
up_single count xs h = All-append (λ x. x ≡ SingleWidthLine) (drop count xs) (replicate (min count (length xs)) SingleWidthLine) (All-drop (λ x. x ≡ SingleWidthLine) count xs h) (All-replicate (λ x. x ≡ SingleWidthLine) (min count (length xs)) SingleWidthLine refl)

down_single : (count : ℕ) (xs : List LineAttribute) → AreSingle xs → AreSingle (moved_down SingleWidthLine count xs)
down_single count xs h = All-append (λ x. x ≡ SingleWidthLine) (replicate (min count (length xs)) SingleWidthLine) (take (length xs - count) xs) (All-replicate (λ x. x ≡ SingleWidthLine) (min count (length xs)) SingleWidthLine refl) (All-take (λ x. x ≡ SingleWidthLine) (length xs - count) xs h)

up_turns : (d : Display) (count : ℕ) → Turns d (scrolled_up 0 (height d.screen) count d) (record d.screen { rows = moved_up (plain_row d.screen.width) count d.screen.rows })
up_turns d count = record {
  screen = ap (λ rows. record d.screen { rows = rows }) (whole_region (moved_up (plain_row d.screen.width) count) d.screen.rows);
  shape = refl;
  sizes = region_single (moved_up SingleWidthLine count) d.sizes 0 (height d.screen) (up_single count);
}

down_turns : (d : Display) (count : ℕ) → Turns d (scrolled_down 0 (height d.screen) count d) (record d.screen { rows = moved_down (plain_row d.screen.width) count d.screen.rows })
down_turns d count = record {
  screen = ap (λ rows. record d.screen { rows = rows }) (whole_region (moved_down (plain_row d.screen.width) count) d.screen.rows);
  shape = refl;
  sizes = region_single (moved_down SingleWidthLine count) d.sizes 0 (height d.screen) (down_single count);
}

reverse_turns : (width_of : List ℕ → ℕ) (saved : Option SavedCursor) (d : Display) → IsDisplay d → Turns d (replay width_of d (changes table.ReverseIndex saved d.screen)) (reverse_index d.screen)
reverse_turns width_of saved d h = by_test (d.screen.row == 0) refl
  where
    by_test : (b : Bool) → (d.screen.row == 0) ≡ b → Turns d (replay width_of d (changes table.ReverseIndex saved d.screen)) (reverse_index d.screen)
    by_test true e = rw e (down_turns d 1)
    by_test false e = rw e (position_turns width_of d (target (table.Up 1) (active_column d.screen) d.screen.row) h)

-- ---- erasures

-- after the blanks nothing is left of the row
pub erased_is : (column : ℕ) (color : ColorAttribute) (row : Row) → cleared_after column color row ≡ erased_after column color row
erased_is column color row =
    let n = length-replicate (length row - column) (blank (blank_of color)) in
    let past = drop_past (column + length (blank_row (length row - column) color)) row (omega arith) in
    ap (λ remaining. (closed_end (take column row) ++ blank_row (length row - column) color) ++ closed_start remaining) past
    ∙ append_nil (closed_end (take column row) ++ blank_row (length row - column) color)

line_end_turns : (width_of : List ℕ → ℕ) (saved : Option SavedCursor) (d : Display) → Turns d (replay width_of d (changes table.EraseToEndOfLine saved d.screen)) (end_of_line_erased d.screen)
line_end_turns width_of saved d =
    let s = d.screen in
    screen_turns d _ (end_of_line_erased s) (ap (λ row. record s { rows = set s.rows s.row row }) (erased_is s.column s.pen.background (get_or s.rows s.row [])))

-- the rows below, with the cursor's row set
rows_below : (s : Screen) (x : Row) → s.row < height s → take s.row s.rows ++ x ∷ replicate (height s - (s.row + 1)) (blank_row s.width s.pen.background) ≡ take (s.row + 1) (set s.rows s.row x) ++ map (λ _. blank_row s.width s.pen.background) (drop (s.row + 1) (set s.rows s.row x))
rows_below s x h = sym (ap (λ prefix. prefix ++ map (λ _. blank_row s.width s.pen.background) (drop (s.row + 1) (set s.rows s.row x))) (take_set s.rows s.row x h)
    ∙ ap (λ rest. (take s.row s.rows ++ x ∷ []) ++ rest) after
    ∙ joined (take s.row s.rows) (replicate (height s - (s.row + 1)) (blank_row s.width s.pen.background)))
  where
    below : List Row
    below = drop (s.row + 1) (set s.rows s.row x)

    many : length below ≡ height s - (s.row + 1)
    many = omega (arith, length-drop (s.row + 1) (set s.rows s.row x), length-set {A = Row} s.rows s.row x)

    after : map (λ _. blank_row s.width s.pen.background) below ≡ replicate (height s - (s.row + 1)) (blank_row s.width s.pen.background)
    after = map_same (blank_row s.width s.pen.background) below ∙ ap (λ n. replicate n (blank_row s.width s.pen.background)) many

    joined : (prefix rest : List Row) → (prefix ++ x ∷ []) ++ rest ≡ prefix ++ x ∷ rest
    joined [] rest = refl
    joined (y ∷ ys) rest = ap (λ zs. y ∷ zs) (joined ys rest)

display_end_turns : (width_of : List ℕ → ℕ) (saved : Option SavedCursor) (d : Display) → IsDisplay d → Turns d (replay width_of d (changes table.EraseToEndOfDisplay saved d.screen)) (rows_below_erased (end_of_line_erased d.screen))
display_end_turns width_of saved d h =
    let s = d.screen in
    screen_turns d _ (rows_below_erased (end_of_line_erased s))
    (ap (λ row. record s { rows = take s.row s.rows ++ row ∷ replicate (height s - (s.row + 1)) (blank_row s.width s.pen.background) }) (erased_is s.column s.pen.background (get_or s.rows s.row []))
    ∙ ap (λ rows. record s { rows = rows }) (rows_below s (erased_after s.column s.pen.background (get_or s.rows s.row [])) h.lawful.row_in))

-- the position of the cursor, on a screen of the same size: no wrap is pending there
same_row : (s other : Screen) → IsScreen s → other.width ≡ s.width → height other ≡ height s → at_position (active_column s, s.row) other ≡ record other { column = active_column s; row = s.row }
same_row s other h w t = λ i. record other { column = columns i; row = rows i }
  where
    columns : min (active_column s) (other.width - 1) ≡ active_column s
    columns = omega arith

    rows : min s.row (height other - 1) ≡ s.row
    rows = let g = h.row_in in omega arith

-- a display that goes back to where the cursor was, with the pen that it had
back : (width_of : List ℕ → ℕ) (d : Display) (s : Screen) → IsScreen s → d.screen.width ≡ s.width → height d.screen ≡ height s
    → replay width_of d (same_position s ∷ AllAttributes s.pen ∷ []) ≡ record d { screen = record d.screen { column = active_column s; row = s.row; pen = s.pen } }
back width_of d s h w t =
    ap (λ x. effect width_of x (AllAttributes s.pen)) (positioned width_of d (active_column s, s.row) s (let g = h.wide_enough in omega arith) (sym w) (sym t))
    ∙ ap (λ x. record d { screen = record x { pen = s.pen } }) (same_row s d.screen h w t)

display_turns : (width_of : List ℕ → ℕ) (saved : Option SavedCursor) (d : Display) → IsDisplay d → Turns d (replay width_of d (changes table.EraseDisplay saved d.screen)) (display_erased d.screen)
display_turns width_of saved d h =
    let s = d.screen in
    let cleared = effect width_of d (ClearScreen s.pen.background) in
    let e = back width_of cleared s h.lawful refl (length-map s.rows (λ _. blank_row s.width s.pen.background)) in
    subst (λ x. Turns d x (display_erased s)) (sym e) (screen_turns d (display_erased s) (display_erased s) refl)

line_turns : (width_of : List ℕ → ℕ) (saved : Option SavedCursor) (d : Display) → IsDisplay d → Turns d (replay width_of d (changes table.EraseLine saved d.screen)) (line_erased d.screen)
line_turns width_of saved d h = subst (λ x. Turns d x (line_erased s)) (sym (begun ∙ erased)) (screen_turns d _ (line_erased s) refl)
  where
    s : Screen
    s = d.screen

    remaining : List ChangeValue
    remaining = ClearToEndOfLine s.pen.background ∷ same_position s ∷ AllAttributes s.pen ∷ []

    first : Display
    first = record d { screen = record s { column = 0 } }

    home : effect width_of d (position (0, s.row) s) ≡ first
    home = positioned width_of d (0, s.row) s h.lawful.wide_enough refl refl ∙ (λ i. record d { screen = record s { column = column i; row = row i } })
      where
        column : min 0 (s.width - 1) ≡ 0
        column = omega arith

        row : min s.row (height s - 1) ≡ s.row
        row = let g = h.lawful.row_in in omega arith

    begun : replay width_of d (changes table.EraseLine saved s) ≡ replay width_of first remaining
    begun = ap (λ x. replay width_of x remaining) home

    blanks : cleared_after 0 s.pen.background (get_or s.rows s.row []) ≡ blank_row s.width s.pen.background
    blanks = erased_is 0 s.pen.background (get_or s.rows s.row []) ∙ ap (λ n. blank_row n s.pen.background) (let e = h.lawful.even s.row [] h.lawful.row_in in omega arith)

    cleared : Display
    cleared = record d { screen = record s { column = 0; rows = set s.rows s.row (blank_row s.width s.pen.background); pen = blank_of s.pen.background } }

    erased : replay width_of first remaining ≡ record d { screen = line_erased s }
    erased =
        ap (λ row. replay width_of (record d { screen = record s { column = 0; rows = set s.rows s.row row; pen = blank_of s.pen.background } }) (same_position s ∷ AllAttributes s.pen ∷ [])) blanks
        ∙ back width_of cleared s h.lawful refl (length-set {A = Row} s.rows s.row (blank_row s.width s.pen.background))

-- ---- the pen

rendition_turns : (width_of : List ℕ → ℕ) (value : Sgr) (d : Display) → Turns d (replay width_of d (rendition_changes value d.screen.pen)) (on_pen (with_rendition value) d.screen)
rendition_turns width_of sgr.Reset d = screen_turns d _ _ refl
rendition_turns width_of (sgr.Intensity value) d = screen_turns d _ _ refl
rendition_turns width_of (sgr.Underline value) d = screen_turns d _ _ refl
rendition_turns width_of (sgr.UnderlineColor value) d = screen_turns d _ _ refl
rendition_turns width_of (sgr.Blink value) d = screen_turns d _ _ refl
rendition_turns width_of (sgr.Italic value) d = screen_turns d _ _ refl
rendition_turns width_of (sgr.Inverse value) d = screen_turns d _ _ refl
rendition_turns width_of (sgr.Invisible value) d = screen_turns d _ _ refl
rendition_turns width_of (sgr.StrikeThrough value) d = screen_turns d _ _ refl
rendition_turns width_of (sgr.Font value) d = screen_turns d _ _ refl
rendition_turns width_of (sgr.Foreground value) d = screen_turns d _ _ refl
rendition_turns width_of (sgr.Background value) d = screen_turns d _ _ refl
rendition_turns width_of (sgr.Overline value) d = screen_turns d _ _ refl
rendition_turns width_of (sgr.VerticalAlign value) d = screen_turns d _ _ refl

visible_turns : (width_of : List ℕ → ℕ) (shown : Bool) (d : Display) → Turns d (replay width_of d (CursorVisibility (visibility shown) ∷ [])) (record d.screen { visible = shown })
visible_turns width_of true d = screen_turns d _ _ refl
visible_turns width_of false d = screen_turns d _ _ refl

-- ---- restored cursors, and a full reset

cursor_turns : (width_of : List ℕ → ℕ) (cursor : SavedCursor) (d : Display) → IsDisplay d → Turns d (replay width_of d (cursor_changes cursor d.screen)) (with_cursor cursor d.screen)
cursor_turns width_of cursor d h =
    subst (λ x. Turns d (effect width_of x (AllAttributes cursor.pen)) (with_cursor cursor d.screen))
    (sym (positioned width_of d (cursor.column, cursor.row) d.screen h.lawful.wide_enough refl refl))
    (screen_turns d (with_cursor cursor d.screen) (with_cursor cursor d.screen) refl)

reset_turns : (width_of : List ℕ → ℕ) (saved : Option SavedCursor) (d : Display) → Turns d (replay width_of d (changes table.FullReset saved d.screen)) (reset_screen d.screen)
reset_turns width_of saved d = screen_turns d _ (reset_screen d.screen) (ap (λ rows. record (reset_screen d.screen) { rows = rows }) (map_same (plain_row d.screen.width) d.screen.rows))

-- ---- all control functions

pub function_turns : (width_of : List ℕ → ℕ) (function : ControlFunction) (saved : Option SavedCursor) (d : Display) → IsDisplay d → Turns d (replay width_of d (changes function saved d.screen)) (screen_step function saved d.screen)
function_turns width_of (table.Moves move) saved d h = position_turns width_of d (target move (active_column d.screen) d.screen.row) h
function_turns width_of table.LineFeed saved d h = stroke_turns width_of d feed_stroke
function_turns width_of table.CarriageReturn saved d h = stroke_turns width_of d return_stroke
function_turns width_of table.NextRow saved d h = record { screen = refl; shape = refl; sizes = λ x. stroke_single width_of (stroke_done width_of d return_stroke) feed_stroke (stroke_single width_of d return_stroke x) }
function_turns width_of table.ReverseIndex saved d h = reverse_turns width_of saved d h
function_turns width_of table.EraseToEndOfDisplay saved d h = display_end_turns width_of saved d h
function_turns width_of table.EraseDisplay saved d h = display_turns width_of saved d h
function_turns width_of table.EraseToEndOfLine saved d h = line_end_turns width_of saved d
function_turns width_of table.EraseLine saved d h = line_turns width_of saved d h
function_turns width_of (table.ScrollUp n) saved d h = up_turns d (min n (height d.screen))
function_turns width_of (table.ScrollDown n) saved d h = down_turns d (min n (height d.screen))
function_turns width_of (table.Rendition value) saved d h = rendition_turns width_of value d
function_turns width_of (table.Hyperlink link) saved d h = screen_turns d _ _ refl
function_turns width_of (table.Title text) saved d h = screen_turns d _ _ refl
function_turns width_of (table.ShowCursor shown) saved d h = visible_turns width_of shown d
function_turns width_of table.SaveCursor saved d h = screen_turns d _ _ refl
function_turns width_of table.RestoreCursor saved d h = cursor_turns width_of (cursor_to_restore saved) d h
function_turns width_of table.FullReset saved d h = reset_turns width_of saved d
function_turns width_of table.ReportStatus saved d h = screen_turns d _ _ refl
function_turns width_of table.ReportPosition saved d h = screen_turns d _ _ refl

-- for a state whose screen the display shows: the changes turn the display into one that shows the screen after the function
pub step_turns : (width_of : List ℕ → ℕ) (function : ControlFunction) (state : State) (d : Display) → IsState width_of state → IsDisplay d → d.screen ≡ state.screen
    → Turns d (replay width_of d (changes function state.saved state.screen)) (screen_step function state.saved state.screen)
step_turns width_of function state d p h e = subst (λ s. Turns d (replay width_of d (changes function state.saved s)) (screen_step function state.saved s)) e (function_turns width_of function state.saved d h)

pub action_turns : (width_of : List ℕ → ℕ) (function : Option ControlFunction) (state : State) (d : Display) → IsState width_of state → IsDisplay d → d.screen ≡ state.screen
    → Turns d (replay width_of d (changes_of function state)) (step_of function state).screen
action_turns width_of None state d p h e = screen_turns d d.screen state.screen e
action_turns width_of (Some function) state d p h e = step_turns width_of function state d p h e
