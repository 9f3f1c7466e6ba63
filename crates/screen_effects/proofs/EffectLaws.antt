-- Changes leave lawful displays, and so does another size.
use Rattle.std.proofs.Common.{◌≡◌, ℕ, zero, suc, ◌+◌, ◌-◌, ◌<◌, ◌≤◌, Bool, true, false, List, [], ◌∷◌, ◌++◌, length, take, drop, map, replicate, refl, sym, ap, ◌∙◌, arith, length-append, length-drop, length-set}
use Rattle.std.specs.Prelude.{All, ◌==◌, min, pos, negsuc}
use Rattle.std.proofs.lemmas.List.Elements.{All-append, All-drop, All-take, All-map, All-set, All-replicate}
use Rattle.std.proofs.lemmas.List.{length-replicate, length-map, length-take}
use Rattle.cell_base.specs.declared.attributes.LineAttribute.{LineAttribute as LineKind}
use Rattle.cell_base.specs.declared.attributes.LineAttribute.TheVariants.{SingleWidthLine}
use Rattle.cell_base.specs.declared.attributes.Position.{Position}
use Rattle.cell_base.specs.declared.attributes.Position.TheVariants.{Relative, Absolute, EndRelative}
use Rattle.cell_base.specs.declared.color.ColorAttribute.{ColorAttribute}
use Rattle.cell_base.specs.Attributes.{plain, blank_of}
use Rattle.cell_base.specs.Row.{Row, blank, plain_row, closed_end}
use Rattle.cell_base.specs.Screen.{Screen, IsScreen, height}
use Rattle.screen_change.specs.ChangeValue.{ChangeValue, Attribute, AllAttributes, Text, ClearScreen, ClearToEndOfLine, ClearToEndOfScreen, CursorPosition, CursorColor, CursorShape, CursorVisibility, LineAttribute, ScrollRegionUp, ScrollRegionDown, Title}
use Rattle.cell_base.specs.WholeRow.{IsWhole}
use Rattle.cell_base.proofs.RowLemmas.{length-closed_end, length-set_columns, whole-append, whole-prefix, whole-blanks, whole-set_columns}
use Rattle.screen_effects.specs.Display.{Display, IsDisplay}
use Rattle.screen_effects.specs.Effect.{on_screen, blank_row, cursor_row, cleared_after, cleared_screen, cleared_line, cleared_below, scrolled_up, scrolled_down, effect, replay}
use Rattle.screen_effects.specs.Positions.{resolved, resolved_column}
use Rattle.screen_effects.specs.Regions.{moved_up, moved_down, in_region}
use Rattle.screen_effects.specs.Resize.{fitted, resized_row, resized}
use Rattle.screen_effects.specs.Strokes.{strokes}
use Rattle.screen_effects.proofs.StrokeLaws.{whole_blank_row, strokes_are}

abbrev IsEven : ℕ → Row → Type 0
IsEven width row = length row ≡ width

-- ---- positions

pub position_in : (size from : ℕ) (position : Position) → 0 < size → from < size → resolved size from position < size
position_in size from (Absolute at) h k = omega arith
position_in size from (EndRelative back) h k = omega arith
position_in size from (Relative (pos forward)) h k = omega arith
position_in size from (Relative (negsuc less)) h k = omega arith

pub column_in : (width from : ℕ) (position : Position) → 0 < width → from ≤ width → resolved_column width from position ≤ width
column_in width from (Absolute at) h k = by_test (at == width) refl
  where
    by_test : (b : Bool) → (at == width) ≡ b → resolved_column width from (Absolute at) ≤ width
    by_test true e = rw e (omega arith)
    by_test false e = rw e (omega arith)
column_in width from (EndRelative back) h k = omega arith
column_in width from (Relative (pos forward)) h k = omega arith
column_in width from (Relative (negsuc less)) h k = omega arith

-- ---- clears

blank_width : (width : ℕ) (color : ColorAttribute) → length (blank_row width color) ≡ width
blank_width width color = length-replicate width (blank (blank_of color))

blank_whole : (width : ℕ) (color : ColorAttribute) → IsWhole (blank_row width color)
blank_whole width color = whole-blanks width (blank_of color)

pub same_width : (width column : ℕ) (color : ColorAttribute) (row : Row) → length row ≡ width → column ≤ width → length (cleared_after column color row) ≡ width
same_width width column color row e h =
    let n = blank_width (length row - column) color in
    length-set_columns row column (blank_row (length row - column) color) (omega arith) ∙ e

still_whole : (column : ℕ) (color : ColorAttribute) (row : Row) → IsWhole row → IsWhole (cleared_after column color row)
still_whole column color row w = whole-set_columns row column _ w (blank_whole (length row - column) color)

pub screen_cleared_is : (color : ColorAttribute) (d : Display) → IsDisplay d → IsDisplay (on_screen (cleared_screen color) d)
screen_cleared_is color d h = record {
  lawful = record {
    wide_enough = h.lawful.wide_enough;
    even = All-map (IsEven d.screen.width) (λ _. blank_row d.screen.width color) d.screen.rows (λ k x l. blank_width d.screen.width color);
    column_in = let w = h.lawful.wide_enough in omega arith;
    row_in = let g = h.lawful.row_in in omega (arith, length-map d.screen.rows (λ _. blank_row d.screen.width color));
  };
  whole = All-map IsWhole (λ _. blank_row d.screen.width color) d.screen.rows (λ k x l. blank_whole d.screen.width color);
  sized = h.sized ∙ sym (length-map d.screen.rows (λ _. blank_row d.screen.width color));
}

pub line_cleared_is : (color : ColorAttribute) (d : Display) → IsDisplay d → IsDisplay (on_screen (cleared_line color) d)
line_cleared_is color d h =
    let s = d.screen in
    let row = cursor_row s in
    let even = h.lawful.even s.row [] h.lawful.row_in in
    let new = same_width s.width s.column color row even h.lawful.column_in in record {
      lawful = record {
        wide_enough = h.lawful.wide_enough;
        even = All-set (IsEven s.width) s.rows s.row (cleared_after s.column color row) new h.lawful.even;
        column_in = h.lawful.column_in;
        row_in = let g = h.lawful.row_in in omega (arith, length-set {A = Row});
      };
      whole = All-set IsWhole s.rows s.row (cleared_after s.column color row) (still_whole s.column color row (h.whole s.row [] h.lawful.row_in)) h.whole;
      sized = h.sized ∙ sym (length-set {A = Row} s.rows s.row (cleared_after s.column color row));
    }

-- a row between other rows
between : (P : Row → Type 0) (before after : List Row) (x : Row) → All P before → P x → All P after → All P (before ++ x ∷ after)
between P before after x p q r = All-append P before (x ∷ after) p first
  where
    first : All P (x ∷ after)
    first zero d h = q
    first (suc k) d h = r k d (omega arith)

pub below_height : (color : ColorAttribute) (s : Screen) → IsScreen s → length (cleared_below color s).rows ≡ length s.rows
below_height color s h =
    let g = h.row_in in
    let prefix = length-take s.row s.rows in
    let after = length-replicate (height s - (s.row + 1)) (blank_row s.width color) in
    let both = length-append (take s.row s.rows) (cleared_after s.column color (cursor_row s) ∷ replicate (height s - (s.row + 1)) (blank_row s.width color)) in
    omega arith

pub below_cleared_is : (color : ColorAttribute) (d : Display) → IsDisplay d → IsDisplay (on_screen (cleared_below color) d)
below_cleared_is color d h =
    let s = d.screen in
    let row = cursor_row s in
    let even = h.lawful.even s.row [] h.lawful.row_in in
    let n = height s - (s.row + 1) in
    let new = same_width s.width s.column color row even h.lawful.column_in in record {
      lawful = record {
        wide_enough = h.lawful.wide_enough;
        even = between (IsEven s.width) (take s.row s.rows) (replicate n (blank_row s.width color)) _ (All-take (IsEven s.width) s.row s.rows h.lawful.even) new (All-replicate (IsEven s.width) n (blank_row s.width color) (blank_width s.width color));
        column_in = h.lawful.column_in;
        row_in = let g = h.lawful.row_in in let m = below_height color s h.lawful in omega arith;
      };
      whole = between IsWhole (take s.row s.rows) (replicate n (blank_row s.width color)) _ (All-take IsWhole s.row s.rows h.whole) (still_whole s.column color row (h.whole s.row [] h.lawful.row_in)) (All-replicate IsWhole n (blank_row s.width color) (blank_whole s.width color));
      sized = h.sized ∙ sym (below_height color s h.lawful);
    }

-- ---- regions

pub up_length : {A : Type 0} (new : A) (count : ℕ) (xs : List A) → length (moved_up new count xs) ≡ length xs
up_length new count xs =
    let rest = length-drop count xs in
    let come = length-replicate (min count (length xs)) new in
    let both = length-append (drop count xs) (replicate (min count (length xs)) new) in
    omega arith

pub down_length : {A : Type 0} (new : A) (count : ℕ) (xs : List A) → length (moved_down new count xs) ≡ length xs
down_length new count xs =
    let rest = length-take (length xs - count) xs in
    let come = length-replicate (min count (length xs)) new in
    let both = length-append (replicate (min count (length xs)) new) (take (length xs - count) xs) in
    omega arith

pub region_length : {A : Type 0} (change : List A → List A) (first size : ℕ) (xs : List A) → ((ys : List A) → length (change ys) ≡ length ys) → length (in_region change first size xs) ≡ length xs
region_length change first size xs same =
    let a = length-take first xs in
    let b = same (take size (drop first xs)) in
    let c = length-take size (drop first xs) in
    let d = length-drop first xs in
    let e = length-drop (first + size) xs in
    let f = length-append (take first xs ++ change (take size (drop first xs))) (drop (first + size) xs) in
    let g = length-append (take first xs) (change (take size (drop first xs))) in
    omega arith

region_all : {A : Type 0} (P : A → Type 0) (change : List A → List A) (first size : ℕ) (xs : List A) → ((ys : List A) → All P ys → All P (change ys)) → All P xs → All P (in_region change first size xs)
region_all P change first size xs keeps p =
    All-append P (take first xs ++ change (take size (drop first xs))) (drop (first + size) xs)
    (All-append P (take first xs) (change (take size (drop first xs))) (All-take P first xs p) (keeps _ (All-take P size (drop first xs) (All-drop P first xs p))))
    (All-drop P (first + size) xs p)

up_all : {A : Type 0} (P : A → Type 0) (new : A) (count : ℕ) → P new → (xs : List A) → All P xs → All P (moved_up new count xs)
up_all P new count q xs p = All-append P (drop count xs) (replicate (min count (length xs)) new) (All-drop P count xs p) (All-replicate P (min count (length xs)) new q)

down_all : {A : Type 0} (P : A → Type 0) (new : A) (count : ℕ) → P new → (xs : List A) → All P xs → All P (moved_down new count xs)
down_all P new count q xs p = All-append P (replicate (min count (length xs)) new) (take (length xs - count) xs) (All-replicate P (min count (length xs)) new q) (All-take P (length xs - count) xs p)

pub up_is : (first size count : ℕ) (d : Display) → IsDisplay d → IsDisplay (scrolled_up first size count d)
up_is first size count d h =
    let s = d.screen in
    let new = plain_row s.width in
    let rows = region_length (moved_up new count) first size s.rows (up_length new count) in
    let sizes = region_length (moved_up SingleWidthLine count) first size d.sizes (up_length SingleWidthLine count) in record {
      lawful = record {
        wide_enough = h.lawful.wide_enough;
        even = region_all (IsEven s.width) (moved_up new count) first size s.rows (up_all (IsEven s.width) new count (length-replicate s.width (blank plain))) h.lawful.even;
        column_in = h.lawful.column_in;
        row_in = let g = h.lawful.row_in in omega arith;
      };
      whole = region_all IsWhole (moved_up new count) first size s.rows (up_all IsWhole new count (whole_blank_row s.width)) h.whole;
      sized = sizes ∙ h.sized ∙ sym rows;
    }

pub down_is : (first size count : ℕ) (d : Display) → IsDisplay d → IsDisplay (scrolled_down first size count d)
down_is first size count d h =
    let s = d.screen in
    let new = plain_row s.width in
    let rows = region_length (moved_down new count) first size s.rows (down_length new count) in
    let sizes = region_length (moved_down SingleWidthLine count) first size d.sizes (down_length SingleWidthLine count) in record {
      lawful = record {
        wide_enough = h.lawful.wide_enough;
        even = region_all (IsEven s.width) (moved_down new count) first size s.rows (down_all (IsEven s.width) new count (length-replicate s.width (blank plain))) h.lawful.even;
        column_in = h.lawful.column_in;
        row_in = let g = h.lawful.row_in in omega arith;
      };
      whole = region_all IsWhole (moved_down new count) first size s.rows (down_all IsWhole new count (whole_blank_row s.width)) h.whole;
      sized = sizes ∙ h.sized ∙ sym rows;
    }

-- ---- all changes

-- the rows and the cursor's position are as they were
other_fields : (d : Display) (new : Screen) → IsDisplay d → new.width ≡ d.screen.width → new.rows ≡ d.screen.rows → new.column ≡ d.screen.column → new.row ≡ d.screen.row → IsDisplay (record d { screen = new })
other_fields d new h w r c y = record {
  lawful = record {
    wide_enough = let g = h.lawful.wide_enough in omega arith;
    even = let e : All (IsEven new.width) new.rows = rw w (rw r h.lawful.even) in e;
    column_in = let g = h.lawful.column_in in omega arith;
    row_in = let g = h.lawful.row_in in let n = ap length r in omega arith;
  };
  whole = rw r h.whole;
  sized = h.sized ∙ ap length (sym r);
}

pub effect_is : (width_of : List ℕ → ℕ) (d : Display) (change : ChangeValue) → IsDisplay d → IsDisplay (effect width_of d change)
effect_is width_of d (Attribute change) h = other_fields d _ h refl refl refl refl
effect_is width_of d (AllAttributes pen) h = other_fields d _ h refl refl refl refl
effect_is width_of d (Text text) h = strokes_are width_of (strokes text) d h
effect_is width_of d (ClearScreen color) h = screen_cleared_is color d h
effect_is width_of d (ClearToEndOfLine color) h = line_cleared_is color d h
effect_is width_of d (ClearToEndOfScreen color) h = below_cleared_is color d h
effect_is width_of d (CursorPosition x y) h =
    let s = d.screen in record {
      lawful = record {
        wide_enough = h.lawful.wide_enough;
        even = h.lawful.even;
        column_in = column_in s.width s.column x h.lawful.wide_enough h.lawful.column_in;
        row_in = position_in (height s) s.row y (let g = h.lawful.row_in in omega arith) h.lawful.row_in;
      };
      whole = h.whole;
      sized = h.sized;
    }
effect_is width_of d (CursorColor color) h = h
effect_is width_of d (CursorShape shape) h = record { lawful = h.lawful; whole = h.whole; sized = h.sized }
effect_is width_of d (CursorVisibility visibility) h = other_fields d _ h refl refl refl refl
effect_is width_of d (LineAttribute size) h = record { lawful = h.lawful; whole = h.whole; sized = length-set {A = LineKind} d.sizes d.screen.row size ∙ h.sized }
effect_is width_of d (ScrollRegionUp first size count) h = up_is first size count d h
effect_is width_of d (ScrollRegionDown first size count) h = down_is first size count d h
effect_is width_of d (Title title) h = other_fields d _ h refl refl refl refl

pub replay_is : (width_of : List ℕ → ℕ) (changes : List ChangeValue) (d : Display) → IsDisplay d → IsDisplay (replay width_of d changes)
replay_is width_of [] d h = h
replay_is width_of (change ∷ changes) d h = replay_is width_of changes (effect width_of d change) (effect_is width_of d change h)

-- ---- other sizes

fitted_length : {A : Type 0} (other : A) (size : ℕ) (xs : List A) → length (fitted other size xs) ≡ size
fitted_length other size xs =
    let prefix = length-take size xs in
    let more = length-replicate (size - length xs) other in
    let both = length-append (take size xs) (replicate (size - length xs) other) in
    omega arith

fitted_all : {A : Type 0} (P : A → Type 0) (other : A) (size : ℕ) (xs : List A) → P other → All P xs → All P (fitted other size xs)
fitted_all P other size xs q p = All-append P (take size xs) (replicate (size - length xs) other) (All-take P size xs p) (All-replicate P (size - length xs) other q)

pub resized_width : (width : ℕ) (row : Row) → length (resized_row width row) ≡ width
resized_width width row =
    let prefix = length-closed_end (take width row) in
    let cut = length-take width row in
    let more = length-replicate (width - length row) (blank plain) in
    let both = length-append (closed_end (take width row)) (plain_row (width - length row)) in
    omega arith

resized_whole : (width : ℕ) (row : Row) → IsWhole row → IsWhole (resized_row width row)
resized_whole width row w = whole-append (closed_end (take width row)) (plain_row (width - length row)) (whole-prefix width row w) (whole_blank_row (width - length row))

pub resized_is : (width rows : ℕ) (d : Display) → 0 < width → 0 < rows → IsDisplay d → IsDisplay (resized width rows d)
resized_is width rows d p q h =
    let all = map (resized_row width) d.screen.rows in
    let tall = fitted_length (plain_row width) rows all in record {
      lawful = record {
        wide_enough = p;
        even = fitted_all (IsEven width) (plain_row width) rows all (length-replicate width (blank plain)) (All-map (IsEven width) (resized_row width) d.screen.rows (λ k x l. resized_width width _));
        column_in = omega arith;
        row_in = omega arith;
      };
      whole = fitted_all IsWhole (plain_row width) rows all (whole_blank_row width) (All-map IsWhole (resized_row width) d.screen.rows (λ k x l. resized_whole width _ (h.whole k x l)));
      sized = fitted_length SingleWidthLine rows d.sizes ∙ sym tall;
    }
