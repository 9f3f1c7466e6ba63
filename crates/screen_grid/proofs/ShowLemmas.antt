-- The displays of lines that are cleared, resized and scrolled.
use Rattle.std.proofs.Common.{◌≡◌, ℕ, zero, suc, ◌+◌, ◌-◌, ◌<◌, List, [], ◌∷◌, ◌++◌, length, get_or, take, drop, set, map, replicate, refl, sym, ap, subst, ◌∙◌, arith, inl, inr, append_assoc, append-nil, length-drop}
use Rattle.std.specs.Prelude.{All, min, max, if◌then◌else◌}
use Rattle.std.proofs.lemmas.Bool.Decides.{leb_tells}
use Rattle.std.proofs.lemmas.List.{map-append, map-set, drop-map, take-map, drop-drop, drop_all, take_all, length-map, length-take, length-take-le}
use Rattle.std.proofs.lemmas.List.Elements.{All-append, All-drop, All-take, All-map, All-replicate, All-set}
use Rattle.std.proofs.Math.Seq.{map-set_same}
use Rattle.cell_base.specs.declared.attributes.LineAttribute.{LineAttribute as LineKind}
use Rattle.cell_base.specs.declared.attributes.LineAttribute.TheVariants.{SingleWidthLine}
use Rattle.cell_base.specs.declared.color.ColorAttribute.{ColorAttribute}
use Rattle.cell_base.specs.Attributes.{Attributes, blank_of}
use Rattle.cell_base.specs.Row.{Row, blank, closed_end, plain_row}
use Rattle.cell_base.specs.Screen.{height}
use Rattle.screen_change.specs.ChangeValue.{ClearScreen, ClearToEndOfLine, ClearToEndOfScreen, LineAttribute, ScrollRegionUp, ScrollRegionDown}
use Rattle.cell_line.specs.LineCalls.{set_blanks as blanks_set}
use Rattle.cell_line.specs.LineContent.{LineContent, clustered_line_of, line_of, with_bits}
use Rattle.screen_grid.specs.Grid.{Grid, IsDrawn, IsRow, Shows, display_of, line_at}
use Rattle.cell_edits.specs.RowEdits.{cut, padded, resized as row_resized}
use Rattle.cell_base.specs.WholeRow.{IsWhole}
use Rattle.cell_base.proofs.RowLemmas.{whole_ends}
use Rattle.screen_grid.specs.Rows.{blanked, cleared, rows_up, rows_down, widened}
use Rattle.screen_grid.proofs.LineLemmas.{same_display, row_shown, rows_shown, row_in, line_width, shows_by}
use Rattle.screen_effects.specs.Effect.{blank_row, cleared_after, effect}
use Rattle.screen_effects.specs.Regions.{in_region, moved_up, moved_down}
use Rattle.screen_effects.specs.Resize.{resized, resized_row}
use Rattle.screen_effects.proofs.EffectLaws.{effect_is, resized_is}

abbrev columns : LineContent → Row
columns l = l.columns

abbrev bits : LineContent → LineKind
bits l = l.bits

-- ---- rows that were blanked

blank_all : (lines : List LineContent) (a : Attributes) (width : ℕ) → All (λ l. length l.columns ≡ width) lines → map columns (map (blanked a) lines) ≡ replicate (length lines) (replicate width (blank a))
blank_all [] a width h = refl
blank_all (l ∷ lines) a width h = λ i. replicate (h 0 l (omega arith) i) (blank a) ∷ blank_all lines a width (λ k d p. h (suc k) d (omega arith)) i

same_bits : (lines : List LineContent) (a : Attributes) → map bits (map (blanked a) lines) ≡ map bits lines
same_bits [] a = refl
same_bits (l ∷ lines) a = ap (λ (bs : List LineKind). l.bits ∷ bs) (same_bits lines a)

constant : {A B : Type 0} (x : B) (xs : List A) → map (λ _. x) xs ≡ replicate (length xs) x
constant x [] = refl
constant {A} {B} x (y ∷ xs) = ap (λ (l : List B). x ∷ l) (constant x xs)

-- ---- a list around one of its elements

set_prefix : {A : Type 0} (xs : List A) (i : ℕ) (x : A) → i < length xs → take (i + 1) (set xs i x) ≡ take i xs ++ x ∷ []
set_prefix [] i x h = absurd (omega arith)
set_prefix (y ∷ ys) zero x h = refl
set_prefix {A} (y ∷ ys) (suc i) x h = let e : suc i + 1 ≡ suc (i + 1) = omega arith in ap (λ n. take n (y ∷ set ys i x)) e ∙ ap (λ (l : List A). y ∷ l) (set_prefix ys i x (omega arith))

set_after : {A : Type 0} (xs : List A) (i : ℕ) (x : A) → drop (i + 1) (set xs i x) ≡ drop (i + 1) xs
set_after [] i x = refl
set_after (y ∷ ys) zero x = refl
set_after (y ∷ ys) (suc i) x = let e : suc i + 1 ≡ suc (i + 1) = omega arith in ap (λ n. drop n (y ∷ set ys i x)) e ∙ set_after ys i x ∙ ap (λ n. drop n (y ∷ ys)) (sym e)

around : (lines : List LineContent) (i : ℕ) → i < length lines → take i lines ++ line_at lines i ∷ drop (i + 1) lines ≡ lines
around [] i h = absurd (omega arith)
around (l ∷ lines) zero h = refl
around (l ∷ lines) (suc i) h = let e : suc i + 1 ≡ suc (i + 1) = omega arith in ap (λ n. l ∷ (take i lines ++ line_at lines i ∷ drop n (l ∷ lines))) e ∙ ap (λ (ls : List LineContent). l ∷ ls) (around lines i (omega arith))

after_first : (l : LineContent) (lines : List LineContent) → IsRow l → All IsRow lines → All IsRow (l ∷ lines)
after_first l lines p q zero d h = p
after_first l lines p q (suc k) d h = q k d (omega arith)

-- ---- regions of lines, as the code moves them: at most as many as there are

abbrev pub code_up : ℕ → List LineContent → List LineContent
code_up count lines = rows_up (min count (length lines)) lines

abbrev pub code_down : ℕ → List LineContent → List LineContent
code_down count lines = rows_down (min count (length lines)) lines

drop_min : {A : Type 0} (n : ℕ) (xs : List A) → drop (min n (length xs)) xs ≡ drop n xs
drop_min n xs = elim (leb_tells n (length xs)) [
  | inl p ↦ let k = p.1 in let e : min n (length xs) ≡ n = omega arith in ap (λ m. drop m xs) e
  | inr p ↦ let k = p.1 in let e : min n (length xs) ≡ length xs = omega arith in ap (λ m. drop m xs) e ∙ drop_all (length xs) xs (omega arith) ∙ sym (drop_all n xs (omega arith))
]

take_min : {A : Type 0} (n : ℕ) (xs : List A) → take (min n (length xs)) xs ≡ take n xs
take_min n xs = elim (leb_tells n (length xs)) [
  | inl p ↦ let k = p.1 in let e : min n (length xs) ≡ n = omega arith in ap (λ m. take m xs) e
  | inr p ↦ let k = p.1 in let e : min n (length xs) ≡ length xs = omega arith in ap (λ m. take m xs) e ∙ take_all (length xs) xs (omega arith) ∙ sym (take_all n xs (omega arith))
]

all_cleared : {A : Type 0} (f : LineContent → A) (new : A) (lines : List LineContent) → All (λ l. f (cleared l) ≡ new) lines → map f (map cleared lines) ≡ replicate (length lines) new
all_cleared f new [] h = refl
all_cleared f new (l ∷ lines) h = λ i. h 0 l (omega arith) i ∷ all_cleared f new lines (λ k d p. h (suc k) d (omega arith)) i

module _ {A : Type 0} (f : LineContent → A) (new : A) (count : ℕ) where
  up_shown : (lines : List LineContent) → All (λ l. f (cleared l) ≡ new) lines → map f (code_up count lines) ≡ moved_up new count (map f lines)
  up_shown lines h =
      let n = min count (length lines) in
      let long = length-map lines f in
      let some = length-take-le n lines (omega arith) in
      let same : length (take n lines) ≡ min count (length (map f lines)) = omega arith in
      map-append f (drop n lines) (map cleared (take n lines))
      ∙ (λ i. (ap (map f) (drop_min count lines) ∙ sym (drop-map f count lines)) i ++ (all_cleared f new (take n lines) (All-take (λ l. f (cleared l) ≡ new) n lines h) ∙ ap (λ m. replicate m new) same) i)

  down_shown : (lines : List LineContent) → All (λ l. f (cleared l) ≡ new) lines → map f (code_down count lines) ≡ moved_down new count (map f lines)
  down_shown lines h =
      let n = min count (length lines) in
      let long = length-map lines f in
      let dropped = length-drop (length lines - n) lines in
      let same : length (drop (length lines - n) lines) ≡ min count (length (map f lines)) = omega arith in
      let kept : length lines - n ≡ length (map f lines) - count = omega arith in
      map-append f (map cleared (drop (length lines - n) lines)) (take (length lines - n) lines)
      ∙ (λ i. (all_cleared f new (drop (length lines - n) lines) (All-drop (λ l. f (cleared l) ≡ new) (length lines - n) lines h) ∙ ap (λ m. replicate m new) same) i ++ (sym (take-map f (length lines - n) lines) ∙ ap (λ m. take m (map f lines)) kept) i)

  module _ (first size : ℕ) (lines : List LineContent) (h : All (λ l. f (cleared l) ≡ new) lines) where
    around_part : (change : List LineContent → List LineContent) (other : List A → List A) → map f (change (take size (drop first lines))) ≡ other (map f (take size (drop first lines))) → map f (in_region change first size lines) ≡ in_region other first size (map f lines)
    around_part change other e =
        let p = take size (drop first lines) in
        let middle : map f p ≡ take size (drop first (map f lines)) = sym (take-map f size (drop first lines)) ∙ ap (take size) (sym (drop-map f first lines)) in
        map-append f (take first lines ++ change p) (drop (first + size) lines)
        ∙ (λ i. (map-append f (take first lines) (change p) ∙ (λ j. sym (take-map f first lines) j ++ (e ∙ ap other middle) j)) i ++ sym (drop-map f (first + size) lines) i)

  region_up : (first size : ℕ) (lines : List LineContent) → All (λ l. f (cleared l) ≡ new) lines → map f (in_region (code_up count) first size lines) ≡ in_region (moved_up new count) first size (map f lines)
  region_up first size lines h = around_part first size lines h (code_up count) (moved_up new count) (up_shown _ (All-take (λ l. f (cleared l) ≡ new) size (drop first lines) (All-drop (λ l. f (cleared l) ≡ new) first lines h)))

  region_down : (first size : ℕ) (lines : List LineContent) → All (λ l. f (cleared l) ≡ new) lines → map f (in_region (code_down count) first size lines) ≡ in_region (moved_down new count) first size (map f lines)
  region_down first size lines h = around_part first size lines h (code_down count) (moved_down new count) (down_shown _ (All-take (λ l. f (cleared l) ≡ new) size (drop first lines) (All-drop (λ l. f (cleared l) ≡ new) first lines h)))

up_rows : (count : ℕ) (lines : List LineContent) → All IsRow lines → All IsRow (code_up count lines)
up_rows count lines h =
    let n = min count (length lines) in
    All-append IsRow (drop n lines) (map cleared (take n lines)) (All-drop IsRow n lines h) (All-map IsRow cleared (take n lines) (λ k d p. (refl, refl)))

down_rows : (count : ℕ) (lines : List LineContent) → All IsRow lines → All IsRow (code_down count lines)
down_rows count lines h =
    let n = length lines - min count (length lines) in
    All-append IsRow (map cleared (drop n lines)) (take n lines) (All-map IsRow cleared (drop n lines) (λ k d p. (refl, refl))) (All-take IsRow n lines h)

region_rows : (change : List LineContent → List LineContent) (first size : ℕ) (lines : List LineContent) → ((xs : List LineContent) → All IsRow xs → All IsRow (change xs)) → All IsRow lines → All IsRow (in_region change first size lines)
region_rows change first size lines keeps p =
    All-append IsRow (take first lines ++ change (take size (drop first lines))) (drop (first + size) lines)
    (All-append IsRow (take first lines) (change (take size (drop first lines))) (All-take IsRow first lines p) (keeps _ (All-take IsRow size (drop first lines) (All-drop IsRow first lines p))))
    (All-drop IsRow (first + size) lines p)

-- the code's region is cut to the lines
pub region_cut : (change : ℕ → List LineContent → List LineContent) (lines : List LineContent) (first size count : ℕ)
    → let tall = length lines in let from = min first tall in let after = from + min size (tall - from) in
    take from lines ++ change (min count (after - from)) (take (after - from) (drop from lines)) ++ drop after lines
    ≡ in_region (λ xs. change (min count (length xs)) xs) first size lines
region_cut change lines first size count =
    let tall = length lines in
    let from = min first tall in
    let after = from + min size (tall - from) in
    let rest = length-drop from lines in
    let remaining : drop from lines ≡ drop first lines = drop_min first lines in
    let long = ap length remaining in
    let some : after - from ≡ min size (length (drop first lines)) = omega arith in
    let part : take (after - from) (drop from lines) ≡ take size (drop first lines) =
    (λ i. take (some i) (remaining i)) ∙ take_min size (drop first lines) in
    let taken = length-take-le (after - from) (drop from lines) (omega arith) in
    let n : after - from ≡ length (take size (drop first lines)) = sym taken ∙ ap length part in
    let last : drop after lines ≡ drop (first + size) lines =
    sym (drop-drop (min size (tall - from)) from lines) ∙ ap (drop (min size (tall - from))) remaining
    ∙ (let m : min size (tall - from) ≡ min size (length (drop first lines)) = omega arith in ap (λ k. drop k (drop first lines)) m) ∙ drop_min size (drop first lines) ∙ drop-drop size first lines in
    λ i. take_min first lines i ++ change (min count (n i)) (part i) ++ last i

module _ {W : Type 0} (width_of : List ℕ → ℕ) where
  all_wide : (c : Grid W) → IsDrawn c → All (λ l. length l.columns ≡ c.width) c.lines
  all_wide c h k d p = get_wide (line_width c k h p)
    where
      get_wide : length (line_at c.lines k).columns ≡ c.width → length (get_or c.lines k d).columns ≡ c.width
      get_wide e = ap (λ (l : LineContent). length l.columns) (same_get c.lines k p) ∙ e
        where
          same_get : (lines : List LineContent) (k : ℕ) → k < length lines → get_or lines k d ≡ get_or lines k (line_of 0 [])
          same_get [] k p = absurd (omega arith)
          same_get (l ∷ lines) zero p = refl
          same_get (l ∷ lines) (suc k) p = same_get lines k (omega arith)

  pub line_blanked : (c : Grid W) (lines : List LineContent) (color : ColorAttribute) → IsDrawn c → lines ≡ set c.lines c.row (blanks_set (line_at c.lines c.row) c.column (length (line_at c.lines c.row).columns) (blank_of color))
      → Shows c (record c { lines = lines; pen = blank_of color }) (effect width_of (display_of c) (ClearToEndOfLine color))
  line_blanked c lines color h e =
      let inside = row_in c h in
      let new = blanks_set (line_at c.lines c.row) c.column (length (line_at c.lines c.row).columns) (blank_of color) in
      let rows = ap (map columns) e ∙ map-set columns c.lines c.row new ∙ ap (λ (r : Row). set (map columns c.lines) c.row (cleared_after c.column color r)) (sym (row_shown c c.row inside)) in
      let sizes = ap (map bits) e ∙ map-set_same bits c.lines c.row new (line_of 0 []) refl in
      let numbers = subst (All IsRow) (sym e) (All-set IsRow c.lines c.row new (h.rows c.row (line_of 0 []) inside) h.rows) in
      shows_by c (record c { lines = lines; pen = blank_of color }) _ (effect_is width_of (display_of c) (ClearToEndOfLine color) h.lawful)
      (same_display (record c { lines = lines; pen = blank_of color }) (effect width_of (display_of c) (ClearToEndOfLine color)) refl rows refl refl refl refl refl sizes refl) refl numbers

  pub screen_blanked : (c : Grid W) (lines : List LineContent) (color : ColorAttribute) → IsDrawn c → lines ≡ take 0 c.lines ++ map (blanked (blank_of color)) (drop 0 c.lines)
      → Shows c (record c { lines = lines; pen = blank_of color; column = 0; row = 0 }) (effect width_of (display_of c) (ClearScreen color))
  screen_blanked c lines color h e =
      let a = blank_of color in
      let rows = ap (map columns) e ∙ blank_all c.lines a c.width (all_wide c h) ∙ ap (λ n. replicate n (blank_row c.width color)) (sym (length-map c.lines columns)) ∙ sym (constant (blank_row c.width color) (map columns c.lines)) in
      let sizes = ap (map bits) e ∙ same_bits c.lines a in
      let numbers = subst (All IsRow) (sym e) (All-map IsRow (blanked a) c.lines h.rows) in
      shows_by c (record c { lines = lines; pen = a; column = 0; row = 0 }) _ (effect_is width_of (display_of c) (ClearScreen color) h.lawful)
      (same_display (record c { lines = lines; pen = a; column = 0; row = 0 }) (effect width_of (display_of c) (ClearScreen color)) refl rows refl refl refl refl refl sizes refl) refl numbers

  pub sized : (c : Grid W) (lines : List LineContent) (size : LineKind) → IsDrawn c → lines ≡ set c.lines c.row (with_bits (line_at c.lines c.row) 0 size)
      → Shows c (record c { lines = lines }) (effect width_of (display_of c) (LineAttribute size))
  sized c lines size h e =
      let inside = row_in c h in
      let new = with_bits (line_at c.lines c.row) 0 size in
      let rows = ap (map columns) e ∙ map-set_same columns c.lines c.row new (line_of 0 []) refl in
      let sizes = ap (map bits) e ∙ map-set bits c.lines c.row new in
      let was = h.rows c.row (line_of 0 []) inside in
      let number = was.0 in
      let zero_is : max (line_at c.lines c.row).number 0 ≡ 0 = omega arith in
      let numbers = subst (All IsRow) (sym e) (All-set IsRow c.lines c.row new (zero_is, was.1) h.rows) in
      shows_by c (record c { lines = lines }) _ (effect_is width_of (display_of c) (LineAttribute size) h.lawful)
      (same_display (record c { lines = lines }) (effect width_of (display_of c) (LineAttribute size)) refl rows refl refl refl refl refl sizes refl) refl numbers

  -- ---- rows below the cursor's

  pub below_blanked : (c : Grid W) (first lines : List LineContent) (color : ColorAttribute) → IsDrawn c → first ≡ set c.lines c.row (blanks_set (line_at c.lines c.row) c.column (length (line_at c.lines c.row).columns) (blank_of color))
      → lines ≡ take (c.row + 1) first ++ map (blanked (blank_of color)) (drop (c.row + 1) first) → Shows c (record c { lines = lines; pen = blank_of color }) (effect width_of (display_of c) (ClearToEndOfScreen color))
  below_blanked c first lines color h f e =
      let a = blank_of color in
      let inside = row_in c h in
      let new = blanks_set (line_at c.lines c.row) c.column (length (line_at c.lines c.row).columns) a in
      let all : lines ≡ take c.row c.lines ++ new ∷ map (blanked a) (drop (c.row + 1) c.lines) =
      e ∙ ap (λ xs. take (c.row + 1) xs ++ map (blanked a) (drop (c.row + 1) xs)) f
      ∙ (λ i. set_prefix c.lines c.row new inside i ++ map (blanked a) (set_after c.lines c.row new i)) ∙ append_assoc (take c.row c.lines) (new ∷ []) (map (blanked a) (drop (c.row + 1) c.lines)) in
      let left = length-drop (c.row + 1) c.lines in
      let tall = rows_shown c in
      let count : length (drop (c.row + 1) c.lines) ≡ height (display_of c).screen - (c.row + 1) = omega arith in
      let rows : map columns lines ≡ take c.row (map columns c.lines) ++ cleared_after c.column color (get_or (map columns c.lines) c.row []) ∷ replicate (height (display_of c).screen - (c.row + 1)) (blank_row c.width color) =
      ap (map columns) all ∙ map-append columns (take c.row c.lines) (new ∷ map (blanked a) (drop (c.row + 1) c.lines))
      ∙ (λ i. sym (take-map columns c.row c.lines) i ++ cleared_after c.column color (sym (row_shown c c.row inside) i) ∷ (blank_all (drop (c.row + 1) c.lines) a c.width (All-drop (λ l. length l.columns ≡ c.width) (c.row + 1) c.lines (all_wide c h)) ∙ ap (λ n. replicate n (blank_row c.width color)) count) i) in
      let sizes : map bits lines ≡ map bits c.lines =
      ap (map bits) all ∙ map-append bits (take c.row c.lines) (new ∷ map (blanked a) (drop (c.row + 1) c.lines))
      ∙ ap (λ (bs : List LineKind). map bits (take c.row c.lines) ++ (line_at c.lines c.row).bits ∷ bs) (same_bits (drop (c.row + 1) c.lines) a)
      ∙ sym (map-append bits (take c.row c.lines) (line_at c.lines c.row ∷ drop (c.row + 1) c.lines)) ∙ ap (map bits) (around c.lines c.row inside) in
      let numbers : All IsRow lines = subst (All IsRow) (sym all)
      (All-append IsRow (take c.row c.lines) (new ∷ map (blanked a) (drop (c.row + 1) c.lines)) (All-take IsRow c.row c.lines h.rows)
      (after_first new (map (blanked a) (drop (c.row + 1) c.lines)) (h.rows c.row (line_of 0 []) inside) (All-map IsRow (blanked a) (drop (c.row + 1) c.lines) (All-drop IsRow (c.row + 1) c.lines h.rows)))) in
      shows_by c (record c { lines = lines; pen = a }) _ (effect_is width_of (display_of c) (ClearToEndOfScreen color) h.lawful)
      (same_display (record c { lines = lines; pen = a }) (effect width_of (display_of c) (ClearToEndOfScreen color)) refl rows refl refl refl refl refl sizes refl) refl numbers

  -- ---- regions

  pub scrolled_up_shown : (c : Grid W) (lines : List LineContent) (first size count : ℕ) → IsDrawn c → lines ≡ in_region (code_up count) first size c.lines
      → Shows c (record c { lines = lines }) (effect width_of (display_of c) (ScrollRegionUp first size count))
  scrolled_up_shown c lines first size count h e =
      let rows = ap (map columns) e ∙ region_up columns (plain_row c.width) count first size c.lines (λ k d p. ap plain_row (all_wide c h k d p)) in
      let sizes = ap (map bits) e ∙ region_up bits SingleWidthLine count first size c.lines (λ k d p. refl) in
      shows_by c (record c { lines = lines }) _ (effect_is width_of (display_of c) (ScrollRegionUp first size count) h.lawful)
      (same_display (record c { lines = lines }) (effect width_of (display_of c) (ScrollRegionUp first size count)) refl rows refl refl refl refl refl sizes refl) refl
      (subst (All IsRow) (sym e) (region_rows (code_up count) first size c.lines (up_rows count) h.rows))

  pub scrolled_down_shown : (c : Grid W) (lines : List LineContent) (first size count : ℕ) → IsDrawn c → lines ≡ in_region (code_down count) first size c.lines
      → Shows c (record c { lines = lines }) (effect width_of (display_of c) (ScrollRegionDown first size count))
  scrolled_down_shown c lines first size count h e =
      let rows = ap (map columns) e ∙ region_down columns (plain_row c.width) count first size c.lines (λ k d p. ap plain_row (all_wide c h k d p)) in
      let sizes = ap (map bits) e ∙ region_down bits SingleWidthLine count first size c.lines (λ k d p. refl) in
      shows_by c (record c { lines = lines }) _ (effect_is width_of (display_of c) (ScrollRegionDown first size count) h.lawful)
      (same_display (record c { lines = lines }) (effect width_of (display_of c) (ScrollRegionDown first size count)) refl rows refl refl refl refl refl sizes refl) refl
      (subst (All IsRow) (sym e) (region_rows (code_down count) first size c.lines (down_rows count) h.rows))

-- ---- other sizes

same_resized : (width : ℕ) (row : Row) → IsWhole row → row_resized width row ≡ resized_row width row
same_resized width row w = elim (leb_tells (suc width) (length row)) [
  | inl p ↦ let k = p.1 in let none : width - length row ≡ 0 = omega arith in
      ap (λ b. if b then cut width row else padded width row) p.0 ∙ sym (append-nil (closed_end (take width row))) ∙ ap (λ n. closed_end (take width row) ++ plain_row n) (sym none)
  | inr p ↦ let k = p.1 in
      ap (λ b. if b then cut width row else padded width row) p.0 ∙ ap (λ (r : Row). r ++ plain_row (width - length row)) (sym (ap closed_end (take_all width row (omega arith)) ∙ whole_ends row w))
]

widen_all : (width : ℕ) (lines : List LineContent) → All (λ l. IsWhole l.columns) lines → map columns (map (widened width) lines) ≡ map (resized_row width) (map columns lines)
widen_all width [] h = refl
widen_all width (l ∷ lines) h = λ i. same_resized width l.columns (h 0 l (omega arith)) i ∷ widen_all width lines (λ k d p. h (suc k) d (omega arith)) i

widen_bits : (width : ℕ) (lines : List LineContent) → map bits (map (widened width) lines) ≡ map bits lines
widen_bits width [] = refl
widen_bits width (l ∷ lines) = ap (λ (bs : List LineKind). l.bits ∷ bs) (widen_bits width lines)

widen_rows : (width : ℕ) (lines : List LineContent) → All IsRow lines → All IsRow (map (widened width) lines)
widen_rows width lines h = All-map IsRow (widened width) lines (λ k d p. let row = h k d p in let number = row.0 in (omega arith, row.1))

whole_lines : (lines : List LineContent) → All IsWhole (map columns lines) → All (λ l. IsWhole l.columns) lines
whole_lines [] w k d p = absurd (omega arith)
whole_lines (l ∷ lines) w zero d p = w 0 [] (omega arith)
whole_lines (l ∷ lines) w (suc k) d p = whole_lines lines (λ j e q. w (suc j) e (omega arith)) k d (omega arith)

map_replicate : {A B : Type 0} (f : A → B) (n : ℕ) (x : A) → map f (replicate n x) ≡ replicate n (f x)
map_replicate f zero x = refl
map_replicate {A} {B} f (suc n) x = ap (λ (l : List B). f x ∷ l) (map_replicate f n x)

module _ {W : Type 0} where
  all_whole : (c : Grid W) → IsDrawn c → All (λ l. IsWhole l.columns) c.lines
  all_whole c h = whole_lines c.lines h.lawful.whole

  pub resized_shown : (c : Grid W) (lines : List LineContent) (width rows : ℕ) → IsDrawn c → 0 < width → 0 < rows
      → lines ≡ map (widened width) (take rows c.lines) ++ replicate (rows - length (map (widened width) (take rows c.lines))) (clustered_line_of 0 (plain_row width))
      → Shows c (record c { width = width; lines = lines; column = min c.column (width - 1); row = min c.row (rows - 1) }) (resized width rows (display_of c))
  resized_shown c lines width rows h p q e =
      let kept = take rows c.lines in
      let new = record c { width = width; lines = lines; column = min c.column (width - 1); row = min c.row (rows - 1) } in
      let long = length-map kept (widened width) in
      let some = length-take rows c.lines in
      let more = rows - length (map (widened width) kept) in
      let all = map (resized_row width) (map columns c.lines) in
      let tall : length all ≡ length c.lines = length-map (map columns c.lines) (resized_row width) ∙ length-map c.lines columns in
      let sized : length (map bits c.lines) ≡ length c.lines = length-map c.lines bits in
      let count : more ≡ rows - length all = omega arith in
      let remaining : more ≡ rows - length (map bits c.lines) = omega arith in
      let row_list : map columns lines ≡ take rows all ++ replicate (rows - length all) (plain_row width) =
      ap (map columns) e ∙ map-append columns (map (widened width) kept) (replicate more (clustered_line_of 0 (plain_row width)))
      ∙ (λ i. (widen_all width kept (All-take (λ l. IsWhole l.columns) rows c.lines (all_whole c h)) ∙ ap (map (resized_row width)) (sym (take-map columns rows c.lines)) ∙ sym (take-map (resized_row width) rows (map columns c.lines))) i
      ++ (map_replicate columns more (clustered_line_of 0 (plain_row width)) ∙ ap (λ n. replicate n (plain_row width)) count) i) in
      let size_list : map bits lines ≡ take rows (map bits c.lines) ++ replicate (rows - length (map bits c.lines)) SingleWidthLine =
      ap (map bits) e ∙ map-append bits (map (widened width) kept) (replicate more (clustered_line_of 0 (plain_row width)))
      ∙ (λ i. (widen_bits width kept ∙ sym (take-map bits rows c.lines)) i ++ (map_replicate bits more (clustered_line_of 0 (plain_row width)) ∙ ap (λ n. replicate n SingleWidthLine) remaining) i) in
      let numbers : All IsRow lines = subst (All IsRow) (sym e)
      (All-append IsRow (map (widened width) kept) (replicate more (clustered_line_of 0 (plain_row width))) (widen_rows width kept (All-take IsRow rows c.lines h.rows)) (All-replicate IsRow more (clustered_line_of 0 (plain_row width)) (refl, refl))) in
      shows_by c new _ (resized_is width rows (display_of c) p q h.lawful) (same_display new (resized width rows (display_of c)) refl row_list refl refl refl refl refl size_list refl) refl numbers
