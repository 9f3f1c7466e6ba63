-- Lines of a grid, and the display that they show.
use Rattle.std.proofs.Common.{◌≡◌, ℕ, zero, suc, ◌+◌, ◌-◌, ◌<◌, true, List, [], ◌∷◌, ◌++◌, length, get_or, take, drop, set, map, replicate, refl, sym, ap, subst, ◌∙◌, arith, append-nil, length-set}
use Rattle.std.specs.Prelude.{All, None}
use Rattle.std.proofs.lemmas.List.{get_or_default, get_or-map, length-map, length-replicate, drop_all, take_all, take_more_set}
use Rattle.std.proofs.lemmas.List.Elements.{All-replicate}
use Rattle.cell_base.specs.Attributes.{Attributes, plain}
use Rattle.cell_base.specs.Row.{Row, blank, closed_start, plain_row}
use Rattle.cell_line.specs.LineCalls.{set_blanks as blanks_set}
use Rattle.cell_line.specs.LineContent.{LineContent, clustered_line_of, line_of}
use Rattle.screen_grid.specs.Rows.{blanked}
use Rattle.screen_grid.specs.Grid.{Grid, IsDrawn, IsRow, Shows, display_of, line_at}
use Rattle.screen_effects.specs.Display.{Display, IsDisplay, new_display}
use Rattle.screen_effects.proofs.StrokeLaws.{new_display_is}

pub columns_in : List LineContent → List Row
columns_in lines = map (λ l. l.columns) lines

-- the lines but the first, and after them one that was set
pub scrolled_lines : (lines new : List LineContent) (l : LineContent) (last : ℕ) → 0 < length lines → last ≡ length new - 1 → length new ≡ length lines → take (length lines - 1) new ≡ drop 1 lines → set new last l ≡ drop 1 lines ++ l ∷ []
scrolled_lines lines new l last h n same prefix =
    let count = length-set new last l in
    let fewer : last ≡ length lines - 1 = omega arith in
    sym (take_all (last + 1) (set new last l) (omega arith)) ∙ take_more_set new last l (omega arith) ∙ ap (λ (xs : List LineContent). xs ++ l ∷ []) (ap (λ m. take m new) fewer ∙ prefix)

-- the lines but the first, which was set
pub after_first : (lines : List LineContent) (l : LineContent) → drop 1 (set lines 0 l) ≡ drop 1 lines
after_first [] l = refl
after_first (first ∷ lines) l = refl

-- blanks in all columns
pub all_blank : (l : LineContent) (a : Attributes) → blanks_set l 0 (length l.columns) a ≡ blanked a l
all_blank l a =
    let count = length-replicate (length l.columns - 0) (blank a) in
    let same : length l.columns - 0 ≡ length l.columns = omega arith in
    let none : drop (0 + length (replicate (length l.columns - 0) (blank a))) l.columns ≡ [] = drop_all (0 + length (replicate (length l.columns - 0) (blank a))) l.columns (omega arith) in
    λ i. record l { columns = (ap (λ r. replicate (length l.columns - 0) (blank a) ++ closed_start r) none ∙ append-nil (replicate (length l.columns - 0) (blank a)) ∙ ap (λ n. replicate n (blank a)) same) i }

-- a line that is looked at
pub line_is : (lines : List LineContent) (row : ℕ) (x : LineContent) → row < length lines → x ≡ get_or lines row x → x ≡ line_at lines row
line_is lines row x h k = k ∙ get_or_default lines row x (line_of 0 []) h

-- a line that a call changed
pub line_changed : (lines : List LineContent) (row : ℕ) (x new : LineContent) (f : LineContent → LineContent) → row < length lines → x ≡ get_or lines row x → new ≡ f x → set lines row new ≡ set lines row (f (line_at lines row))
line_changed lines row x new f h k m = ap (set lines row) (m ∙ ap f (line_is lines row x h k))

-- ---- the display of a grid

module _ {W : Type 0} where
  -- displays of equal parts
  pub same_display : (c : Grid W) (d : Display) → c.width ≡ d.screen.width → map (λ l. l.columns) c.lines ≡ d.screen.rows → c.column ≡ d.screen.column → c.row ≡ d.screen.row
      → c.visible ≡ d.screen.visible → c.pen ≡ d.screen.pen → c.title ≡ d.screen.title → map (λ l. l.bits) c.lines ≡ d.sizes → c.shape ≡ d.shape → display_of c ≡ d
  same_display c d w r x y v p t s k = λ i. record {
    screen = record { width = w i; rows = r i; column = x i; row = y i; visible = v i; pen = p i; title = t i };
    sizes = s i;
    shape = k i;
  }

  -- a row of the display is a line's
  pub row_shown : (c : Grid W) (row : ℕ) → row < length c.lines → get_or (map (λ l. l.columns) c.lines) row [] ≡ (line_at c.lines row).columns
  row_shown c row h = get_or-map (λ (l : LineContent). l.columns) c.lines row (line_of 0 []) [] h

  pub rows_shown : (c : Grid W) → length (display_of c).screen.rows ≡ length c.lines
  rows_shown c = length-map c.lines (λ l. l.columns)

  pub row_in : (c : Grid W) → IsDrawn c → c.row < length c.lines
  row_in c h = let g = h.lawful.lawful.row_in in let n = rows_shown c in omega arith

  pub line_width : (c : Grid W) (row : ℕ) → IsDrawn c → row < length c.lines → length (line_at c.lines row).columns ≡ c.width
  line_width c row h k = ap length (sym (row_shown c row k)) ∙ h.lawful.lawful.even row [] (let n = rows_shown c in omega arith)

  -- a step shows `d` where the display after it is `d`, which is lawful
  pub shows_by : (before after : Grid W) (d : Display) → IsDisplay d → display_of after ≡ d → after.widths ≡ before.widths → All IsRow after.lines → Shows before after d
  shows_by before after d lawful same widths rows = record {
    same = same;
    widths = widths;
    drawn = record { lawful = subst IsDisplay (sym same) lawful; rows = rows };
  }

-- ---- new grids

map_replicate : {A B : Type 0} (f : A → B) (n : ℕ) (x : A) → map f (replicate n x) ≡ replicate n (f x)
map_replicate f zero x = refl
map_replicate {A} {B} f (suc n) x = ap (λ (l : List B). f x ∷ l) (map_replicate f n x)

module _ {W : Type 0} (widths : W) (width rows : ℕ) (lines : List LineContent) (pen : Attributes) (title : List ℕ) where
  abbrev pub new_grid : Grid W
  new_grid = record { widths = widths; width = width; lines = lines; column = 0; row = 0; visible = true; shape = None; pen = pen; title = title }

  pub new_shown : lines ≡ replicate rows (clustered_line_of 0 (plain_row width)) → pen ≡ plain → title ≡ [] → display_of new_grid ≡ new_display width rows
  new_shown e p t =
      same_display new_grid (new_display width rows) refl
      (ap (map (λ (l : LineContent). l.columns)) e ∙ map_replicate (λ (l : LineContent). l.columns) rows (clustered_line_of 0 (plain_row width))) refl refl refl p t
      (ap (map (λ (l : LineContent). l.bits)) e ∙ map_replicate (λ (l : LineContent). l.bits) rows (clustered_line_of 0 (plain_row width))) refl

  pub new_drawn : 0 < width → 0 < rows → lines ≡ replicate rows (clustered_line_of 0 (plain_row width)) → pen ≡ plain → title ≡ [] → IsDrawn new_grid
  new_drawn w h e p t = record {
    lawful = subst IsDisplay (sym (new_shown e p t)) (new_display_is width rows w h);
    rows = subst (All IsRow) (sym e) (All-replicate IsRow rows (clustered_line_of 0 (plain_row width)) (refl, refl));
  }
