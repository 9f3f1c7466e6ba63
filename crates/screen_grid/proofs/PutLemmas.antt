-- Clusters that are put on a grid.
use Rattle.std.proofs.Common.{◌≡◌, ℕ, zero, suc, ◌+◌, ◌<◌, ◌≤◌, Bool, true, false, List, [], ◌∷◌, ◌++◌, length, drop, set, map, refl, sym, ap, ◌∙◌, arith}
use Rattle.std.specs.Prelude.{All, ◌==◌, ◌&&◌, nat_lt, nat_le, max, if◌then◌else◌}
use Rattle.std.proofs.lemmas.Bool.Decides.{nat_tests}
use Rattle.std.proofs.lemmas.List.{map-set}
use Rattle.std.proofs.lemmas.List.Elements.{All-set}
use Rattle.std.proofs.Math.Seq.{map-set_same}
use Rattle.cell_base.specs.declared.attributes.LineAttribute.TheVariants.{SingleWidthLine}
use Rattle.cell_base.specs.Attributes.{Attributes}
use Rattle.cell_base.specs.CellContent.{cell_of, shows_as_space}
use Rattle.cell_base.specs.Row.{Row, space, columns_of, set_columns}
use Rattle.cell_base.specs.Screen.{height, scrolled, line_feed, carriage_return, cluster_columns, write_columns}
use Rattle.cell_line.specs.LineCalls.{set_cell_grapheme as grapheme_set}
use Rattle.cell_line.specs.LineContent.{LineContent, line_of}
use Rattle.cell_edits.specs.CellList.{cell_columns}
use Rattle.cell_edits.proofs.RowLaws.{set_within}
use Rattle.screen_grid.specs.Grid.{Grid, IsDrawn, IsRow, Shows, display_of, line_at, line_with, grid_with}
use Rattle.screen_grid.proofs.LineLemmas.{same_display, row_shown, row_in, line_width, shows_by}
use Rattle.screen_effects.specs.Display.{Display}
use Rattle.screen_effects.specs.Effect.{on_screen}
use Rattle.screen_effects.specs.Strokes.{CarriageReturn, LineFeed, Cluster, stroke_done}
use Rattle.screen_effects.proofs.StrokeLaws.{stroke_is}

-- ---- columns that are written at the cursor

-- a text of width 1 or 2 has that many columns
pub count_columns : (text : List ℕ) (width : ℕ) (a : Attributes) → 1 ≤ width → width ≤ 2 → length (columns_of text (nat_le 2 width) a) ≡ width
count_columns text zero a h k = absurd (omega arith)
count_columns text (suc zero) a h k = refl
count_columns text (suc (suc zero)) a h k = refl
count_columns text (suc (suc (suc n))) a h k = absurd (omega arith)

module _ {W : Type 0} where
  pub shown_with : (c : Grid W) (columns : Row) (count : ℕ) → IsDrawn c → length columns ≡ count → display_of (grid_with c columns count) ≡ on_screen (write_columns columns) (display_of c)
  shown_with c columns count h n =
      let rows = map-set (λ (l : LineContent). l.columns) c.lines c.row (line_with c columns) ∙ ap (λ (r : Row). set (map (λ (l : LineContent). l.columns) c.lines) c.row (set_columns r c.column columns)) (sym (row_shown c c.row (row_in c h))) in
      same_display (grid_with c columns count) (on_screen (write_columns columns) (display_of c)) refl rows (ap (λ m. c.column + m) (sym n)) refl refl refl refl
      (map-set_same (λ (l : LineContent). l.bits) c.lines c.row (line_with c columns) (line_of 0 []) refl) refl

  pub rows_with : (c : Grid W) (columns : Row) → IsDrawn c → All IsRow (set c.lines c.row (line_with c columns))
  rows_with c columns h = All-set IsRow c.lines c.row (line_with c columns) (h.rows c.row (line_of 0 []) (row_in c h)) h.rows

  -- the line's call with a cell that fits sets the columns of the cell
  pub line_set : (c : Grid W) (text : List ℕ) (width : ℕ) (wide : Bool) → IsDrawn c → shows_as_space text ≡ false → nat_le 2 (max 1 width) ≡ wide → c.column + length (columns_of text wide c.pen) ≤ c.width
      → grapheme_set (line_at c.lines c.row) c.column text width c.pen 0 ≡ line_with c (columns_of text wide c.pen)
  line_set c text width wide h s w k =
      let line = line_at c.lines c.row in
      let cell = cell_of text width c.pen in
      let columns : cell_columns cell ≡ columns_of text wide c.pen =
      (ap (λ b. columns_of (if b then space else text) (nat_le 2 (if b then 1 else max 1 width)) c.pen) s ∙ ap (λ b. columns_of text b c.pen) w) in
      let zero_is = (h.rows c.row (line_of 0 []) (row_in c h)).0 in
      let number : max line.number 0 ≡ line.number = omega arith in
      let fits : c.column + length (cell_columns cell) ≤ length line.columns = let n = ap length columns in let m = line_width c c.row h (row_in c h) in omega arith in
      λ i. record { number = number i; bits = line.bits; clustered = line.clustered; columns = (set_within line.columns c.column cell fits ∙ ap (set_columns line.columns c.column) columns) i }

-- ---- a cluster

-- with these tests: whether the cluster needs the next row, and whether the cursor is in the last one
abbrev put_by : Bool → Bool → Row → Display → Display
put_by next last columns d = record d {
  screen = write_columns columns (if next then carriage_return (line_feed d.screen) else d.screen);
  sizes = if last && next then drop 1 d.sizes ++ SingleWidthLine ∷ [] else d.sizes;
}

module _ {W : Type 0} (width_of : List ℕ → ℕ) where
  pub put_here : (c : Grid W) (cluster : List ℕ) (columns : Row) (count : ℕ) → IsDrawn c → cluster_columns width_of (display_of c).screen cluster ≡ columns → length columns ≡ count → c.column + count ≤ c.width
      → Shows c (grid_with c columns count) (stroke_done width_of (display_of c) (Cluster cluster))
  put_here c cluster columns count h k n fits =
      let d = display_of c in
      let test : nat_lt d.screen.width (d.screen.column + length columns) ≡ false = grind (arith, nat_tests) in
      let last = d.screen.row + 1 == height d.screen in
      let same : stroke_done width_of d (Cluster cluster) ≡ on_screen (write_columns columns) d =
      ap (λ (r : Row). put_by (nat_lt d.screen.width (d.screen.column + length r)) last r d) k ∙ ap (λ b. put_by b last columns d) test ∙ not_last last in
      shows_by c (grid_with c columns count) _ (stroke_is width_of d (Cluster cluster) h.lawful) (shown_with c columns count h n ∙ sym same) refl (rows_with c columns h)
    where
      not_last : (b : Bool) → put_by false b columns (display_of c) ≡ on_screen (write_columns columns) (display_of c)
      not_last true = refl
      not_last false = refl

  -- at the start of the next row, where it doesn't fit after the cursor
  pub put_next : (c fed home : Grid W) (cluster : List ℕ) (columns : Row) (count : ℕ) → IsDrawn c → cluster_columns width_of (display_of c).screen cluster ≡ columns → length columns ≡ count → c.width < c.column + count → count ≤ c.width
      → Shows c fed (stroke_done width_of (display_of c) LineFeed) → Shows fed home (stroke_done width_of (display_of fed) CarriageReturn) → Shows c (grid_with home columns count) (stroke_done width_of (display_of c) (Cluster cluster))
  put_next c fed home cluster columns count h k n fits room f r =
      let d = display_of c in
      let test : nat_lt d.screen.width (d.screen.column + length columns) ≡ true = grind (arith, nat_tests) in
      let last = d.screen.row + 1 == height d.screen in
      let same : stroke_done width_of d (Cluster cluster) ≡ on_screen (write_columns columns) (stroke_done width_of (stroke_done width_of d LineFeed) CarriageReturn) =
      ap (λ (x : Row). put_by (nat_lt d.screen.width (d.screen.column + length x)) last x d) k ∙ ap (λ b. put_by b last columns d) test ∙ ap (on_screen (write_columns columns)) (not_scrolled ((stroke_done width_of d LineFeed).screen.row + 1 == height (stroke_done width_of d LineFeed).screen) (stroke_done width_of d LineFeed)) in
      let here : display_of home ≡ stroke_done width_of (stroke_done width_of d LineFeed) CarriageReturn = r.same ∙ ap (λ (x : Display). stroke_done width_of x CarriageReturn) f.same in
      shows_by c (grid_with home columns count) _ (stroke_is width_of d (Cluster cluster) h.lawful) (shown_with home columns count r.drawn n ∙ ap (on_screen (write_columns columns)) here ∙ sym same) (r.widths ∙ f.widths) (rows_with home columns r.drawn)
    where
      not_scrolled : (b : Bool) (d : Display) → record d { screen = carriage_return d.screen } ≡ record d { screen = carriage_return d.screen; sizes = if b && false then drop 1 d.sizes ++ SingleWidthLine ∷ [] else d.sizes }
      not_scrolled true d = refl
      not_scrolled false d = refl

  -- the pen stays
  pub same_pen : (c fed home : Grid W) → Shows c fed (stroke_done width_of (display_of c) LineFeed) → Shows fed home (stroke_done width_of (display_of fed) CarriageReturn) → home.pen ≡ c.pen
  same_pen c fed home f r =
      let pen : Display → Attributes = λ d. d.screen.pen in
      ap pen r.same ∙ ap pen f.same ∙ by_test ((display_of c).screen.row + 1 == height (display_of c).screen)
    where
      by_test : (b : Bool) → (if b then scrolled (display_of c).screen else record (display_of c).screen { row = (display_of c).screen.row + 1 }).pen ≡ c.pen
      by_test true = refl
      by_test false = refl
