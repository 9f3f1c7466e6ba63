-- The column of a cursor that doesn't scroll, and that of a screen's cursor.
use Rattle.std.proofs.Common.{◌≡◌, ℕ, ◌+◌, ◌-◌, ◌<◌, Bool, true, false, List, [], ◌∷◌, length, refl, sym, ap, ◌∙◌, arith}
use Rattle.std.specs.Prelude.{ℤ, ◌&&◌, ◌==◌, nat_lt, nat_le, fold, if◌then◌else◌}
use Rattle.std.proofs.lemmas.Bool.Decides.{nat_tests}
use Rattle.cell_base.specs.Attributes.{Attributes}
use Rattle.cell_base.specs.Row.{space, columns_of}
use Rattle.cell_base.specs.Screen.{Screen, height, scrolled, line_feed, carriage_return, cluster_columns, put}
use Rattle.change_sequence.specs.Sequence.{CellPosition, columns_taken, next_row, stroke_moved, text_moved}
use Rattle.screen_effects.specs.Display.{Display}
use Rattle.screen_effects.specs.Strokes.{Stroke, CarriageReturn, LineFeed, Cluster, stroke_done, strokes, text_done}

counted : (wide more narrow : Bool) (text : List ℕ) (pen : Attributes) → length (columns_of (if wide && narrow then space else text) (wide && more) pen) ≡ (if more && wide then 2 else 1)
counted true true narrow text pen = refl
counted true false narrow text pen = refl
counted false true narrow text pen = refl
counted false false narrow text pen = refl

some : (b : Bool) → 0 < (if b then 2 else 1)
some true = omega arith
some false = omega arith

same_test : (w a t : ℕ) → 0 < t → nat_lt (w - a) t ≡ nat_lt w (a + t)
same_test w a t h = by_answer (nat_lt w (a + t)) refl
  where
    by_answer : (b : Bool) → nat_lt w (a + t) ≡ b → nat_lt (w - a) t ≡ nat_lt w (a + t)
    by_answer true e = (let k : nat_lt (w - a) t ≡ true = grind (arith, nat_tests) in k) ∙ sym e
    by_answer false e = (let k : nat_lt (w - a) t ≡ false = grind (arith, nat_tests) in k) ∙ sym e

-- a line feed keeps column and width
fed_column : (b : Bool) (s : Screen) → (if b then scrolled s else record s { row = s.row + 1 }).column ≡ s.column
fed_column true s = refl
fed_column false s = refl

fed_width : (b : Bool) (s : Screen) → (if b then scrolled s else record s { row = s.row + 1 }).width ≡ s.width
fed_width true s = refl
fed_width false s = refl

put_width : (b : Bool) (s : Screen) → (if b then carriage_return (line_feed s) else s).width ≡ s.width
put_width true s = fed_width (s.row + 1 == height s) s
put_width false s = refl

-- where a cluster is put, in a sequence and on a screen
abbrev from_column : Bool → ℕ → ℕ
from_column true column = 0
from_column false column = column

moved_from : (b : Bool) (p : CellPosition) (taken : ℕ) (r : ℤ) → (if b then record { column = taken; row = r } else record p { column = p.column + taken }).column ≡ from_column b p.column + taken
moved_from true p taken r = omega arith
moved_from false p taken r = refl

put_from : (b : Bool) (s : Screen) → (if b then carriage_return (line_feed s) else s).column ≡ from_column b s.column
put_from true s = refl
put_from false s = refl

module _ (width_of : List ℕ → ℕ) where
  taken_is : (s : Screen) (text : List ℕ) → length (cluster_columns width_of s text) ≡ columns_taken width_of s.width text
  taken_is s text = counted (nat_le 2 (width_of text)) (nat_lt 1 s.width) (s.width == 1) text s.pen

  stroke_width : (d : Display) (stroke : Stroke) → (stroke_done width_of d stroke).screen.width ≡ d.screen.width
  stroke_width d CarriageReturn = refl
  stroke_width d LineFeed = fed_width (d.screen.row + 1 == height d.screen) d.screen
  stroke_width d (Cluster text) = put_width (nat_lt d.screen.width (d.screen.column + length (cluster_columns width_of d.screen text))) d.screen

  stroke_column : (d : Display) (p : CellPosition) (stroke : Stroke) → p.column ≡ d.screen.column → (stroke_moved width_of d.screen.width p stroke).column ≡ (stroke_done width_of d stroke).screen.column
  stroke_column d p CarriageReturn e = refl
  stroke_column d p LineFeed e = e ∙ sym (fed_column (d.screen.row + 1 == height d.screen) d.screen)
  stroke_column d p (Cluster text) e =
      let s = d.screen in
      let taken = columns_taken width_of s.width text in
      let count = taken_is s text in
      let test : nat_lt (s.width - p.column) taken ≡ nat_lt s.width (s.column + length (cluster_columns width_of s text)) =
      same_test s.width p.column taken (some (nat_lt 1 s.width && nat_le 2 (width_of text))) ∙ (λ i. nat_lt s.width (e i + sym count i)) in
      moved_from (nat_lt (s.width - p.column) taken) p taken (next_row p.row)
      ∙ (λ i. from_column (test i) (e i) + sym count i)
      ∙ ap (λ n. n + length (cluster_columns width_of s text)) (sym (put_from (nat_lt s.width (s.column + length (cluster_columns width_of s text))) s))

  all_columns : (done : List Stroke) (d : Display) (p : CellPosition) (w : ℕ) → w ≡ d.screen.width → p.column ≡ d.screen.column → (fold (stroke_moved width_of w) p done).column ≡ (fold (stroke_done width_of) d done).screen.column
  all_columns [] d p w h e = e
  all_columns (stroke ∷ done) d p w h e =
      all_columns done (stroke_done width_of d stroke) (stroke_moved width_of w p stroke) w (h ∙ sym (stroke_width d stroke)) (ap (λ n. (stroke_moved width_of n p stroke).column) h ∙ stroke_column d p stroke e)

  pub text_column : (d : Display) (p : CellPosition) (text : List ℕ) → p.column ≡ d.screen.column → (text_moved width_of d.screen.width p text).column ≡ (text_done width_of d text).screen.column
  text_column d p text e = all_columns (strokes text) d p d.screen.width refl e
