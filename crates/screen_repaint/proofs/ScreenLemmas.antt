-- A screen that is painted, part by part.
use Rattle.std.proofs.Common.{◌≡◌, ℕ, suc, ◌<◌, Bool, true, false, List, [], ◌∷◌, ◌++◌, length, refl, sym, ap, ◌∙◌, arith}
use Rattle.std.specs.Prelude.{All, not, ◌&&◌, ◌==◌, if◌then◌else◌}
use Rattle.cell_base.specs.declared.attributes.CursorVisibility.TheVariants.{Hidden}
use Rattle.cell_base.specs.declared.color.ColorAttribute.TheVariants.{Default}
use Rattle.cell_base.specs.Attributes.{Attributes, plain}
use Rattle.cell_base.specs.Row.{Row}
use Rattle.cell_base.specs.SameAttributes.{same_attributes}
use Rattle.screen_change.specs.CellChanges.{attributes_due}
use Rattle.screen_change.specs.ChangeValue.{ChangeValue, AllAttributes, ClearScreen, CursorPosition, CursorVisibility}
use Rattle.cell_base.specs.declared.attributes.Position.TheVariants.{Absolute}
use Rattle.screen_change.specs.Written.{Written, begun, finished, with_attributes}
use Rattle.screen_change.proofs.TextLemmas.{by_test}
use Rattle.cell_base.specs.WholeRow.{IsWhole}
use Rattle.screen_effects.specs.Display.{Display}
use Rattle.screen_repaint.specs.PaintedRows.{AreFilled, with_changes}
use Rattle.screen_repaint.specs.Repaint.{pen_left, are_some, rows_painted, cursor_placed, cursor_shown, repaint_with, titles}
use Rattle.screen_repaint.proofs.EndLemmas.{some_visible}
use Rattle.screen_repaint.proofs.PaintLemmas.{finished_is, nothing_more, more}

pub pen_written : (a : Attributes) (w : Written) → w.cells ≡ [] → with_attributes a w ≡ with_changes (attributes_due w.pen a) w
pen_written a w e =
    by_test (same_attributes a w.pen)
    (λ b.
    ap (λ x. if x then w else record { changes = finished w ++ AllAttributes a ∷ []; pen = a; cells = [] }) b
    ∙ sym (nothing_more w e) ∙ ap (λ x. with_changes (if x then [] else AllAttributes a ∷ []) w) (sym b))
    (λ b.
    ap (λ x. if x then w else record { changes = finished w ++ AllAttributes a ∷ []; pen = a; cells = [] }) b
    ∙ (λ i. record { changes = finished_is w e i ++ AllAttributes a ∷ []; pen = a; cells = [] })
    ∙ ap (λ x. with_changes (if x then [] else AllAttributes a ∷ []) w) (sym b))

-- each row of a lawful screen has a cell
pub filled : (rows : List Row) (width : ℕ) → 0 < width → All (λ row. length row ≡ width) rows → All IsWhole rows → AreFilled rows
filled [] width n even whole = tt
filled (row ∷ rows) width n even whole =
    let wide = even 0 [] (omega arith) in (
      some_visible 0 row (whole 0 [] (omega arith)) (omega (arith, wide, n)),
      filled rows width n (λ k d h. even (suc k) d (omega arith)) (λ k d h. whole (suc k) d (omega arith)),
    )

title_pen : (also_empty : Bool) (title : List ℕ) (pen : Attributes) → pen_left pen (titles also_empty title) ≡ pen
title_pen true title pen = refl
title_pen false [] pen = refl
title_pen false (byte ∷ title) pen = refl

position_pen : (painted : Bool) (column row : ℕ) (pen : Attributes) → pen_left pen (cursor_placed painted column row) ≡ pen
position_pen painted column row pen =
    by_test (not painted && (column == 0 && row == 0))
    (λ e. ap (λ b. pen_left pen (if b then [] else CursorPosition (Absolute column) (Absolute row) ∷ [])) e)
    (λ e. ap (λ b. pen_left pen (if b then [] else CursorPosition (Absolute column) (Absolute row) ∷ [])) e)

module _ (d : Display) (also_empty : Bool) (w w1 w2 w3 w4 w5 w6 : Written) (painted : Bool) where
  abbrev rows : List ChangeValue
  rows = rows_painted plain d.screen.rows

  abbrev clear : List ChangeValue
  clear = CursorVisibility Hidden ∷ ClearScreen Default ∷ []

  abbrev title : List ChangeValue
  title = titles also_empty d.screen.title

  abbrev position : Bool → List ChangeValue
  position some = cursor_placed some d.screen.column d.screen.row

  pub repainted : w ≡ begun plain → w1 ≡ with_changes clear w → w2 ≡ with_changes title w1
      → w3 ≡ with_changes (rows_painted w2.pen d.screen.rows) w2 → painted ≡ are_some (rows_painted w2.pen d.screen.rows)
      → w4 ≡ with_changes (position painted) w3 → w5 ≡ with_changes (attributes_due w4.pen d.screen.pen) w4 → w6 ≡ with_changes (cursor_shown d.screen.visible d.shape) w5
      → finished w6 ≡ repaint_with title d
  repainted e e1 e2 e3 some e4 e5 e6 =
      let first : w1 ≡ with_changes clear (begun plain) = e1 ∙ ap (with_changes clear) e in
      let second : w2 ≡ with_changes (clear ++ title) (begun plain) = e2 ∙ ap (with_changes title) first ∙ more clear title (begun plain) in
      let pen2 : w2.pen ≡ plain = ap (λ (v : Written). v.pen) second ∙ title_pen also_empty d.screen.title plain in
      let third : w3 ≡ with_changes (clear ++ title ++ rows) (begun plain) =
      e3 ∙ (λ i. with_changes (rows_painted (pen2 i) d.screen.rows) (second i)) ∙ more (clear ++ title) rows (begun plain) in
      let pen3 : w3.pen ≡ pen_left plain rows = ap (λ (v : Written). v.pen) e3 ∙ (λ i. pen_left (pen2 i) (rows_painted (pen2 i) d.screen.rows)) in
      let any : painted ≡ are_some rows = some ∙ ap (λ pen. are_some (rows_painted pen d.screen.rows)) pen2 in
      let fourth : w4 ≡ with_changes (clear ++ title ++ rows ++ position (are_some rows)) (begun plain) =
      e4 ∙ (λ i. with_changes (position (any i)) (third i)) ∙ more (clear ++ title ++ rows) (position (are_some rows)) (begun plain) in
      let pen4 : w4.pen ≡ pen_left plain rows = ap (λ (v : Written). v.pen) e4 ∙ position_pen painted d.screen.column d.screen.row w3.pen ∙ pen3 in
      let fifth : w5 ≡ with_changes (clear ++ title ++ rows ++ position (are_some rows) ++ attributes_due (pen_left plain rows) d.screen.pen) (begun plain) =
      e5 ∙ (λ i. with_changes (attributes_due (pen4 i) d.screen.pen) (fourth i)) ∙ more (clear ++ title ++ rows ++ position (are_some rows)) (attributes_due (pen_left plain rows) d.screen.pen) (begun plain) in
      let all : w6 ≡ with_changes (repaint_with title d) (begun plain) =
      e6 ∙ ap (with_changes (cursor_shown d.screen.visible d.shape)) fifth
      ∙ more (clear ++ title ++ rows ++ position (are_some rows) ++ attributes_due (pen_left plain rows) d.screen.pen) (cursor_shown d.screen.visible d.shape) (begun plain) in
      finished_is w6 (ap (λ (v : Written). v.cells) e6) ∙ ap (λ (v : Written). v.changes) all
