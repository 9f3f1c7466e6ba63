-- Grids that go to the next row.
use Rattle.std.proofs.Common.{◌≡◌, ℕ, zero, suc, ◌+◌, ◌<◌, ◌≤◌, Bool, true, false, List, [], ◌∷◌, ◌++◌, length, drop, map, refl, sym, ap, subst, ◌∙◌, arith}
use Rattle.std.specs.Prelude.{All, ◌==◌, ◌&&◌, if◌then◌else◌}
use Rattle.std.proofs.lemmas.Bool.Decides.{nat_tests}
use Rattle.std.proofs.lemmas.List.{map-append, drop-map}
use Rattle.std.proofs.lemmas.List.Elements.{All-append, All-drop}
use Rattle.cell_base.specs.declared.attributes.LineAttribute.{LineAttribute}
use Rattle.cell_base.specs.declared.attributes.LineAttribute.TheVariants.{SingleWidthLine}
use Rattle.cell_base.specs.Row.{Row, plain_row}
use Rattle.cell_base.specs.Screen.{height, scrolled}
use Rattle.cell_line.specs.LineContent.{LineContent, clustered_line_of}
use Rattle.screen_grid.specs.Grid.{Grid, IsDrawn, IsRow, Shows, display_of}
use Rattle.screen_grid.proofs.LineLemmas.{same_display, rows_shown, shows_by}
use Rattle.screen_effects.specs.Display.{Display}
use Rattle.screen_effects.specs.Strokes.{CarriageReturn, LineFeed, stroke_done}
use Rattle.screen_effects.proofs.StrokeLaws.{stroke_is}

-- a line feed, where the cursor is in the last row or not
abbrev fed : Bool → Display → Display
fed last d = record d {
  screen = if last then scrolled d.screen else record d.screen { row = d.screen.row + 1 };
  sizes = if last && true then drop 1 d.sizes ++ SingleWidthLine ∷ [] else d.sizes;
}

one : (l : LineContent) → IsRow l → All IsRow (l ∷ [])
one l e zero d h = e
one l e (suc k) d h = absurd (omega arith)

module _ {W : Type 0} (width_of : List ℕ → ℕ) where
  pub fed_below : (c : Grid W) → IsDrawn c → c.row + 1 < length c.lines → Shows c (record c { row = c.row + 1 }) (stroke_done width_of (display_of c) LineFeed)
  fed_below c h k =
      let n = rows_shown c in
      let test : (c.row + 1 == height (display_of c).screen) ≡ false = grind (arith, nat_tests) in
      shows_by c (record c { row = c.row + 1 }) _ (stroke_is width_of (display_of c) LineFeed h.lawful) (sym (ap (λ b. fed b (display_of c)) test)) refl h.rows

  pub fed_last : (c : Grid W) (lines : List LineContent) → IsDrawn c → length c.lines ≤ c.row + 1 → lines ≡ drop 1 c.lines ++ clustered_line_of 0 (plain_row c.width) ∷ [] → Shows c (record c { lines = lines }) (stroke_done width_of (display_of c) LineFeed)
  fed_last c lines h k e =
      let n = rows_shown c in
      let g = h.lawful.lawful.row_in in
      let test : (c.row + 1 == height (display_of c).screen) ≡ true = grind (arith, nat_tests) in
      let some : 0 < length c.lines = omega arith in
      let rows : map (λ (l : LineContent). l.columns) lines ≡ drop 1 (map (λ (l : LineContent). l.columns) c.lines) ++ plain_row c.width ∷ [] =
      ap (map (λ (l : LineContent). l.columns)) e ∙ map-append (λ (l : LineContent). l.columns) (drop 1 c.lines) (clustered_line_of 0 (plain_row c.width) ∷ [])
      ∙ ap (λ (r : List Row). r ++ plain_row c.width ∷ []) (sym (drop-map (λ (l : LineContent). l.columns) 1 c.lines)) in
      let sizes : map (λ (l : LineContent). l.bits) lines ≡ drop 1 (map (λ (l : LineContent). l.bits) c.lines) ++ SingleWidthLine ∷ [] =
      ap (map (λ (l : LineContent). l.bits)) e ∙ map-append (λ (l : LineContent). l.bits) (drop 1 c.lines) (clustered_line_of 0 (plain_row c.width) ∷ [])
      ∙ ap (λ (s : List LineAttribute). s ++ SingleWidthLine ∷ []) (sym (drop-map (λ (l : LineContent). l.bits) 1 c.lines)) in
      let numbers : All IsRow lines =
      subst (All IsRow) (sym e) (All-append IsRow (drop 1 c.lines) (clustered_line_of 0 (plain_row c.width) ∷ []) (All-drop IsRow 1 c.lines h.rows) (one _ (refl, refl))) in
      shows_by c (record c { lines = lines }) _ (stroke_is width_of (display_of c) LineFeed h.lawful)
      (same_display (record c { lines = lines }) (fed true (display_of c)) refl rows refl refl refl refl refl sizes refl ∙ sym (ap (λ b. fed b (display_of c)) test)) refl numbers

  -- to the start of the row
  pub returned : (c : Grid W) → IsDrawn c → Shows c (record c { column = 0 }) (stroke_done width_of (display_of c) CarriageReturn)
  returned c h = shows_by c (record c { column = 0 }) _ (stroke_is width_of (display_of c) CarriageReturn h.lawful) (sym (by_test (c.row + 1 == height (display_of c).screen))) refl h.rows
    where
      by_test : (b : Bool) → record (display_of c) { screen = record (display_of c).screen { column = 0 }; sizes = if b && false then drop 1 (display_of c).sizes ++ SingleWidthLine ∷ [] else (display_of c).sizes } ≡ display_of (record c { column = 0 })
      by_test true = refl
      by_test false = refl
