-- What a difference prints.
use Rattle.std.proofs.Common.{◌≡◌, ℕ, ◌+◌, ◌-◌, ◌<◌, ◌≤◌, ◌∙◌, false, List, [], ◌∷◌, ◌++◌, map, Option, Some, None, refl, sym, ap, subst, arith}
use Rattle.std.specs.Prelude.{◌==◌, ◌&&◌, nat_le, min, fold, if◌then◌else◌}
use Rattle.std.specs.Cmp.{unsigned_Decides}
use Rattle.std.proofs.lemmas.Bool.{and_parts}
use Rattle.std.proofs.lemmas.Bool.Decides.{nat_tests}
use Rattle.std.proofs.lemmas.List.{map-append}
use Rattle.cell_base.specs.declared.attributes.Position.TheVariants.{Absolute}
use Rattle.cell_base.specs.Attributes.{Attributes}
use Rattle.cell_base.specs.CellContent.{CellContent}
use Rattle.cell_base.specs.Screen.{height}
use Rattle.screen_change.specs.CellChanges.{cells_written, last_pen}
use Rattle.screen_change.proofs.TextLemmas.{by_test}
use Rattle.screen_difference.specs.Difference.{Stretch, cells_of, alone, longer, before_stretches, stretches, position, stretch_written, stretches_written, difference}
use Rattle.screen_difference.specs.DrawnCells.{HasPosition, HavePositions}
use Rattle.screen_difference.specs.FreshCells.{PlacedCell}
use Rattle.screen_effects.specs.Display.{Display}
use Rattle.screen_effects.specs.Positions.{resolved_column}
use Rattle.screen_effects.proofs.WrittenLemmas.{AreTexts}
use Rattle.screen_difference.specs.Prints.{PlacedText, text_of}
use Rattle.screen_difference.proofs.CellPrints.{after, beside, cells_print, count_of, pen_prints, text_width}
use Rattle.screen_difference.proofs.JoinLemmas.{Prints, Prints-as, Prints-join, Prints-nothing, Stand, stand_of}

-- ---- the cells of stretches

-- cells side by side in a row, from a column on
abbrev placed_beside : ℕ → ℕ → List CellContent → List PlacedCell
placed_beside row column [] = []
placed_beside row column (cell ∷ cells) = record { row = row; column = column; cell = cell } ∷ placed_beside row (column + cell.width) cells

abbrev placed_of : Stretch → List PlacedCell
placed_of s = placed_beside s.row s.column (cells_of s)

abbrev all_placed : List Stretch → List PlacedCell
all_placed [] = []
all_placed (s ∷ ss) = placed_of s ++ all_placed ss

before_placed : (c : PlacedCell) (ss : List Stretch) → all_placed (before_stretches c ss) ≡ c ∷ all_placed ss
before_placed c [] = refl
before_placed c (s ∷ ss) =
    by_test (c.row == s.row && c.column + c.cell.width == s.column)
    (λ e.
    let both = and_parts (c.row == s.row) (c.column + c.cell.width == s.column) e in
    let row : c.row ≡ s.row = (unsigned_Decides c.row s.row).0 both.0 in
    let column : c.column + c.cell.width ≡ s.column = (unsigned_Decides (c.column + c.cell.width) s.column).0 both.1 in
    ap (λ b. all_placed (if b then longer c s ∷ ss else alone c ∷ s ∷ ss)) e
    ∙ (λ i. c ∷ (placed_beside (row i) (column i) (cells_of s) ++ all_placed ss)))
    (λ e. ap (λ b. all_placed (if b then longer c s ∷ ss else alone c ∷ s ∷ ss)) e)

-- the stretches have the cells, in turn
stretches_placed : (cells : List PlacedCell) → all_placed (stretches cells) ≡ cells
stretches_placed [] = refl
stretches_placed (c ∷ cells) = before_placed c (stretches cells) ∙ ap (λ (cs : List PlacedCell). c ∷ cs) (stretches_placed cells)

module _ (width_of : List ℕ → ℕ) (width rows : ℕ) where
  both_positions : (cs ds : List PlacedCell) → HavePositions width_of width rows (cs ++ ds) → HavePositions width_of width rows cs × HavePositions width_of width rows ds
  both_positions [] ds p = (tt, p)
  both_positions (c ∷ cs) ds p = let rest = both_positions cs ds p.1 in ((p.0, rest.0), rest.1)

  -- a text takes the columns of its cell
  width_is : (c : PlacedCell) → HasPosition width_of width rows c → text_width width_of c.cell.text ≡ c.cell.width
  width_is c p =
      let some = p.some in
      let most = p.most in
      by_test (nat_le 2 c.cell.width)
      (λ e. ap count_of (p.sound.width ∙ e) ∙ grind (arith, nat_tests))
      (λ e. ap count_of (p.sound.width ∙ e) ∙ grind (arith, nat_tests))

  -- cells side by side that have positions: their texts, the column after them, and the texts they print
  placed_texts : (cells : List CellContent) (row column : ℕ) → HavePositions width_of width rows (placed_beside row column cells) → AreTexts (map (λ c. c.text) cells)
  placed_texts [] row column p = tt
  placed_texts (cell ∷ cells) row column p = (p.0.sound.stands, placed_texts cells row (column + cell.width) p.1)

  placed_fit : (cells : List CellContent) (row column : ℕ) → column ≤ width → HavePositions width_of width rows (placed_beside row column cells)
      → after width_of column (map (λ c. c.text) cells) ≤ width
  placed_fit [] row column h p = h
  placed_fit (cell ∷ cells) row column h p =
      let is = width_is (record { row = row; column = column; cell = cell }) p.0 in
      subst (λ n. after width_of (column + n) (map (λ c. c.text) cells) ≤ width) (sym is) (placed_fit cells row (column + cell.width) p.0.in_columns p.1)

  placed_are : (cells : List CellContent) (row column : ℕ) → HavePositions width_of width rows (placed_beside row column cells)
      → beside width_of row column (map (λ c. c.text) cells) ≡ map text_of (placed_beside row column cells)
  placed_are [] row column p = refl
  placed_are (cell ∷ cells) row column p =
      let first : PlacedText = record { row = row; column = column; text = cell.text } in
      let is = width_is (record { row = row; column = column; cell = cell }) p.0 in
      (λ i. first ∷ beside width_of row (column + is i) (map (λ c. c.text) cells))
      ∙ ap (λ (ts : List PlacedText). first ∷ ts) (placed_are cells row (column + cell.width) p.1)

-- ---- stretches, each after its position change

abbrev moved_to : ℕ → ℕ → Stand → Stand
moved_to row column at = record at { row = row; column = column }

module _ (width_of : List ℕ → ℕ) where
  -- the row, the column and the pen after a stretch
  abbrev stretch_after : Stand → Stretch → Stand
  stretch_after at s = record at { row = s.row; column = after width_of s.column (map (λ c. c.text) (cells_of s)); pen = last_pen s.first.attributes s.remaining }

  -- a position change prints nothing, and moves the cursor there
  position_prints : (d : Display) (column row : ℕ) → column < d.screen.width → row < height d.screen
      → Prints width_of d (position column row ∷ []) [] (moved_to row column (stand_of d.screen))
  position_prints d column row c r =
      let w = d.screen.width in
      let other : (column == w) ≡ false = grind (arith, nat_tests) in
      let there : min column (w - 1) ≡ column = omega arith in
      let column_is : resolved_column w d.screen.column (Absolute column) ≡ column = ap (λ t. if t then w else min column (w - 1)) other ∙ there in
      let row_is : min row (height d.screen - 1) ≡ row = omega arith in
      record { prints = refl; still = refl; leaves = λ i. moved_to (row_is i) (column_is i) (stand_of d.screen) }

  moved_prints : (d : Display) (at : Stand) (s : Stretch) → stand_of d.screen ≡ at → HavePositions width_of at.width at.rows (placed_of s)
      → Prints width_of d (position s.column s.row ∷ []) [] (moved_to s.row s.column at)
  moved_prints d at s e p =
      let some = p.0.some in
      let fits = p.0.in_columns in
      subst (λ (x : Stand). s.column < x.width → s.row < x.rows → Prints width_of d (position s.column s.row ∷ []) [] (moved_to s.row s.column x)) e (position_prints d s.column s.row) (omega arith) p.0.in_rows

  -- the cells of a stretch, after its position change
  stretch_cells : (d : Display) (at : Stand) (s : Stretch) → stand_of d.screen ≡ moved_to s.row s.column at → HavePositions width_of at.width at.rows (placed_of s)
      → Prints width_of d (cells_written at.pen (cells_of s)) (map text_of (placed_of s)) (stretch_after at s)
  stretch_cells d at s e p =
      let some = p.0.some in
      let first_fits = p.0.in_columns in
      let texts = placed_texts width_of at.width at.rows (cells_of s) s.row s.column p in
      let fits = placed_fit width_of at.width at.rows (cells_of s) s.row s.column (omega arith) p in
      Prints-as (cells_print width_of (cells_of s) d (moved_to s.row s.column at) texts e fits) (placed_are width_of at.width at.rows (cells_of s) s.row s.column p) refl

  next_prints : (d : Display) (at : Stand) (s : Stretch) → stand_of d.screen ≡ at → HavePositions width_of at.width at.rows (placed_of s)
      → Prints width_of d (stretch_written (Some at.pen) s) (map text_of (placed_of s)) (stretch_after at s)
  next_prints d at s e p = Prints-join (moved_prints d at s e p) (λ x f. stretch_cells x at s f p)

  first_prints : (d : Display) (at : Stand) (s : Stretch) → stand_of d.screen ≡ at → HavePositions width_of at.width at.rows (placed_of s)
      → Prints width_of d (stretch_written None s) (map text_of (placed_of s)) (stretch_after at s)
  first_prints d at s e p =
      let a : Attributes = s.first.attributes in
      Prints-join (moved_prints d at s e p) (λ x f. Prints-join (pen_prints width_of a x (moved_to s.row s.column at) f) (λ y g. stretch_cells y (record at { pen = a }) s g p))

  -- a stretch, and the remaining ones after it
  one_more : (d : Display) (pen : Option Attributes) (s : Stretch) (ss : List Stretch) (mid after : Stand) → Prints width_of d (stretch_written pen s) (map text_of (placed_of s)) mid
      → ((e : Display) → stand_of e.screen ≡ mid → Prints width_of e (stretches_written (Some (last_pen s.first.attributes s.remaining)) ss) (map text_of (all_placed ss)) after)
      → Prints width_of d (stretches_written pen (s ∷ ss)) (map text_of (all_placed (s ∷ ss))) after
  one_more d pen s ss mid after p q = Prints-as (Prints-join p q) (sym (map-append text_of (placed_of s) (all_placed ss))) refl

  -- the stretches after the first one, and all of them
  rest_print : (ss : List Stretch) (d : Display) (at : Stand) → stand_of d.screen ≡ at → HavePositions width_of at.width at.rows (all_placed ss)
      → Prints width_of d (stretches_written (Some at.pen) ss) (map text_of (all_placed ss)) (fold stretch_after at ss)
  rest_print [] d at e p = Prints-nothing e
  rest_print (s ∷ ss) d at e p =
      let two = both_positions width_of at.width at.rows (placed_of s) (all_placed ss) p in
      let mid : Stand = stretch_after at s in
      one_more d (Some at.pen) s ss mid (fold stretch_after mid ss) (next_prints d at s e two.0) (λ x f. rest_print ss x mid f two.1)

  all_print : (ss : List Stretch) (d : Display) (at : Stand) → stand_of d.screen ≡ at → HavePositions width_of at.width at.rows (all_placed ss)
      → Prints width_of d (stretches_written None ss) (map text_of (all_placed ss)) (fold stretch_after at ss)
  all_print [] d at e p = Prints-nothing e
  all_print (s ∷ ss) d at e p =
      let two = both_positions width_of at.width at.rows (placed_of s) (all_placed ss) p in
      let mid : Stand = stretch_after at s in
      one_more d None s ss mid (fold stretch_after mid ss) (first_prints d at s e two.0) (λ x f. rest_print ss x mid f two.1)

  pub difference_prints : (d : Display) (cells : List PlacedCell) → HavePositions width_of d.screen.width (height d.screen) cells
      → Prints width_of d (difference cells) (map text_of cells) (fold stretch_after (stand_of d.screen) (stretches cells))
  difference_prints d cells p =
      let at : Stand = stand_of d.screen in
      let is = stretches_placed cells in
      let positions : HavePositions width_of at.width at.rows (all_placed (stretches cells)) = subst (HavePositions width_of at.width at.rows) (sym is) p in
      Prints-as (all_print (stretches cells) d at refl positions) (ap (λ (cs : List PlacedCell). map text_of cs) is) refl
