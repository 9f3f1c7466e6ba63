-- What a difference draws.
use Rattle.std.proofs.Common.{◌≡◌, ℕ, ◌+◌, ◌-◌, ◌<◌, ◌≤◌, ◌∙◌, true, List, [], ◌∷◌, ◌++◌, length, Some, None, refl, sym, ap, subst, inl, arith, append-nil, length-append, length-set}
use Rattle.std.specs.Prelude.{⊤, ◌==◌, ◌&&◌, nat_le, min, fold, if◌then◌else◌}
use Rattle.std.specs.Cmp.{unsigned_Decides}
use Rattle.std.proofs.lemmas.Bool.{and_parts}
use Rattle.std.proofs.lemmas.Bool.Decides.{nat_tests}
use Rattle.std.proofs.lemmas.List.Sums.{fold-append}
use Rattle.cell_base.specs.declared.attributes.Position.TheVariants.{Absolute}
use Rattle.cell_base.specs.CellContent.{CellContent}
use Rattle.cell_base.specs.Row.{Row, columns_of}
use Rattle.cell_base.specs.Screen.{Screen, IsScreen, height, write_columns}
use Rattle.screen_change.specs.CellChanges.{cells_written, last_pen}
use Rattle.screen_change.specs.ChangeValue.{AllAttributes}
use Rattle.screen_change.proofs.TextLemmas.{by_test}
use Rattle.cell_edits.specs.CellList.{cell_columns}
use Rattle.cell_base.proofs.LawfulScreens.{write_columns_is}
use Rattle.screen_difference.specs.Difference.{Stretch, cells_of, alone, longer, before_stretches, stretches, position, stretch_written, stretches_written, difference}
use Rattle.screen_difference.specs.DrawnCells.{drawn, all_drawn, HasPosition, HavePositions}
use Rattle.screen_difference.specs.FreshCells.{PlacedCell}
use Rattle.screen_difference.proofs.SideLemmas.{differs}
use Rattle.screen_effects.specs.Display.{Display, IsDisplay}
use Rattle.screen_effects.specs.Effect.{on_screen, with_pen, effect, replay}
use Rattle.screen_effects.specs.Positions.{resolved_column}
use Rattle.screen_effects.proofs.EffectLaws.{effect_is, replay_is}
use Rattle.screen_effects.proofs.StrokeLaws.{whole_columns}
use Rattle.screen_effects.specs.WrittenCells.{AreSound, joined_columns}
use Rattle.screen_effects.proofs.WrittenLemmas.{written_are_shown, write_again}

-- ---- stretches that are drawn

abbrev placed_at : ℕ → ℕ → Screen → Screen
placed_at column row s = record s { column = column; row = row }

abbrev stretch_drawn : Screen → Stretch → Screen
stretch_drawn s t = with_pen (last_pen t.first.attributes t.remaining) (write_columns (joined_columns (cells_of t)) (placed_at t.column t.row s))

record StretchFits (width_of : List ℕ → ℕ) (width rows : ℕ) (t : Stretch) : Type 0 where
  in_columns : t.column + length (joined_columns (cells_of t)) ≤ width
  in_rows : t.row < rows
  sound : AreSound width_of (cells_of t)

abbrev StretchesFit : (List ℕ → ℕ) → ℕ → ℕ → List Stretch → Type 0
StretchesFit width_of width rows [] = ⊤
StretchesFit width_of width rows (t ∷ ts) = StretchFits width_of width rows t × StretchesFit width_of width rows ts

some_columns : (cell : CellContent) (r : Row) → 0 < length (cell_columns cell ++ r)
some_columns cell r = by_test (nat_le 2 cell.width)
    (λ e. subst (λ b. 0 < length (columns_of cell.text b cell.attributes ++ r)) (sym e) (omega arith))
    (λ e. subst (λ b. 0 < length (columns_of cell.text b cell.attributes ++ r)) (sym e) (omega arith))

module _ (width_of : List ℕ → ℕ) where
  position_is : (d : Display) (column row : ℕ) → column < d.screen.width → row < height d.screen → effect width_of d (position column row) ≡ on_screen (placed_at column row) d
  position_is d column row c r =
      let w = d.screen.width in
      let there : min column (w - 1) ≡ column = omega arith in
      let is : resolved_column w d.screen.column (Absolute column) ≡ column = ap (λ t. if t then w else min column (w - 1)) (differs column w (inl c)) ∙ there in
      let row_is : min row (height d.screen - 1) ≡ row = omega arith in
      λ i. record d { screen = record d.screen { column = is i; row = row_is i } }

  stretch_is : (d : Display) (t : Stretch) → IsDisplay d → StretchFits width_of d.screen.width (height d.screen) t
      → replay width_of d (stretch_written (Some d.screen.pen) t) ≡ on_screen (λ s. stretch_drawn s t) d
  stretch_is d t h p =
      let some = some_columns t.first (joined_columns t.remaining) in
      let fits = p.in_columns in
      let there = position_is d t.column t.row (omega arith) p.in_rows in
      let lawful : IsDisplay (on_screen (placed_at t.column t.row) d) = subst IsDisplay there (effect_is width_of d (position t.column t.row) h) in
      ap (λ (e : Display). replay width_of e (cells_written d.screen.pen (cells_of t))) there
      ∙ written_are_shown width_of (on_screen (placed_at t.column t.row) d) (cells_of t) lawful p.sound (omega arith) fits

  first_is : (d : Display) (t : Stretch) → IsDisplay d → StretchFits width_of d.screen.width (height d.screen) t
      → replay width_of d (stretch_written None t) ≡ on_screen (λ s. stretch_drawn s t) d
  first_is d t h p =
      let a = t.first.attributes in
      let some = some_columns t.first (joined_columns t.remaining) in
      let fits = p.in_columns in
      let there = position_is d t.column t.row (omega arith) p.in_rows in
      let lawful : IsDisplay (on_screen (placed_at t.column t.row) d) = subst IsDisplay there (effect_is width_of d (position t.column t.row) h) in
      let next : Display = on_screen (λ s. with_pen a (placed_at t.column t.row s)) d in
      ap (λ (e : Display). replay width_of e (AllAttributes a ∷ cells_written a (cells_of t))) there
      ∙ written_are_shown width_of next (cells_of t) (effect_is width_of (on_screen (placed_at t.column t.row) d) (AllAttributes a) lawful) p.sound (omega arith) fits

  some_are : (ts : List Stretch) (d : Display) (rows : ℕ) → rows ≡ height d.screen → IsDisplay d → StretchesFit width_of d.screen.width rows ts
      → replay width_of d (stretches_written (Some d.screen.pen) ts) ≡ on_screen (λ s. fold stretch_drawn s ts) d
  some_are [] d rows e h p = refl
  some_are (t ∷ ts) d rows e h p =
      let one = stretch_is d t h (subst (λ n. StretchFits width_of d.screen.width n t) e p.0) in
      let next : Display = on_screen (λ s. stretch_drawn s t) d in
      let lawful : IsDisplay next = subst IsDisplay one (replay_is width_of (stretch_written (Some d.screen.pen) t) d h) in
      fold-append (effect width_of) d (stretch_written (Some d.screen.pen) t) (stretches_written (Some next.screen.pen) ts)
      ∙ ap (λ (x : Display). replay width_of x (stretches_written (Some next.screen.pen) ts)) one
      ∙ some_are ts next rows (e ∙ sym (length-set {A = Row} d.screen.rows t.row _)) lawful p.1

  all_are : (ts : List Stretch) (d : Display) → IsDisplay d → StretchesFit width_of d.screen.width (height d.screen) ts
      → replay width_of d (stretches_written None ts) ≡ on_screen (λ s. fold stretch_drawn s ts) d
  all_are [] d h p = refl
  all_are (t ∷ ts) d h p =
      let one = first_is d t h p.0 in
      let next : Display = on_screen (λ s. stretch_drawn s t) d in
      let lawful : IsDisplay next = subst IsDisplay one (replay_is width_of (stretch_written None t) d h) in
      fold-append (effect width_of) d (stretch_written None t) (stretches_written (Some next.screen.pen) ts)
      ∙ ap (λ (x : Display). replay width_of x (stretches_written (Some next.screen.pen) ts)) one
      ∙ some_are ts next (height d.screen) (sym (length-set {A = Row} d.screen.rows t.row _)) lawful p.1

  -- ---- cells that are drawn one by one

  column_count : (c : PlacedCell) (width rows : ℕ) → HasPosition width_of width rows c → length (cell_columns c.cell) ≡ c.cell.width
  column_count c width rows p =
      let some = p.some in
      let most = p.most in
      by_test (nat_le 2 c.cell.width)
      (λ e. ap (λ b. length (columns_of c.cell.text b c.cell.attributes)) e ∙ grind (arith, nat_tests))
      (λ e. ap (λ b. length (columns_of c.cell.text b c.cell.attributes)) e ∙ grind (arith, nat_tests))

  placed_screen : (s : Screen) (column row : ℕ) → IsScreen s → column ≤ s.width → row < height s → IsScreen (placed_at column row s)
  placed_screen s column row h c r = record { wide_enough = h.wide_enough; even = h.even; column_in = c; row_in = r }

  drawn_screen : (s : Screen) (c : PlacedCell) → IsScreen s → HasPosition width_of s.width (height s) c → IsScreen (drawn s c)
  drawn_screen s c h p =
      let count = column_count c s.width (height s) p in
      let fits = p.in_columns in
      let w = write_columns_is (placed_at c.column c.row s) (cell_columns c.cell) (placed_screen s c.column c.row h (omega arith) p.in_rows) (omega arith) in
      record { wide_enough = w.wide_enough; even = w.even; column_in = w.column_in; row_in = w.row_in }

  goes_on : (s : Screen) (c : PlacedCell) (t : Stretch) → IsScreen s → HasPosition width_of s.width (height s) c → (c.row == t.row && c.column + c.cell.width == t.column) ≡ true → stretch_drawn (drawn s c) t ≡ stretch_drawn s (longer c t)
  goes_on s c t h p e =
      let both = and_parts (c.row == t.row) (c.column + c.cell.width == t.column) e in
      let row : t.row ≡ c.row = sym ((unsigned_Decides c.row t.row).0 both.0) in
      let count = column_count c s.width (height s) p in
      let column : t.column ≡ c.column + length (cell_columns c.cell) = sym ((unsigned_Decides (c.column + c.cell.width) t.column).0 both.1) ∙ ap (λ n. c.column + n) (sym count) in
      let start : Screen = placed_at c.column c.row s in
      let fits = p.in_columns in
      let pen = last_pen t.first.attributes t.remaining in
      (λ i. with_pen pen (write_columns (joined_columns (cells_of t)) (placed_at (column i) (row i) (drawn s c))))
      ∙ ap (with_pen pen) (write_again start (cell_columns c.cell) (joined_columns (cells_of t)) (placed_screen s c.column c.row h (omega arith) p.in_rows) (whole_columns c.cell.text (nat_le 2 c.cell.width) c.cell.attributes) (omega arith))

  one_more : (ts : List Stretch) (s : Screen) (c : PlacedCell) → IsScreen s → HasPosition width_of s.width (height s) c → fold stretch_drawn (drawn s c) ts ≡ fold stretch_drawn s (before_stretches c ts)
  one_more [] s c h p = ap (λ (r : Row). with_pen c.cell.attributes (write_columns r (placed_at c.column c.row s))) (sym (append-nil (cell_columns c.cell)))
  one_more (t ∷ ts) s c h p =
      by_test (c.row == t.row && c.column + c.cell.width == t.column)
      (λ e. ap (λ (x : Screen). fold stretch_drawn x ts) (goes_on s c t h p e) ∙ sym (ap (λ b. fold stretch_drawn s (if b then longer c t ∷ ts else alone c ∷ t ∷ ts)) e))
      (λ e.
      ap (λ (r : Row). fold stretch_drawn (with_pen c.cell.attributes (write_columns r (placed_at c.column c.row s))) (t ∷ ts)) (sym (append-nil (cell_columns c.cell)))
      ∙ sym (ap (λ b. fold stretch_drawn s (if b then longer c t ∷ ts else alone c ∷ t ∷ ts)) e))

  by_stretches : (cells : List PlacedCell) (s : Screen) (rows : ℕ) → rows ≡ height s → IsScreen s → HavePositions width_of s.width rows cells → fold stretch_drawn s (stretches cells) ≡ all_drawn cells s
  by_stretches [] s rows e h p = refl
  by_stretches (c ∷ cells) s rows e h p =
      let q : HasPosition width_of s.width (height s) c = subst (λ n. HasPosition width_of s.width n c) e p.0 in
      sym (one_more (stretches cells) s c h q)
      ∙ by_stretches cells (drawn s c) rows (e ∙ sym (length-set {A = Row} s.rows c.row _)) (drawn_screen s c h q) p.1

  before_fits : (c : PlacedCell) (ts : List Stretch) (width rows : ℕ) → HasPosition width_of width rows c → StretchesFit width_of width rows ts → StretchesFit width_of width rows (before_stretches c ts)
  before_fits c [] width rows p q =
      let count = column_count c width rows p in
      let fits = p.in_columns in
      (record { in_columns = omega (arith, length-append (cell_columns c.cell) []); in_rows = p.in_rows; sound = (p.sound, tt) }, tt)
  before_fits c (t ∷ ts) width rows p q =
      let count = column_count c width rows p in
      let fits = p.in_columns in
      by_test (c.row == t.row && c.column + c.cell.width == t.column)
      (λ e.
      let both = and_parts (c.row == t.row) (c.column + c.cell.width == t.column) e in
      let column : c.column + c.cell.width ≡ t.column = (unsigned_Decides (c.column + c.cell.width) t.column).0 both.1 in
      let rest = q.0.in_columns in
      let both_fit : StretchesFit width_of width rows (longer c t ∷ ts) =
      (record { in_columns = omega (arith, length-append (cell_columns c.cell) (joined_columns (cells_of t))); in_rows = p.in_rows; sound = (p.sound, q.0.sound) }, q.1) in
      subst (StretchesFit width_of width rows) (sym (ap (λ b. if b then longer c t ∷ ts else alone c ∷ t ∷ ts) e)) both_fit)
      (λ e.
      let both_fit : StretchesFit width_of width rows (alone c ∷ t ∷ ts) =
      (record { in_columns = omega (arith, length-append (cell_columns c.cell) []); in_rows = p.in_rows; sound = (p.sound, tt) }, q) in
      subst (StretchesFit width_of width rows) (sym (ap (λ b. if b then longer c t ∷ ts else alone c ∷ t ∷ ts) e)) both_fit)

  stretches_fit : (cells : List PlacedCell) (width rows : ℕ) → HavePositions width_of width rows cells → StretchesFit width_of width rows (stretches cells)
  stretches_fit [] width rows p = tt
  stretches_fit (c ∷ cells) width rows p = before_fits c (stretches cells) width rows p.0 (stretches_fit cells width rows p.1)

  drawn_is : (d : Display) (cells : List PlacedCell) → IsDisplay d → HavePositions width_of d.screen.width (height d.screen) cells → replay width_of d (difference cells) ≡ on_screen (all_drawn cells) d
  drawn_is d cells h p =
      all_are (stretches cells) d h (stretches_fit cells d.screen.width (height d.screen) p)
      ∙ ap (λ (s : Screen). record d { screen = s }) (by_stretches cells d.screen (height d.screen) refl h.lawful p)

pub difference_is_drawn : (width_of : List ℕ → ℕ) (d : Display) (cells : List PlacedCell) → IsDisplay d → HavePositions width_of d.screen.width (height d.screen) cells → replay width_of d (difference cells) ≡ on_screen (all_drawn cells) d
difference_is_drawn width_of = drawn_is width_of
