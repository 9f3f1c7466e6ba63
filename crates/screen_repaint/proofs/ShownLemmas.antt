-- The display after the changes that paint rows are replayed.
use Rattle.std.proofs.Common.{◌≡◌, ℕ, suc, ◌+◌, ◌-◌, ◌<◌, Bool, true, false, List, [], ◌∷◌, ◌++◌, length, replicate, Option, Some, None, refl, sym, ap, ◌∙◌, subst, arith, append-nil, append_assoc, length-append}
use Rattle.std.specs.Prelude.{◌==◌, min, pos, slice_index_or, slice_set, if◌then◌else◌}
use Rattle.std.proofs.lemmas.Bool.{false≢true}
use Rattle.std.proofs.lemmas.Bool.Decides.{nat_tests}
use Rattle.std.proofs.lemmas.List.Sums.{fold-append}
use Rattle.cell_base.specs.declared.attributes.Position.TheVariants.{Absolute, Relative}
use Rattle.cell_base.specs.declared.color.ColorAttribute.{ColorAttribute}
use Rattle.cell_base.specs.declared.color.ColorAttribute.TheVariants.{TrueColorWithPaletteFallback, TrueColorWithDefaultFallback, PaletteIndex, Default}
use Rattle.cell_base.specs.Attributes.{Attributes, plain, blank_of}
use Rattle.cell_base.specs.CellContent.{CellContent}
use Rattle.cell_base.specs.Row.{Row, space, blank, plain_row, set_columns}
use Rattle.screen_change.specs.CellChanges.{cells_written, clear_due, last_pen}
use Rattle.screen_change.specs.CellRuns.{background_at_end, less_blanks}
use Rattle.screen_change.specs.ChangeValue.{ChangeValue, ClearToEndOfLine, ClearToEndOfScreen, CursorPosition}
use Rattle.screen_change.proofs.TextLemmas.{by_test}
use Rattle.cell_base.specs.WholeRow.{IsWhole}
use Rattle.screen_effects.specs.Display.{Display, IsDisplay}
use Rattle.screen_effects.specs.Effect.{blank_row, cleared_after, effect, replay}
use Rattle.screen_effects.specs.Positions.{resolved_column}
use Rattle.screen_effects.proofs.EffectLaws.{effect_is, replay_is}
use Rattle.screen_effects.specs.WrittenCells.{AreSound, joined_columns}
use Rattle.screen_effects.proofs.WrittenLemmas.{written_are_shown}
use Rattle.screen_repaint.specs.Repaint.{are_some, pen_after, pen_left, row_cells, go_with_blanks, end_cleared, row_painted, in_next_row, rows_painted}
use Rattle.screen_repaint.proofs.CellLemmas.{AreGood, EndsInBlanks, element_at, element_set, prefix_of, length-of, row_again, whole_cells, sound_cells, prefix_kept, blank_rows_are, set_at_start, cleared_is}
use Rattle.screen_repaint.proofs.PaintLemmas.{cells_leave}

module _ (width_of : List ℕ → ℕ) (narrow : width_of space ≡ 1) (d : Display) where
  abbrev width : ℕ
  width = d.screen.width

  -- the display with these rows, this position of the cursor and this pen
  abbrev pub at_position : List Row → ℕ → ℕ → Attributes → Display
  at_position rows column row pen = record d { screen = record d.screen { rows = rows; column = column; row = row; pen = pen } }

  -- rows that are painted, and as many plain ones, where the cursor is
  abbrev pub starts : List Row → ℕ → Attributes → Display
  starts done n pen = at_position (done ++ replicate n (plain_row d.screen.width)) 0 (length done) pen

  pub record Painted (rows : List Row) (pen : Attributes) (after : Display) : Type 0 where
    pub column : ℕ
    pub row : ℕ
    pub shown : after ≡ at_position rows column row pen

  -- ---- one row

  cells_shown : (done : List Row) (n m : ℕ) (pen : Attributes) (kept : List CellContent) → IsDisplay (starts done (suc n) pen) → AreSound width_of kept → length (joined_columns kept) + m ≡ width
      → replay width_of (starts done (suc n) pen) (cells_written pen kept)
      ≡ at_position (done ++ (joined_columns kept ++ replicate m (blank plain)) ∷ replicate n (plain_row width)) (length (joined_columns kept)) (length done) (pen_left pen (cells_written pen kept))
  cells_shown done n m pen [] h p e =
      let same : width ≡ m = omega (arith, e) in
      ap (λ k. at_position (done ++ replicate k (blank plain) ∷ replicate n (plain_row width)) 0 (length done) pen) same
  cells_shown done n m pen (cell ∷ cells) h p e =
      let kept : List CellContent = cell ∷ cells in
      let columns : Row = joined_columns kept in
      let rest : List Row = replicate n (plain_row width) in
      let after : Attributes = last_pen pen kept in
      let at : 0 + length columns ≡ length columns = omega arith in
      written_are_shown width_of (starts done (suc n) pen) kept h p (omega arith) (omega (arith, e))
      ∙ ap (λ (r : Row). at_position (slice_set (done ++ plain_row width ∷ rest) (length done) (set_columns r 0 columns)) (0 + length columns) (length done) after) (element_at done (plain_row width) [] rest)
      ∙ ap (λ (rows : List Row). at_position rows (0 + length columns) (length done) after) (element_set done (plain_row width) (set_columns (plain_row width) 0 columns) rest)
      ∙ ap (λ (r : Row). at_position (done ++ r ∷ rest) (0 + length columns) (length done) after) (set_at_start columns m width plain e)
      ∙ ap (λ c. at_position (done ++ (columns ++ replicate m (blank plain)) ∷ rest) c (length done) after) at
      ∙ ap (λ (a : Attributes). at_position (done ++ (columns ++ replicate m (blank plain)) ∷ rest) (length columns) (length done) a) (sym (cells_leave kept pen))

  abbrev row_left : Row → ℕ → Row
  row_left columns m = columns ++ replicate m (blank plain)

  after_cleared : (done rest : List Row) (columns : Row) (m : ℕ) (color : ColorAttribute) → IsWhole columns
      → cleared_after (length columns) color (slice_index_or (done ++ row_left columns m ∷ rest) (length done) []) ≡ columns ++ blank_row m color
  after_cleared done rest columns m color w = ap (cleared_after (length columns) color) (element_at done (row_left columns m) [] rest) ∙ cleared_is columns m plain color w

  line_cleared : (done rest : List Row) (columns : Row) (m : ℕ) (color : ColorAttribute) (pen : Attributes) → IsWhole columns
      → effect width_of (at_position (done ++ row_left columns m ∷ rest) (length columns) (length done) pen) (ClearToEndOfLine color) ≡ at_position (done ++ (columns ++ blank_row m color) ∷ rest) (length columns) (length done) (blank_of color)
  line_cleared done rest columns m color pen w =
      ap (λ (r : Row). at_position (slice_set (done ++ row_left columns m ∷ rest) (length done) r) (length columns) (length done) (blank_of color)) (after_cleared done rest columns m color w)
      ∙ ap (λ (rows : List Row). at_position rows (length columns) (length done) (blank_of color)) (element_set done (row_left columns m) (columns ++ blank_row m color) rest)

  line_shown : (done rest : List Row) (columns : Row) (m : ℕ) (color : ColorAttribute) (pen : Attributes) → IsWhole columns
      → replay width_of (at_position (done ++ row_left columns m ∷ rest) (length columns) (length done) pen) (clear_due color) ≡ at_position (done ++ (columns ++ blank_row m color) ∷ rest) (length columns) (length done) (pen_left pen (clear_due color))
  line_shown done rest columns m Default pen w = refl
  line_shown done rest columns m (TrueColorWithPaletteFallback c i) pen w = line_cleared done rest columns m (TrueColorWithPaletteFallback c i) pen w
  line_shown done rest columns m (TrueColorWithDefaultFallback c) pen w = line_cleared done rest columns m (TrueColorWithDefaultFallback c) pen w
  line_shown done rest columns m (PaletteIndex i) pen w = line_cleared done rest columns m (PaletteIndex i) pen w

  below_cleared : (done : List Row) (n : ℕ) (columns : Row) (m : ℕ) (color : ColorAttribute) (pen : Attributes) → IsWhole columns
      → effect width_of (at_position (done ++ row_left columns m ∷ replicate n (plain_row width)) (length columns) (length done) pen) (ClearToEndOfScreen color)
      ≡ at_position (done ++ (columns ++ blank_row m color) ∷ replicate n (blank_row width color)) (length columns) (length done) (blank_of color)
  below_cleared done n columns m color pen w =
      let rest : List Row = replicate n (plain_row width) in
      let rows : List Row = done ++ row_left columns m ∷ rest in
      let all = length-append done (row_left columns m ∷ rest) in
      let some : length rest ≡ n = length-of n (plain_row width) in
      let count : length rows - (length done + 1) ≡ n = omega (arith, all, some) in
      λ i. at_position (prefix_of done (row_left columns m ∷ rest) i ++ after_cleared done rest columns m color w i ∷ replicate (count i) (blank_row width color)) (length columns) (length done) (blank_of color)

  -- the rows below: plain still, unless they went with the row's blanks
  abbrev under : Bool → List Row → List Row
  under too below = if too then below else replicate (length below) (plain_row width)

  blanks_shown : (color : ColorAttribute) (too : Bool) (done below : List Row) (columns : Row) (m : ℕ) (pen : Attributes) → IsWhole columns → (too ≡ true → below ≡ replicate (length below) (blank_row width color))
      → replay width_of (at_position (done ++ row_left columns m ∷ replicate (length below) (plain_row width)) (length columns) (length done) pen) (end_cleared (Some color) too)
      ≡ at_position (done ++ (columns ++ blank_row m color) ∷ under too below) (length columns) (length done) (pen_left pen (end_cleared (Some color) too))
  blanks_shown color true done below columns m pen w f =
      below_cleared done (length below) columns m color pen w
      ∙ ap (λ (rows : List Row). at_position (done ++ (columns ++ blank_row m color) ∷ rows) (length columns) (length done) (blank_of color)) (sym (f refl))
  blanks_shown color false done below columns m pen w f = line_shown done (replicate (length below) (plain_row width)) columns m color pen w

  goes : (color : ColorAttribute) (below : List Row) → AreGood width_of narrow width below → go_with_blanks (Some color) below ≡ true → below ≡ replicate (length below) (blank_row width color)
  goes Default below g e = absurd (false≢true e)
  goes (TrueColorWithPaletteFallback c i) [] g e = absurd (false≢true e)
  goes (TrueColorWithDefaultFallback c) [] g e = absurd (false≢true e)
  goes (PaletteIndex i) [] g e = absurd (false≢true e)
  goes (TrueColorWithPaletteFallback c i) (row ∷ below) g e = blank_rows_are width_of narrow (TrueColorWithPaletteFallback c i) width (row ∷ below) g e
  goes (TrueColorWithDefaultFallback c) (row ∷ below) g e = blank_rows_are width_of narrow (TrueColorWithDefaultFallback c) width (row ∷ below) g e
  goes (PaletteIndex i) (row ∷ below) g e = blank_rows_are width_of narrow (PaletteIndex i) width (row ∷ below) g e

  record Own (done below : List Row) (row : Row) (too : Bool) (pen : Attributes) (after : Display) : Type 0 where
    column : ℕ
    shown : after ≡ at_position (done ++ row ∷ under too below) column (length done) pen

  own_shown : (background : Option ColorAttribute) (done below : List Row) (row : Row) (pen : Attributes) → IsDisplay (starts done (length (row ∷ below)) pen) → AreGood width_of narrow width (row ∷ below)
      → Own done below row (go_with_blanks background below) (pen_left pen (cells_written pen (less_blanks background (row_cells row)) ++ end_cleared background (go_with_blanks background below)))
      (replay width_of (starts done (length (row ∷ below)) pen) (cells_written pen (less_blanks background (row_cells row)) ++ end_cleared background (go_with_blanks background below)))
  own_shown None done below row pen h g =
      let cells : List CellContent = row_cells row in
      let rest : List Row = replicate (length below) (plain_row width) in
      let again : joined_columns cells ≡ row = row_again 0 row g.1 in
      let count : length (joined_columns cells) + 0 ≡ width = let n = ap length again in let wide = g.0 in omega (arith, n, wide) in record {
        column = length (joined_columns cells);
        shown =
            ap (λ (cs : List ChangeValue). replay width_of (starts done (length (row ∷ below)) pen) cs) (append-nil (cells_written pen cells))
            ∙ cells_shown done (length below) 0 pen cells h (sound_cells width_of narrow 0 row g.2) count
            ∙ ap (λ (r : Row). at_position (done ++ r ∷ rest) (length (joined_columns cells)) (length done) (pen_left pen (cells_written pen cells))) (append-nil (joined_columns cells) ∙ again)
            ∙ ap (λ (cs : List ChangeValue). at_position (done ++ row ∷ rest) (length (joined_columns cells)) (length done) (pen_left pen cs)) (sym (append-nil (cells_written pen cells)));
      }
  own_shown (Some color) done below row pen h g =
      let cells : List CellContent = row_cells row in
      let kept : List CellContent = less_blanks (Some color) cells in
      let too : Bool = go_with_blanks (Some color) below in
      let prefix : EndsInBlanks width_of narrow color cells kept = prefix_kept width_of narrow color cells (sound_cells width_of narrow 0 row g.2) in
      let columns : Row = joined_columns kept in
      let m : ℕ = prefix.blanks in
      let is : columns ++ blank_row m color ≡ row = sym prefix.same ∙ row_again 0 row g.1 in
      let both = length-append columns (blank_row m color) in
      let some : length (blank_row m color) ≡ m = length-of m (blank (blank_of color)) in
      let n = ap length is in
      let wide = g.0 in
      let count : length columns + m ≡ width = omega (arith, both, some, n, wide) in
      let own : List ChangeValue = cells_written pen kept in
      let last : List ChangeValue = end_cleared (Some color) too in record {
        column = length columns;
        shown =
            fold-append (effect width_of) (starts done (length (row ∷ below)) pen) own last
            ∙ ap (λ (e : Display). replay width_of e last) (cells_shown done (length below) m pen kept h prefix.sound count)
            ∙ blanks_shown color too done below columns m (pen_left pen own) (whole_cells kept) (goes color below g.3)
            ∙ ap (λ (r : Row). at_position (done ++ r ∷ under too below) (length columns) (length done) (pen_left (pen_left pen own) last)) is
            ∙ ap (λ (a : Attributes). at_position (done ++ row ∷ under too below) (length columns) (length done) a) (sym (fold-append pen_after pen own last));
      }

  -- ---- all rows

  abbrev move : ChangeValue
  move = CursorPosition (Absolute 0) (Relative (pos 1))

  first_column : (column : ℕ) → resolved_column width column (Absolute 0) ≡ 0
  first_column column =
      by_test (0 == width)
      (λ e. ap (λ b. if b then width else min 0 (width - 1)) e ∙ grind (arith, nat_tests))
      (λ e. ap (λ b. if b then width else min 0 (width - 1)) e ∙ omega arith)

  moved : (done : List Row) (row : Row) (n column : ℕ) (pen : Attributes) → 0 < n → effect width_of (at_position (done ++ row ∷ replicate n (plain_row width)) column (length done) pen) move ≡ starts (done ++ row ∷ []) n pen
  moved done row n column pen some =
      let rest : List Row = replicate n (plain_row width) in
      let all = length-append done (row ∷ rest) in
      let left : length rest ≡ n = length-of n (plain_row width) in
      let one = length-append done (row ∷ []) in
      let next : min (length done + 1) (length (done ++ row ∷ rest) - 1) ≡ length (done ++ row ∷ []) = omega (arith, all, left, one, some) in
      λ i. at_position (sym (append_assoc done (row ∷ []) rest) i) (first_column column i) (next i) pen

  some_below : (pen : Attributes) (below : List Row) → are_some (rows_painted pen below) ≡ true → 0 < length below
  some_below pen [] e = absurd (false≢true e)
  some_below pen (row ∷ below) e = omega arith

  next_shown : (changes : List ChangeValue) (done below : List Row) (row : Row) (column : ℕ) (pen : Attributes) → (are_some changes ≡ true → 0 < length below)
      → Painted ((done ++ row ∷ []) ++ below) (pen_left pen changes) (replay width_of (starts (done ++ row ∷ []) (length below) pen) changes)
      → Painted (done ++ row ∷ below) (pen_left pen (in_next_row changes)) (replay width_of (at_position (done ++ row ∷ replicate (length below) (plain_row width)) column (length done) pen) (in_next_row changes))
  next_shown [] done below row column pen some p =
      let rest : List Row = replicate (length below) (plain_row width) in
      let same : done ++ row ∷ rest ≡ done ++ row ∷ below = sym (append_assoc done (row ∷ []) rest) ∙ ap (λ (e : Display). e.screen.rows) p.shown ∙ append_assoc done (row ∷ []) below in
      record { column = column; row = length done; shown = ap (λ (rows : List Row). at_position rows column (length done) pen) same }
  next_shown (change ∷ changes) done below row column pen some p = record {
    column = p.column;
    row = p.row;
    shown =
        ap (λ (e : Display). replay width_of e (change ∷ changes)) (moved done row (length below) column pen (some refl))
        ∙ p.shown
        ∙ ap (λ (rows : List Row). at_position rows p.column p.row (pen_left pen (change ∷ changes))) (append_assoc done (row ∷ []) below);
  }

  -- changes after a row's own
  after_own : (start between : Display) (own remaining : List ChangeValue) (rows : List Row) (pen : Attributes) → replay width_of start own ≡ between
      → Painted rows (pen_left (pen_left pen own) remaining) (replay width_of between remaining) → Painted rows (pen_left pen (own ++ remaining)) (replay width_of start (own ++ remaining))
  after_own start between own remaining rows pen e p = record {
    column = p.column;
    row = p.row;
    shown =
        fold-append (effect width_of) start own remaining
        ∙ ap (λ (d : Display). replay width_of d remaining) e
        ∙ p.shown
        ∙ ap (λ (a : Attributes). at_position rows p.column p.row a) (sym (fold-append pen_after pen own remaining));
  }

  pub rows_shown : (left done : List Row) (pen : Attributes) → (0 < length left → IsDisplay (starts done (length left) pen)) → AreGood width_of narrow width left
      → Painted (done ++ left) (pen_left pen (rows_painted pen left)) (replay width_of (starts done (length left) pen) (rows_painted pen left))
  rows_shown [] done pen h g = record { column = 0; row = length done; shown = refl }
  rows_shown (row ∷ below) done pen h g =
      let too : Bool = go_with_blanks (background_at_end (row_cells row)) below in
      let own : List ChangeValue = row_painted pen (row_cells row) too in
      let start : Display = starts done (length (row ∷ below)) pen in
      let lawful : IsDisplay start = h (omega arith) in
      let next : Attributes = pen_left pen own in
      let remaining : List ChangeValue = rows_painted next below in
      let one : Own done below row too next (replay width_of start own) = own_shown (background_at_end (row_cells row)) done below row pen lawful g in
      by_test too
      (λ t. subst (λ b. Painted (done ++ row ∷ below) (pen_left pen (if b then own else own ++ in_next_row remaining)) (replay width_of start (if b then own else own ++ in_next_row remaining))) (sym t)
      (record { column = one.column; row = length done; shown = one.shown ∙ ap (λ b. at_position (done ++ row ∷ under b below) one.column (length done) next) t }))
      (λ t.
      let alone : replay width_of start own ≡ at_position (done ++ row ∷ replicate (length below) (plain_row width)) one.column (length done) next = one.shown ∙ ap (λ b. at_position (done ++ row ∷ under b below) one.column (length done) next) t in
      let rest = rows_shown below (done ++ row ∷ []) next
      (λ n. subst IsDisplay (ap (λ (e : Display). effect width_of e move) alone ∙ moved done row (length below) one.column next n) (effect_is width_of (replay width_of start own) move (replay_is width_of own start lawful))) g.3 in
      subst (λ b. Painted (done ++ row ∷ below) (pen_left pen (if b then own else own ++ in_next_row remaining)) (replay width_of start (if b then own else own ++ in_next_row remaining))) (sym t)
      (after_own start (at_position (done ++ row ∷ replicate (length below) (plain_row width)) one.column (length done) next) own (in_next_row remaining) (done ++ row ∷ below) pen alone
      (next_shown remaining done below row one.column next (some_below next below) rest)))
