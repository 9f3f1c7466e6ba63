-- The screen after each function follows the screen before it, and what holds of each column still holds.
use Rattle.std.proofs.Common.{◌≡◌, ℕ, ◌+◌, ◌-◌, ◌<◌, ◌≤◌, List, [], sym, subst, ◌∙◌, arith, length-set}
use Rattle.std.specs.Prelude.{All, ◌==◌, min, if◌then◌else◌}
use Rattle.std.proofs.lemmas.List.Elements.{All-set}
use Rattle.std.proofs.lemmas.List.{length-replicate}
use Rattle.cell_base.specs.Attributes.{blank_of}
use Rattle.cell_base.specs.Row.{Column, Row, blank, space}
use Rattle.cell_base.specs.Screen.{Screen, height}
use Rattle.cell_base.proofs.RowLemmas.{whole-blanks}
use Rattle.screen_change.proofs.TextLemmas.{by_test}
use Rattle.screen_effects.specs.Effect.{cursor_row}
use Rattle.screen_effects.specs.Regions.{moved_up, moved_down}
use Rattle.screen_effects.proofs.EffectLaws.{down_length, region_length, up_length}
use Rattle.screen_effects.proofs.SoundLemmas.{sound_space}
use Rattle.xterm_table.specs.Follows.{Follows}
use Rattle.xterm_table.specs.Displays.{display_end_erased, display_start_erased}
use Rattle.xterm_table.specs.RowEdits.{active_column, blanks, characters_deleted, characters_erased, characters_inserted, columns_erased, columns_within, line_end_erased, line_start_erased, with_row}
use Rattle.xterm_table.specs.RowMoves.{in_column, line_fed, lines_deleted, lines_inserted, next_line, next_row, reverse_line_fed, row_before, rows_down, rows_up, scrolled_down, scrolled_up}
use Rattle.xterm_table.proofs.BlockLemmas.{down_all, up_all}
use Rattle.xterm_table.proofs.ColumnLemmas.{IsKept, IsSoundColumn, each-same, each_sound, sound_each}
use Rattle.xterm_table.proofs.RowLemmas.{Fits, deleted_fits, erased_fits, inserted_fits}

-- A screen has the size of another and is lawful, its rows are whole, and each column has a property, as has a blank of
-- the pen's background.
pub record FollowsWith (P : Column → Type 0) (before after : Screen) : Type 0 where
  pub wide : after.width ≡ before.width
  pub tall : height after ≡ height before
  pub some : 0 < after.width
  pub column_in : after.column ≤ after.width
  pub row_in : after.row < height after
  pub rows : All (Fits P after.width) after.rows
  pub blank : P (blank (blank_of after.pen.background))

module _ (P : Column → Type 0) (kept : IsKept P) (before : Screen) where
  -- ---- any edit of the cursor's row

  cursor_fits : (s : Screen) → FollowsWith P before s → Fits P s.width (cursor_row s)
  cursor_fits s f = f.rows s.row [] f.row_in

  row_follows : (s : Screen) (row : Row) → FollowsWith P before s → Fits P s.width row → FollowsWith P before (with_row row s)
  row_follows s row f p =
      let some = f.some in
      let tall = f.tall in
      let inside = f.row_in in
      let same = length-set {A = Row} s.rows s.row row in record {
        wide = f.wide;
        tall = same ∙ tall;
        some = some;
        column_in = omega (arith, some);
        row_in = omega (arith, inside, same);
        rows = All-set (Fits P s.width) s.rows s.row row p f.rows;
        blank = f.blank;
      }

  pub erased_follows : (s : Screen) (start finish : ℕ) → start ≤ finish → finish ≤ s.width → FollowsWith P before s → FollowsWith P before (columns_erased start finish s)
  erased_follows s start finish order within f =
      row_follows s _ f (erased_fits P kept s.width (cursor_row s) (blank_of s.pen.background) (cursor_fits s f) f.blank start (finish - start) (omega arith))

  pub characters_erased_follows : (s : Screen) (count : ℕ) → FollowsWith P before s → FollowsWith P before (characters_erased count s)
  characters_erased_follows s count f = let some = f.some in erased_follows s (active_column s) (min (active_column s + count) s.width) (omega (arith, some)) (omega arith) f

  pub line_end_erased_follows : (s : Screen) → FollowsWith P before s → FollowsWith P before (line_end_erased s)
  line_end_erased_follows s f = let some = f.some in erased_follows s (active_column s) s.width (omega (arith, some)) (omega arith) f

  pub line_start_erased_follows : (s : Screen) → FollowsWith P before s → FollowsWith P before (line_start_erased s)
  line_start_erased_follows s f = let some = f.some in erased_follows s 0 (active_column s + 1) (omega arith) (omega (arith, some)) f

  pub characters_inserted_follows : (s : Screen) (count : ℕ) → FollowsWith P before s → FollowsWith P before (characters_inserted count s)
  characters_inserted_follows s count f =
      let some = f.some in
      row_follows s _ f (inserted_fits P kept s.width (cursor_row s) (blank_of s.pen.background) (cursor_fits s f) f.blank (active_column s) (columns_within count s) (omega (arith, some)))

  pub characters_deleted_follows : (s : Screen) (count : ℕ) → FollowsWith P before s → FollowsWith P before (characters_deleted count s)
  characters_deleted_follows s count f =
      let some = f.some in
      row_follows s _ f (deleted_fits P kept s.width (cursor_row s) (blank_of s.pen.background) (cursor_fits s f) f.blank (active_column s) (columns_within count s) (omega (arith, some)))

  -- ---- any move of a block of rows

  blanks_fit : (s : Screen) → FollowsWith P before s → Fits P s.width (blanks s.width s)
  blanks_fit s f = record {
    wide = length-replicate s.width (blank (blank_of s.pen.background));
    whole = whole-blanks s.width (blank_of s.pen.background);
    each = each-same P kept s.width (blank (blank_of s.pen.background)) f.blank;
  }

  pub up_follows : (s : Screen) (first size count : ℕ) → FollowsWith P before s → FollowsWith P before (rows_up first size count s)
  up_follows s first size count f =
      let inside = f.row_in in
      let same = region_length (moved_up (blanks s.width s) count) first size s.rows (up_length (blanks s.width s) count) in record {
        wide = f.wide;
        tall = same ∙ f.tall;
        some = f.some;
        column_in = f.column_in;
        row_in = omega (arith, inside, same);
        rows = up_all (Fits P s.width) (blanks s.width s) count first size s.rows (blanks_fit s f) f.rows;
        blank = f.blank;
      }

  pub down_follows : (s : Screen) (first size count : ℕ) → FollowsWith P before s → FollowsWith P before (rows_down first size count s)
  down_follows s first size count f =
      let inside = f.row_in in
      let same = region_length (moved_down (blanks s.width s) count) first size s.rows (down_length (blanks s.width s) count) in record {
        wide = f.wide;
        tall = same ∙ f.tall;
        some = f.some;
        column_in = f.column_in;
        row_in = omega (arith, inside, same);
        rows = down_all (Fits P s.width) (blanks s.width s) count first size s.rows (blanks_fit s f) f.rows;
        blank = f.blank;
      }

  -- ---- the cursor's place

  placed_follows : (s : Screen) (column row : ℕ) → column ≤ s.width → row < height s → FollowsWith P before s → FollowsWith P before (record s { column = column; row = row })
  placed_follows s column row c r f = record { wide = f.wide; tall = f.tall; some = f.some; column_in = c; row_in = r; rows = f.rows; blank = f.blank }

  pub column_follows : (s : Screen) (column : ℕ) → column ≤ s.width → FollowsWith P before s → FollowsWith P before (in_column column s)
  column_follows s column c f = placed_follows s column s.row c f.row_in f

  pub lines_inserted_follows : (s : Screen) (bottom count : ℕ) → FollowsWith P before s → FollowsWith P before (lines_inserted bottom count s)
  lines_inserted_follows s bottom count f = column_follows (scrolled_down s.row bottom count s) 0 (omega arith) (down_follows s s.row (bottom + 1 - s.row) count f)

  pub lines_deleted_follows : (s : Screen) (bottom count : ℕ) → FollowsWith P before s → FollowsWith P before (lines_deleted bottom count s)
  lines_deleted_follows s bottom count f = column_follows (scrolled_up s.row bottom count s) 0 (omega arith) (up_follows s s.row (bottom + 1 - s.row) count f)

  next_row_follows : (s : Screen) (top bottom : ℕ) → FollowsWith P before s → FollowsWith P before (next_row top bottom s)
  next_row_follows s top bottom f =
      let inside = f.row_in in
      let next : Screen = record s { row = min (s.row + 1) (height s - 1) } in
      by_test (s.row == bottom)
      (λ e. subst (λ b. FollowsWith P before (if b then scrolled_up top bottom 1 s else next)) (sym e) (up_follows s top (bottom + 1 - top) 1 f))
      (λ e. subst (λ b. FollowsWith P before (if b then scrolled_up top bottom 1 s else next)) (sym e) (placed_follows s s.column (min (s.row + 1) (height s - 1)) f.column_in (omega (arith, inside)) f))

  row_before_follows : (s : Screen) (top bottom : ℕ) → FollowsWith P before s → FollowsWith P before (row_before top bottom s)
  row_before_follows s top bottom f =
      let inside = f.row_in in
      let next : Screen = record s { row = s.row - 1 } in
      by_test (s.row == top)
      (λ e. subst (λ b. FollowsWith P before (if b then scrolled_down top bottom 1 s else next)) (sym e) (down_follows s top (bottom + 1 - top) 1 f))
      (λ e. subst (λ b. FollowsWith P before (if b then scrolled_down top bottom 1 s else next)) (sym e) (placed_follows s s.column (s.row - 1) f.column_in (omega (arith, inside)) f))

  pub line_fed_follows : (s : Screen) (top bottom : ℕ) → FollowsWith P before s → FollowsWith P before (line_fed top bottom s)
  line_fed_follows s top bottom f = let some = f.some in next_row_follows (in_column (active_column s) s) top bottom (column_follows s (active_column s) (omega (arith, some)) f)

  pub reverse_line_fed_follows : (s : Screen) (top bottom : ℕ) → FollowsWith P before s → FollowsWith P before (reverse_line_fed top bottom s)
  reverse_line_fed_follows s top bottom f = let some = f.some in row_before_follows (in_column (active_column s) s) top bottom (column_follows s (active_column s) (omega (arith, some)) f)

  pub next_line_follows : (s : Screen) (top bottom : ℕ) → FollowsWith P before s → FollowsWith P before (next_line top bottom s)
  next_line_follows s top bottom f = next_row_follows (in_column 0 s) top bottom (column_follows s 0 (omega arith) f)

  -- ---- ED

  pub display_end_erased_follows : (s : Screen) → FollowsWith P before s → FollowsWith P before (display_end_erased s)
  display_end_erased_follows s f = let size = height s - (s.row + 1) in up_follows (line_end_erased s) (s.row + 1) size size (line_end_erased_follows s f)

  pub display_start_erased_follows : (s : Screen) → FollowsWith P before s → FollowsWith P before (display_start_erased s)
  display_start_erased_follows s f = up_follows (line_start_erased s) 0 s.row s.row (line_start_erased_follows s f)

-- ---- sound texts

pub follows_with : (width_of : List ℕ → ℕ) (before after : Screen) → width_of space ≡ 1 → Follows width_of before after → FollowsWith (IsSoundColumn width_of) before after
follows_with width_of before after narrow f = record {
  wide = f.wide;
  tall = f.tall;
  some = f.lawful.wide_enough;
  column_in = f.lawful.column_in;
  row_in = f.lawful.row_in;
  rows = λ k d h. record { wide = f.lawful.even k d h; whole = f.whole k d h; each = each_sound width_of _ (f.sound k d h) };
  blank = sound_space width_of narrow;
}

pub with_follows : (width_of : List ℕ → ℕ) (before after : Screen) → FollowsWith (IsSoundColumn width_of) before after → Follows width_of before after
with_follows width_of before after f = record {
  wide = f.wide;
  tall = f.tall;
  lawful = record { wide_enough = f.some; even = λ k d h. (f.rows k d h).wide; column_in = f.column_in; row_in = f.row_in };
  whole = λ k d h. (f.rows k d h).whole;
  sound = λ k d h. sound_each width_of _ (f.rows k d h).each;
}
