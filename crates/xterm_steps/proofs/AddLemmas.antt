-- What is logged for an edit of the cursor's row.
use Rattle.std.proofs.Common.{◌≡◌, ℕ, ◌<◌, ◌≤◌, Bool, true, false, List, [], ◌∷◌, ◌++◌, length, get_or, refl, sym, ap, ◌∙◌, arith, append-nil}
use Rattle.std.specs.Prelude.{◌==◌, if◌then◌else◌}
use Rattle.std.proofs.lemmas.Bool.Decides.{nat_tests}
use Rattle.std.proofs.lemmas.List.{get_or-set_same}
use Rattle.cell_base.specs.declared.attributes.Position.TheVariants.{Absolute}
use Rattle.cell_base.specs.Attributes.{Attributes}
use Rattle.cell_base.specs.Row.{Row}
use Rattle.cell_base.specs.Screen.{Screen, height}
use Rattle.screen_change.specs.ChangeValue.{ChangeValue, AllAttributes, CursorPosition}
use Rattle.screen_difference.specs.Difference.{difference}
use Rattle.screen_difference.specs.FreshCells.{lines_fresh}
use Rattle.screen_effects.specs.Display.{Display, IsDisplay}
use Rattle.screen_effects.specs.Effect.{cursor_row}
use Rattle.screen_effects.specs.WrittenCells.{IsSoundDisplay}
use Rattle.terminal_table.specs.Led.{last_cell, led, sight_changes, written_again}
use Rattle.xterm_table.specs.Follows.{Follows}
use Rattle.xterm_table.specs.RowEdits.{active_column, with_row}
use Rattle.xterm_table.specs.RowMoves.{in_column}
use Rattle.xterm_steps.proofs.BlockLemmas.{row_led}

-- the cursor's row has the screen's width
pub row_width : (d : Display) → IsDisplay d → length (cursor_row d.screen) ≡ d.screen.width
row_width d h = h.lawful.even d.screen.row [] h.lawful.row_in

-- a lawful screen follows itself
pub follows_itself : (width_of : List ℕ → ℕ) (d : Display) → IsDisplay d → IsSoundDisplay width_of d → Follows width_of d.screen d.screen
follows_itself width_of d h p = record { wide = refl; tall = refl; lawful = h.lawful; whole = h.whole; sound = p }

-- with the cursor in a column
pub column_follows : (width_of : List ℕ → ℕ) (before s : Screen) (column : ℕ) → column ≤ s.width → Follows width_of before s → Follows width_of before (in_column column s)
column_follows width_of before s column h f = record {
  wide = f.wide;
  tall = f.tall;
  lawful = record { wide_enough = f.lawful.wide_enough; even = f.lawful.even; column_in = h; row_in = f.lawful.row_in };
  whole = f.whole;
  sound = f.sound;
}

pub same_sight : (b : Bool) → sight_changes b b ≡ []
same_sight true = refl
same_sight false = refl

-- the difference of the row, the cursor's place, and the pen
pub with_row_led : (width_of : List ℕ → ℕ) (s : Screen) (row : Row) → s.row < height s → Follows width_of s (with_row row s)
    → led s (with_row row s) ≡ difference (lines_fresh s.rows s.row (row ∷ [])) ++ CursorPosition (Absolute (active_column s)) (Absolute s.row) ∷ AllAttributes s.pen ∷ []
with_row_led width_of s row h f =
    let new : Screen = with_row row s in
    let some = f.lawful.wide_enough in
    let same : length (get_or new.rows s.row []) ≡ s.width = f.lawful.even s.row [] f.lawful.row_in in
    let wide : length row ≡ s.width = sym (ap length (get_or-set_same s.rows s.row row [] h)) ∙ same in
    let before : (active_column s == s.width) ≡ false = grind (arith, nat_tests) in
    let again : List ChangeValue = written_again new (last_cell (cursor_row new)) in
    let moves : List ChangeValue = CursorPosition (Absolute (active_column s)) (Absolute s.row) ∷ AllAttributes s.pen ∷ [] in
    (λ i. difference (row_led s new s.row row h wide refl i) ++ (if before i then again else moves) ++ same_sight s.visible i)
    ∙ append-nil (difference (lines_fresh s.rows s.row (row ∷ [])) ++ moves)

-- with the cursor at a column and a row
pub place_follows : (width_of : List ℕ → ℕ) (before s : Screen) (column row : ℕ) → column ≤ s.width → row < height s → Follows width_of before s → Follows width_of before (record s { column = column; row = row })
place_follows width_of before s column row h k f = record {
  wide = f.wide;
  tall = f.tall;
  lawful = record { wide_enough = f.lawful.wide_enough; even = f.lawful.even; column_in = h; row_in = k };
  whole = f.whole;
  sound = f.sound;
}

-- and with another pen
pub pen_follows : (width_of : List ℕ → ℕ) (before s : Screen) (column row : ℕ) (pen : Attributes) → column ≤ s.width → row < height s → Follows width_of before s → Follows width_of before (record s { column = column; row = row; pen = pen })
pen_follows width_of before s column row pen h k f = record {
  wide = f.wide;
  tall = f.tall;
  lawful = record { wide_enough = f.lawful.wide_enough; even = f.lawful.even; column_in = h; row_in = k };
  whole = f.whole;
  sound = f.sound;
}
