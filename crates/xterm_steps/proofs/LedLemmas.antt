-- What leads from screen to screen is never nothing: it sets the cursor's place.
use Rattle.std.proofs.Common.{◌≡◌, ℕ, ◌<◌, List, [], ◌++◌, length, subst, sym, arith}
use Rattle.std.specs.Prelude.{◌==◌, Some, None}
use Rattle.std.proofs.lemmas.List.{length-append}
use Rattle.cell_base.specs.Row.{Row}
use Rattle.cell_base.specs.Screen.{Screen}
use Rattle.screen_change.specs.ChangeValue.{ChangeValue}
use Rattle.screen_change.proofs.TextLemmas.{by_test}
use Rattle.screen_difference.specs.Difference.{difference}
use Rattle.screen_difference.specs.FreshCells.{screen_fresh}
use Rattle.screen_effects.specs.Effect.{cursor_row}
use Rattle.xterm_table.specs.Follows.{Follows}
use Rattle.terminal_table.specs.Led.{last_cell, led, position_and_pen, sight_changes, written_again}
use Rattle.terminal_table.proofs.PositionLemmas.{last_cell_is}

place_some : (width_of : List ℕ → ℕ) (before new : Screen) → Follows width_of before new → 0 < length (position_and_pen new)
place_some width_of before new f = by_test (new.column == new.width) (λ e. rw e pending) (λ e. rw e (omega arith))
  where
    row : Row
    row = cursor_row new

    pending : 0 < length (written_again new (last_cell row))
    pending =
        let even = f.lawful.even new.row [] f.lawful.row_in in
        let wide = f.lawful.wide_enough in
        let end = last_cell_is width_of 0 row (omega (arith, even, wide)) (f.whole new.row [] f.lawful.row_in) (f.sound new.row [] f.lawful.row_in) in
        subst (λ cell. 0 < length (written_again new cell)) (sym (end.last None)) (omega arith)

pub led_some : (width_of : List ℕ → ℕ) (before new : Screen) → Follows width_of before new → 0 < length (led before new)
led_some width_of before new f =
    let cells : List ChangeValue = difference (screen_fresh before new) in
    let place : List ChangeValue = position_and_pen new in
    let sight : List ChangeValue = sight_changes before.visible new.visible in
    let some = place_some width_of before new f in
    let one = length-append (cells ++ place) sight in
    let other = length-append cells place in
    omega (arith, some, one, other)
