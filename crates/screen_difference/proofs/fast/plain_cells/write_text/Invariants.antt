use Rattle.std.proofs.Common.{◌≡◌, ◌+◌, ◌-◌, ◌≤◌, drop, length}
use Rattle.cell_edits.specs.VisibleCells.{visible_each}
use Rattle.screen_difference.specs.Drawing.{with_all}
use Rattle.screen_difference.specs.FreshCells.{placed}
use Rattle.screen_difference.specs.ShownCells.{from_column, passed_fresh, shown_left, Fits}
use Rattle.screen_difference.proofs.fast.plain_cells.write_text.Given as goal

-- the cells written so far, and then the fresh cells of the rest of the text, are all fresh cells of the text
abbrev pub invariant-loop-at : goal.invariant-loop-at
invariant-loop-at l = record {
  within : l.at ≤ length l.text;
  fits : Fits l.olds;
  passed : from_column (l.column + length l.text) (shown_left l.olds) ≡ from_column (l.column + length l.text) (shown_left l.initial.olds);
  written : with_all l.writer (placed l.row (passed_fresh (shown_left l.olds) (visible_each (l.column + l.at) (drop l.at l.text) l.attrs))) ≡ with_all l.initial.writer (placed l.row (passed_fresh (shown_left l.initial.olds) (visible_each l.column l.text l.attrs)));
}

abbrev pub decreases-loop-at : goal.decreases-loop-at
decreases-loop-at l = length l.text - l.at
