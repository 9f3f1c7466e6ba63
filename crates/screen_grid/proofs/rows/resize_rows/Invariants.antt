use Rattle.std.proofs.Common.{◌≡◌, ◌++◌, take, drop, map, length}
use Rattle.screen_grid.specs.Rows.{widened}
use Rattle.screen_grid.proofs.rows.resize_rows.Given as goal

-- the rows so far are as wide as they should be
abbrev pub invariant-loop-row : goal.invariant-loop-row
invariant-loop-row l = record {
  len : length l.rows ≡ length l.initial.rows;
  items : l.rows ≡ map (widened l.width) (take l.row l.initial.rows) ++ drop l.row l.initial.rows;
}
