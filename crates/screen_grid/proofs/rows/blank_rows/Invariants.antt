use Rattle.std.proofs.Common.{◌≡◌, ◌-◌, ◌≤◌, ◌++◌, take, drop, map, length}
use Rattle.screen_grid.specs.Rows.{blanked}
use Rattle.screen_grid.proofs.rows.blank_rows.Given as goal

-- the rows so far are blank
abbrev pub invariant-loop-row : goal.invariant-loop-row
invariant-loop-row l = record {
  len : length l.rows ≡ length l.initial.rows;
  order : l.from ≤ l.row;
  items : l.rows ≡ take l.from l.initial.rows ++ map (blanked l.attrs) (take (l.row - l.from) (drop l.from l.initial.rows)) ++ drop l.row l.initial.rows;
}
