use Rattle.std.proofs.Common.{◌≡◌, ◌+◌, length, take, drop}
use Rattle.screen_grid.proofs.ring.move_to_start.Given as goal

-- the first `at` items are at the start, and the remaining ones keep their positions
abbrev pub invariant-loop-at : goal.invariant-loop-at
invariant-loop-at g l = record {
  len : length l.items ≡ length l.initial.items;
  prefix : take l.at l.items ≡ take l.at (drop l.start l.initial.items);
  rest : drop (l.start + l.at) l.items ≡ drop (l.start + l.at) l.initial.items;
}
