use Rattle.std.proofs.Common.{◌≡◌, ◌≤◌, ◌+◌, ◌-◌, ◌++◌}
use Rattle.std.specs.Vec.{vec_capacity, vec_len}
use Rattle.terminal_c.specs.ToldCells.{each_told}
use Rattle.terminal_c.proofs.fast.plain_cells.push_cells.Given as goal

-- the cells so far follow those from before, and there is room for the others
abbrev pub invariant-loop-at : goal.invariant-loop-at
invariant-loop-at l = record {
  told : l.cells.items ≡ l.initial.cells.items ++ each_told l.column l.text_at l.at l.face;
  room : vec_len l.cells + (l.count - l.at) ≤ vec_capacity l.cells;
}
