use Rattle.std.proofs.Common.{◌≡◌, ◌-◌, ◌++◌, take, drop, replicate, length}
use Rattle.cell_base.specs.CellContent.{blank_cell}
use Rattle.cell_edits.proofs.runs.write_blanks.Given as goal

-- the positions before `at` are written
abbrev pub invariant-loop-at : goal.invariant-loop-at
invariant-loop-at l = record {
  len : length l.cells.items ≡ length l.initial.cells.items;
  items : l.cells.items ≡ take l.start l.initial.cells.items ++ replicate (l.at - l.start) (blank_cell l.attrs) ++ drop l.at l.initial.cells.items;
}
