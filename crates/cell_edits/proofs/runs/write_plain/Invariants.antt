use Rattle.std.proofs.Common.{◌≡◌, ◌+◌, ◌++◌, take, drop, length}
use Rattle.cell_edits.specs.TextRuns.{plain_cells}
use Rattle.cell_edits.proofs.runs.write_plain.Given as goal

-- the characters before `index` are written
abbrev pub invariant-loop-index : goal.invariant-loop-index
invariant-loop-index l = record {
  len : length l.cells.items ≡ length l.initial.cells.items;
  items : l.cells.items ≡ take l.start l.initial.cells.items ++ plain_cells (take l.index l.bytes) l.attrs ++ drop (l.start + l.index) l.initial.cells.items;
}
