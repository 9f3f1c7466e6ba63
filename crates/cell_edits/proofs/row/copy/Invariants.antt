use Rattle.std.proofs.Common.{◌≡◌, take}
use Rattle.cell_edits.proofs.row.copy.Given as goal

-- the copies so far
abbrev pub invariant-loop-cell : goal.invariant-loop-cell
invariant-loop-cell l = l.copy.items ≡ take l.cell-index l.cells
