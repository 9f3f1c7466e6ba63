use Rattle.std.proofs.Common.{◌≤◌, ◌-◌, length}
use Rattle.clustered_row.specs.Position.{IsPosition}
use Rattle.clustered_row.proofs.position.find.Given as goal

-- a position before the column
abbrev pub invariant-loop-index : goal.invariant-loop-index
invariant-loop-index l = record {
  position : IsPosition l.sizes (record { index = l.index; bytes = l.bytes; columns = l.at - l.left });
  order : l.fn.from.index ≤ l.index;
  left : l.left ≤ l.at;
}

abbrev pub decreases-loop-index : goal.decreases-loop-index
decreases-loop-index l = length l.sizes - l.index
