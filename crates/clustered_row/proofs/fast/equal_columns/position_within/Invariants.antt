use Rattle.std.proofs.Common.{◌≤◌, ◌-◌}
use Rattle.clustered_row.specs.Position.{IsPosition}
use Rattle.clustered_row.proofs.fast.equal_columns.position_within.Given as goal

-- a position that is near enough
abbrev pub invariant-loop-position : goal.invariant-loop-position
invariant-loop-position l = record {
  position : IsPosition l.sizes l.position;
  index : l.position.index ≤ l.count;
  bytes : l.position.bytes ≤ l.bytes;
  columns : l.position.columns ≤ l.columns;
}

abbrev pub decreases-loop-position : goal.decreases-loop-position
decreases-loop-position l = l.count - l.position.index
