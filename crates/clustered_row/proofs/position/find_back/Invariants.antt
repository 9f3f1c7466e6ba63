use Rattle.std.proofs.Common.{◌≤◌, ◌<◌, ◌+◌, get_or}
use Rattle.clustered_row.specs.declared.cell_size.CellSize.{CellSize}
use Rattle.clustered_row.specs.Position.{IsPosition}
use Rattle.clustered_row.specs.Sizes.{width_of}
use Rattle.clustered_row.proofs.position.find_back.Given as goal

-- the position is not before `from`, and the column is before the end of the cell at the position
abbrev pub invariant-loop-position : goal.invariant-loop-position
invariant-loop-position l = record {
  position : IsPosition l.sizes l.position;
  order : l.fn.from.index ≤ l.position.index;
  next : (d : CellSize) → l.at < l.position.columns + width_of (get_or l.sizes l.position.index d).is_wide;
}

abbrev pub decreases-loop-position : goal.decreases-loop-position
decreases-loop-position l = l.position.index
