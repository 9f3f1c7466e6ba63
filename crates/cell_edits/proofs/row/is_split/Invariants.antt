use Rattle.std.proofs.Common.{◌≡◌, ◌≤◌, take}
use Rattle.std.specs.Prelude.{not, if◌then◌else◌}
use Rattle.cell_edits.specs.CellList.{ends_split}
use Rattle.cell_edits.proofs.row.is_split.Given as goal

-- each wide cell that was passed turns the answer round
abbrev pub invariant-loop-position : goal.invariant-loop-position
invariant-loop-position l = record {
  within : l.position ≤ l.at;
  turned : (if l.was_split then not (ends_split (take l.position l.cells)) else ends_split (take l.position l.cells)) ≡ ends_split (take l.at l.cells);
}

abbrev pub decreases-loop-position : goal.decreases-loop-position
decreases-loop-position l = l.position
