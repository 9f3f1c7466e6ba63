use Rattle.std.proofs.Common.{◌≡◌, ◌+◌, ◌-◌, ◌≤◌, length, take}
use Rattle.clustered_row.specs.Runs.{spread}
use Rattle.clustered_row.proofs.run_steps.position_from.Given as goal

abbrev pub invariant-loop-at : goal.invariant-loop-at
invariant-loop-at l = (l.fn.index ≤ l.at) × (l.at ≤ length l.runs) × (length (spread (take l.at l.runs)) + l.left ≡ length (spread (take l.fn.index l.runs)) + l.fn.offset)

abbrev pub decreases-loop-at : goal.decreases-loop-at
decreases-loop-at l = length l.runs - l.at
