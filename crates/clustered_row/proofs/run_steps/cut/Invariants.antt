use Rattle.std.proofs.Common.{◌≡◌, ◌≤◌, length, take}
use Rattle.clustered_row.specs.Runs.{spread, AreMaximal}
use Rattle.clustered_row.proofs.run_steps.cut.Given as goal

abbrev pub invariant-loop-left : goal.invariant-loop-left
invariant-loop-left l =
    (l.left ≡ length (spread l.runs.items)) × (l.at ≤ l.left) × (take l.at (spread l.runs.items) ≡ take l.at (spread l.initial.runs.items)) × AreMaximal l.runs.items

abbrev pub decreases-loop-left : goal.decreases-loop-left
decreases-loop-left l = l.left
