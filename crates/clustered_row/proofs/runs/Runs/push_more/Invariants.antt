use Rattle.std.proofs.Common.{◌≡◌, ◌+◌, ◌++◌, ◌<◌, ◌^◌, length, replicate, take}
use Rattle.clustered_row.proofs.runs.Runs.push_more.Given as goal

abbrev pub invariant-loop-left : goal.invariant-loop-left
invariant-loop-left l =
    (l.self ++ replicate l.left l.attributes ≡ l.initial.self ++ replicate l.fn.count l.attributes) × (take (length l.initial.self) l.self ≡ l.initial.self) × (length l.self + l.left < 2 ^ 64)

abbrev pub decreases-loop-left : goal.decreases-loop-left
decreases-loop-left l = l.left
