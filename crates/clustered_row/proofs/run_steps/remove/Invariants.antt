use Rattle.std.proofs.Common.{◌≡◌, ◌+◌, ◌++◌, length, take, drop}
use Rattle.clustered_row.proofs.run_steps.remove.Given as goal

abbrev pub invariant-loop-k : goal.invariant-loop-k
invariant-loop-k l =
    (length l.runs.items ≡ length l.initial.runs.items) × (take (l.from + l.k) l.runs.items ≡ take l.from l.initial.runs.items ++ take l.k (drop l.to l.initial.runs.items)) × (drop (l.to + l.k) l.runs.items ≡ drop (l.to + l.k) l.initial.runs.items)
