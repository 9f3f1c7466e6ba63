use Rattle.std.proofs.Common.{◌≡◌, ◌+◌, ◌++◌, ◌<◌, ◌^◌, length, take, drop}
use Rattle.clustered_row.specs.Runs.{spread}
use Rattle.clustered_row.proofs.runs.Runs.push_columns.Given as goal

abbrev pub invariant-loop-run : goal.invariant-loop-run
invariant-loop-run l =
    (l.self ++ take l.count (drop l.skip (spread (drop l.run-index l.runs))) ≡ l.initial.self ++ take l.fn.count (drop l.fn.skip (spread l.runs))) × (length l.self + l.count < 2 ^ 64)
