use Rattle.std.proofs.Common.{◌≡◌, length, take}
use Rattle.clustered_row.specs.Runs.{spread}
use Rattle.clustered_row.proofs.fast.equal_columns.equal_runs.Given as goal

-- the first `at` runs are equal, and `columns` counts their columns
abbrev pub invariant-loop-at : goal.invariant-loop-at
invariant-loop-at l = record {
  same : take l.at l.runs ≡ take l.at l.other_runs;
  counted : l.columns ≡ length (spread (take l.at l.runs));
}
