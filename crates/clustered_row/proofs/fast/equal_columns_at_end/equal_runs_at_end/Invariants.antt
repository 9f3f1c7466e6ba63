use Rattle.std.proofs.Common.{◌≡◌, ◌-◌, length, drop}
use Rattle.clustered_row.specs.Runs.{spread}
use Rattle.clustered_row.proofs.fast.equal_columns_at_end.equal_runs_at_end.Given as goal

-- the last `count` runs are equal, and `columns` counts their columns
abbrev pub invariant-loop-count : goal.invariant-loop-count
invariant-loop-count l = record {
  same : drop (length l.runs - l.count) l.runs ≡ drop (length l.other_runs - l.count) l.other_runs;
  counted : l.columns ≡ length (spread (drop (length l.runs - l.count) l.runs));
}
