use Rattle.std.proofs.Common.{◌≡◌, take}
use Rattle.clustered_row.proofs.fast.equal_columns.equal_sizes.Given as goal

-- the first `at` sizes are equal
abbrev pub invariant-loop-at : goal.invariant-loop-at
invariant-loop-at l = take l.at l.sizes ≡ take l.at l.other
