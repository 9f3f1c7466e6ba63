use Rattle.std.proofs.Common.{◌≡◌, take}
use Rattle.clustered_row.proofs.fast.equal_columns.equal_bytes.Given as goal

-- the first `at` bytes are equal
abbrev pub invariant-loop-at : goal.invariant-loop-at
invariant-loop-at l = take l.at l.bytes ≡ take l.at l.other
