use Rattle.std.proofs.Common.{◌≡◌, ◌-◌, length, drop}
use Rattle.clustered_row.proofs.fast.equal_columns_at_end.equal_bytes_at_end.Given as goal

-- the last `count` bytes are equal
abbrev pub invariant-loop-count : goal.invariant-loop-count
invariant-loop-count l = drop (length l.bytes - l.count) l.bytes ≡ drop (length l.other - l.count) l.other
