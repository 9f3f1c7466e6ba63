use Rattle.std.proofs.Common.{◌≡◌, ◌≤◌, Some, length}
use Rattle.csi_codec.specs.Texts.{largest_number, tokens_after}
use Rattle.csi_codec.proofs.sources.number.Given as goal

abbrev pub invariant-loop-byte : goal.invariant-loop-byte
invariant-loop-byte l = record {
  leads : tokens_after (Some l.number) l.left ≡ tokens_after (Some l.fn.begun) l.fn.bytes;
  small : l.number ≤ largest_number;
}

abbrev pub decreases-loop-byte : goal.decreases-loop-byte
decreases-loop-byte l = length l.left
