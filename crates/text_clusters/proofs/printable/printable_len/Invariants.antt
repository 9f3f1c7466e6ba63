use Rattle.std.proofs.Common.{◌≡◌, ◌+◌, ◌≤◌, length}
use Rattle.std.specs.List.{prefix_len}
use Rattle.text_clusters.specs.Plain.{is_printable}
use Rattle.text_clusters.proofs.printable.printable_len.Given as goal

abbrev pub invariant-loop-rest : goal.invariant-loop-rest
invariant-loop-rest l = record { within : length l.rest ≤ length l.fn.bytes; counted : length l.fn.bytes + prefix_len is_printable l.rest ≡ length l.rest + prefix_len is_printable l.fn.bytes }

abbrev pub decreases-loop-rest : goal.decreases-loop-rest
decreases-loop-rest l = length l.rest
