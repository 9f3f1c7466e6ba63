use Rattle.std.proofs.Common.{◌≡◌, ◌+◌, ◌≤◌, length}
use Rattle.std.specs.Prelude.{not}
use Rattle.std.specs.List.{prefix_len}
use Rattle.std.specs.Char.{is_ascii_control}
use Rattle.text_clusters.proofs.controls.len_before_ascii_control.Given as goal

abbrev pub invariant-loop-rest : goal.invariant-loop-rest
invariant-loop-rest l = record {
  within : length l.rest ≤ length l.fn.bytes;
  counted : length l.fn.bytes + prefix_len (λ byte. not (is_ascii_control byte)) l.rest ≡ length l.rest + prefix_len (λ byte. not (is_ascii_control byte)) l.fn.bytes;
}

abbrev pub decreases-loop-rest : goal.decreases-loop-rest
decreases-loop-rest l = length l.rest
