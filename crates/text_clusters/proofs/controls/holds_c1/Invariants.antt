-- the remaining bytes hold a C1 control exactly where the whole text does
use Rattle.std.proofs.Common.{◌≡◌, ◌-◌, drop}
use Rattle.text_clusters.specs.Controls.{holds_c1}
use Rattle.text_clusters.proofs.controls.holds_c1.Given as goal

abbrev pub invariant-loop-i : goal.invariant-loop-i
invariant-loop-i l = holds_c1 (drop (l.i - 1) l.bytes) ≡ holds_c1 l.bytes
