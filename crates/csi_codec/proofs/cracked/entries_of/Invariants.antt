-- The entries so far, then those of the rest, are the whole.
use Rattle.std.proofs.Common.{◌≡◌, ◌++◌, drop}
use Rattle.csi_codec.specs.Cracked.{entries, cracked}
use Rattle.csi_codec.proofs.cracked.entries_of.Given as goal

abbrev pub invariant-loop-param : goal.invariant-loop-param
invariant-loop-param l = l.entries.items ++ entries l.after_number (drop l.param-index l.params) ≡ cracked l.params
