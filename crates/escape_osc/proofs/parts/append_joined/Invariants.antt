use Rattle.std.proofs.Common.{◌≡◌, ◌++◌, drop, length, map, take}
use Rattle.escape_osc.specs.Parts.{joined}
use Rattle.escape_osc.proofs.PartsLemmas.{after}
use Rattle.escape_osc.proofs.parts.append_joined.Given as goal

abbrev pub invariant-loop-part : goal.invariant-loop-part
invariant-loop-part g l =
    (l.dest.items ++ after (map g.P.AsSlice.items (drop l.part-index l.rest)) ≡ l.fn.dest.items ++ joined (map g.P.AsSlice.items l.parts))
    × (take (length l.fn.dest.items) l.dest.items ≡ l.fn.dest.items)
