use Rattle.std.proofs.Common.{◌≡◌, map, take}
use Rattle.std.specs.List.{join_with_byte}
use Rattle.cell_base.proofs.link_reading.join_parts.Given as goal

abbrev pub invariant-loop-index : goal.invariant-loop-index
invariant-loop-index l = l.joined.items ≡ join_with_byte 59 (map (λ p. p.now) (take l.index l.parts))
