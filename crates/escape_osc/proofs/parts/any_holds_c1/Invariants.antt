use Rattle.std.proofs.Common.{◌≡◌, drop, map}
use Rattle.escape_osc.specs.Parts.{any_holds_c1}
use Rattle.escape_osc.proofs.parts.any_holds_c1.Given as goal

abbrev pub invariant-loop-part : goal.invariant-loop-part
invariant-loop-part l = any_holds_c1 (map (λ p. p.now) (drop l.part-index l.parts)) ≡ any_holds_c1 (map (λ p. p.now) l.parts)
