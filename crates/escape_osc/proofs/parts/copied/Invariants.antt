use Rattle.std.proofs.Common.{◌≡◌, ◌++◌, drop, map}
use Rattle.escape_osc.proofs.parts.copied.Given as goal

abbrev pub invariant-loop-part : goal.invariant-loop-part
invariant-loop-part l = map (λ v. v.items) l.copies.items ++ map (λ p. p.now) (drop l.part-index l.parts) ≡ map (λ p. p.now) l.parts
