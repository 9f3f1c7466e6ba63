use Rattle.std.proofs.Common.{◌≡◌, ℕ, List, ◌++◌, map, drop}
use Rattle.std.specs.Fmt.{HasWritten, IsPlainFormatter}
use Rattle.std.specs.Str.Lossy.{utf8_lossy}
use Rattle.escape_osc.specs.ShownParts.{shown_parts}
use Rattle.escape_osc.proofs.PartsLemmas.{after}
use Rattle.escape_osc.proofs.show.LossyPartsDisplay.fmt.Given as goal

abbrev pub invariant-loop-part : goal.invariant-loop-part
invariant-loop-part g l =
    IsPlainFormatter l.fn.f → (done : List ℕ) × HasWritten g.W.Write.write_str_gives l.fn.f done l.f
    × (done ++ after (map utf8_lossy (map (λ part. part.items) (drop l.part-index l.rest))) ≡ shown_parts l.fn.self)
