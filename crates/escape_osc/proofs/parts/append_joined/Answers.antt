use Rattle.std.proofs.Common.{◌∙◌, ap, refl, rules, length, take}
use Rattle.std.proofs.lemmas.List.{take_at}
use Rattle.escape_osc.proofs.PartsLemmas.{joined_start}
use Rattle.escape_osc.proofs.parts.append_joined.Goals as goal

pub loop-part-init : goal.loop-part-init
loop-part-init g c =
    let before = c.args.dest.now.items in (
      joined_start g.P.AsSlice.items _ _ _ _ _ _ c.in-Some.ensures.cases.0 (search rules) c.in_ok-extend_from_slice.ensures.items,
      ap (take (length before)) c.in_ok-extend_from_slice.ensures.items ∙ take_at before c.as_slice.result.now (length before) refl,
    )
