use Rattle.std.proofs.Common.{refl, arith, ◌∙◌}
use Rattle.escape_framing.specs.Framed.{no_text}
use Rattle.escape_framing.proofs.LenLemmas.{longer_text}
use Rattle.escape_framing.proofs.texts.text_len.Goals as goal

pub loop-rest-init : goal.loop-rest-init
loop-rest-init c = record { within = omega arith; text = no_text; rest = refl }

pub loop-rest-preserved : goal.loop-rest-preserved
loop-rest-preserved c =
    let i = c.loop-rest.invariant in
    let t = longer_text c.args.bytes.now c.loop-rest.rest.now c.loop-rest.len c.run_len-count.result i.within i.rest i.text c.run_len-count.ensures in
    record { within = t.1; text = t.0; rest = c.after-rest.ensures ∙ t.2 }
