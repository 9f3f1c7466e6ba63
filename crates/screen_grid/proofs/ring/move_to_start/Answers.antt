use Rattle.std.proofs.Common.{◌<◌, ◌+◌, length, ◌∙◌, arith}
use Rattle.screen_grid.proofs.RingLemmas.{brought}
use Rattle.screen_grid.proofs.ring.move_to_start.Goals as goal

pub loop-at-preserved : goal.loop-at-preserved
loop-at-preserved g c =
    let now = c.loop-at.items in
    let within = c.requires.within in
    let more = c.loop-at-test.true in
    let inv = c.loop-at.invariant in
    let there : c.args.start + c.loop-at.at < length c.args.items.now = omega arith in
    let step = brought c.args.items.now now c.swap.new.self c.args.start c.loop-at.at c.requires.some there inv.len inv.prefix inv.rest c.swap.ensures.after in
    record { len = c.swap.auto.self ∙ inv.len; prefix = step.0; rest = step.1 }
