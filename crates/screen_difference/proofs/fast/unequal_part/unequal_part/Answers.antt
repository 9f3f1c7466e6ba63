use Rattle.std.proofs.Common.{◌-◌, arith}
use Rattle.screen_difference.proofs.AroundLemmas.{part_is_fresh}
use Rattle.screen_difference.proofs.fast.unequal_part.unequal_part.Goals as goal

pub returns-clause-fresh : goal.returns-clause-fresh
returns-clause-fresh c =
    let start = c.in_ok-start.start in
    let stop = c.in_ok-start.stop in
    let passed = c.min-passed.ensures in
    let after = c.min-after.ensures in
    let one = c.saturating_sub.ensures in
    let two = c.saturating_sub-2.ensures in
    let order = c.in_ok-start.ensures.order in
    let n = c.min-after.result - c.min-passed.result in
    part_is_fresh c.args.x c.args.other_x c.args.count start stop c.min-passed.result n c.args.old.now.columns c.args.new.now.columns
    (omega arith) c.in_ok-start.ensures c.requires.within c.requires.other_within (omega arith) (omega arith)
