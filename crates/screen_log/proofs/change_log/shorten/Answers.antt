use Rattle.std.proofs.Common.{◌≤◌, length, ◌∙◌, arith}
use Rattle.screen_log.proofs.DroppedLemmas.{first_stay, last_owns_nothing, others_own_nothing}
use Rattle.screen_log.proofs.change_log.shorten.Goals as goal

pub forget-requires : goal.forget-requires
forget-requires c =
    let now = c.loop-changes in
    let more = c.loop-changes-test.true in
    let within : c.args.len ≤ length c.pop.new.self.items = omega (arith, c.in-Some.ensures.cases) in
    last_owns_nothing now.changes.items c.pop.new.self.items c.in-Some.change c.args.len c.in-Some.ensures.items within now.invariant.dropped

pub loop-changes-preserved-in-Some : goal.loop-changes-preserved-in-Some
loop-changes-preserved-in-Some c =
    let now = c.loop-changes in
    let more = c.loop-changes-test.true in
    let within : c.args.len ≤ length c.pop.new.self.items = omega (arith, c.in-Some.ensures.cases) in
    record {
      first = first_stay now.changes.items c.pop.new.self.items c.in-Some.change c.args.len c.in-Some.ensures.items within now.invariant.dropped ∙ now.invariant.first;
      dropped = others_own_nothing now.changes.items c.pop.new.self.items c.in-Some.change c.args.len c.in-Some.ensures.items within now.invariant.dropped;
    }
