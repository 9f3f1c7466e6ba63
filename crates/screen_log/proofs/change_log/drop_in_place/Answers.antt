use Rattle.std.proofs.Common.{◌<◌, length, arith}
use Rattle.screen_log.proofs.DroppedLemmas.{one_dropped, rest_stays}
use Rattle.screen_log.proofs.change_log.drop_in_place.Goals as goal

pub loop-at-preserved : goal.loop-at-preserved
loop-at-preserved c =
    let now = c.loop-at in
    let within = c.requires.within in
    let more = c.loop-at-test.true in
    let there : now.at < length now.changes = let l = now.auto.changes in omega arith in
    record {
      dropped = one_dropped now.changes now.at c.drop_change.new.slot there now.invariant.dropped c.drop_change.ensures.dropped;
      rest = rest_stays now.changes c.args.changes.now now.at c.drop_change.new.slot now.invariant.rest;
      pool = c.drop_change.ensures.pool;
    }
