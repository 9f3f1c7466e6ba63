use Rattle.std.proofs.Common.{◌≡◌, ◌+◌, ◌-◌, ◌<◌, suc, map, refl, subst, arith}
use Rattle.std.proofs.lemmas.Result.{err_from_is_err_and}
use Rattle.recordings.specs.EventView.{event_of}
use Rattle.shot.specs.Writing.{IsWriting}
use Rattle.shot.proofs.WriteLemmas.{one_less, writing_next, writing_stops}
use Rattle.shot.proofs.shots.write_steps.Goals as goal

pub loop-left-preserved : goal.loop-left-preserved
loop-left-preserved g c =
    let left = c.loop-left.left in
    let more : 0 < left = omega (arith, c.loop-left-test.true) in
    let one : left ≡ suc (left - 1) = omega (arith, more) in
    let before = g.T.Sink.contents c.args.writer.now in
    let out = g.T.Sink.contents c.loop-left.writer in
    let events = map event_of c.args.events.now in
    let rest = map event_of c.loop-left.rest.now in
    record {
      writing = λ view st.
          writing_next c.args.format view events c.args.step c.args.count c.loop-left.terminal c.write_screen.new.terminal rest (map event_of c.in_ok-rest.rest.now)
          c.loop-left.time (c.loop-left.time + c.args.step) c.loop-left.number (left - 1) before out (g.T.Sink.contents c.write_screen.new.writer)
          (subst (λ n. IsWriting c.args.format view events c.args.step c.args.count c.loop-left.terminal rest c.loop-left.time c.loop-left.number n before out) one (c.loop-left.invariant.writing view st))
          refl c.in_ok-rest.ensures.stands c.in_ok-rest.ensures.writes c.in_ok-rest.ensures.rest;
      at = omega (arith, c.loop-left.invariant.at, one_less left c.args.step more);
      counted = omega (arith, c.loop-left.invariant.counted, more);
    }

pub returns-in_err-rest-clause-part : goal.returns-in_err-rest-clause-part
returns-in_err-rest-clause-part g c =
    let p = err_from_is_err_and c.from_residual.result c.from_residual.ensures.1 in
    let left = c.loop-left.left in
    let more : 0 < left = omega (arith, c.loop-left-test.true) in
    let one : left ≡ suc (left - 1) = omega (arith, more) in
    let before = g.T.Sink.contents c.args.writer.now in
    let out = g.T.Sink.contents c.loop-left.writer in
    let events = map event_of c.args.events.now in
    let rest = map event_of c.loop-left.rest.now in
    rw p.1 (λ view st.
    writing_stops c.args.format view events c.args.step c.args.count c.loop-left.terminal rest
    c.loop-left.time (c.loop-left.time + c.args.step) c.loop-left.number (left - 1) before out (g.T.Sink.contents c.write_screen.new.writer)
    (subst (λ n. IsWriting c.args.format view events c.args.step c.args.count c.loop-left.terminal rest c.loop-left.time c.loop-left.number n before out) one (c.loop-left.invariant.writing view st))
    refl c.in_err-rest.ensures.part)
