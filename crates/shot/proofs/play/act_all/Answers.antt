use Rattle.std.proofs.Common.{◌+◌, ◌<◌, ◌≤◌, ◌∷◌, drop, length, map, arith, subst, sym}
use Rattle.std.proofs.lemmas.List.{drop_all, drop_more}
use Rattle.recordings.specs.EventView.{event_of}
use Rattle.shot.proofs.PlayLemmas.{LeadsOn, led_all, led_next}
use Rattle.shot.proofs.play.act_all.Goals as goal

pub returns : goal.returns
returns c =
    let events = c.args.events.now in
    let at = c.loop-event.event-index in
    let events_after : length events ≤ at = omega (arith, c.loop-event-test.false) in
    led_all c.args.terminal.now c.loop-event.terminal (map event_of events)
    (subst (λ left. LeadsOn c.args.terminal.now c.loop-event.terminal (map event_of left) (map event_of events)) (drop_all at events events_after) c.loop-event.invariant)

pub loop-event-preserved : goal.loop-event-preserved
loop-event-preserved c =
    let events = c.args.events.now in
    let at = c.loop-event.event-index in
    let event = c.event-item.result in
    let within : at < length events = omega (arith, c.loop-event-test.true) in
    led_next c.args.terminal.now c.loop-event.terminal c.act.new.terminal (event_of event) (map event_of (drop (at + 1) events)) (map event_of events)
    (subst (λ first. LeadsOn c.args.terminal.now c.loop-event.terminal (map event_of (first ∷ drop (at + 1) events)) (map event_of events)) (sym c.event-item.is)
    (subst (λ left. LeadsOn c.args.terminal.now c.loop-event.terminal (map event_of left) (map event_of events)) (drop_more events at event within) c.loop-event.invariant))
    c.in_ok-act.ensures
