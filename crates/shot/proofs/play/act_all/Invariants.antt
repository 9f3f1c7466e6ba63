use Rattle.std.proofs.Common.{drop, map}
use Rattle.recordings.specs.EventView.{event_of}
use Rattle.shot.proofs.PlayLemmas.{LeadsOn}
use Rattle.shot.proofs.play.act_all.Given as goal

abbrev pub invariant-loop-event : goal.invariant-loop-event
invariant-loop-event l = LeadsOn l.initial.terminal l.terminal (map event_of (drop l.event-index l.events)) (map event_of l.events)
