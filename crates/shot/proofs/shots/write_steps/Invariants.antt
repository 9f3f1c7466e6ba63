use Rattle.std.proofs.Common.{◌≡◌, ◌+◌, ◌*◌, map}
use Rattle.recordings.specs.EventView.{event_of}
use Rattle.shot.specs.Writing.{IsWriting}
use Rattle.terminal.specs.Headline.{StandsAt}
use Rattle.terminal_table.specs.Meaning.{View}
use Rattle.shot.proofs.shots.write_steps.Given as goal

abbrev pub invariant-loop-left : goal.invariant-loop-left
invariant-loop-left g l = record {
  writing : (view : View) → StandsAt l.initial.terminal view
      → IsWriting l.format view (map event_of l.events) l.step l.count l.terminal (map event_of l.rest) l.time l.number l.left (g.T.Sink.contents l.initial.writer) (g.T.Sink.contents l.writer);
  at : l.time + l.left * l.step ≡ l.count * l.step;
  counted : l.number + l.left ≡ l.count;
}

abbrev pub decreases-loop-left : goal.decreases-loop-left
decreases-loop-left g l = l.left
