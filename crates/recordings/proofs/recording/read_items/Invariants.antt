use Rattle.std.proofs.Common.{◌≡◌, drop}
use Rattle.json.specs.Value.{items_view}
use Rattle.recordings.specs.RecordingView.{reading_of}
use Rattle.recordings.specs.Recordings.{items_read, reading_first}
use Rattle.recordings.proofs.recording.read_items.Given as goal

abbrev pub invariant-loop-event : goal.invariant-loop-event
invariant-loop-event l =
    items_read (reading_of l.reading) (items_view (drop l.event-index l.events)) ≡ items_read (reading_first l.fn.version) (items_view l.events)
