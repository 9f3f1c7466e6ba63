-- What a `Reader` and a `Recording` of the code hold.
use Rattle.std.specs.Prelude.{map}
use Rattle.recordings.specs.EventView.{event_of}
use Rattle.recordings.specs.Recordings as value
use Rattle.recordings.specs.declared.reader.Reader.{Reader}
use Rattle.recordings.specs.declared.recording.Recording.{Recording}

abbrev pub reading_of : Reader → value.Reader
reading_of r = record { version = r.version; time = r.time; events = map event_of r.events.items; fault = r.fault }

abbrev pub recording_value : Recording → value.Recording
recording_value r = record {
  width = r.size.width;
  height = r.size.height;
  has_own_term = r.has_own_term;
  events = map event_of r.events.items;
  fault = r.fault;
}
