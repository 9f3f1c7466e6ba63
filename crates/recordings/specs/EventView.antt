-- What the code's events and entries hold.
use Rattle.std.specs.Prelude.{Result, Ok, Err, option_map}
use Rattle.recordings.specs.Events as value
use Rattle.recordings.specs.declared.entry.Entry.{Entry}
use Rattle.recordings.specs.declared.entry.LineAct.{LineAct}
use Rattle.recordings.specs.declared.entry.LineAct.TheVariants as line
use Rattle.recordings.specs.declared.event.Act.{Act}
use Rattle.recordings.specs.declared.event.Act.TheVariants as act
use Rattle.recordings.specs.declared.event.Event.{Event}
use Rattle.recordings.specs.declared.fault.Fault.{Fault}

abbrev pub act_of : Act → value.Act
act_of (act.Output bytes) = value.Output bytes.items
act_of (act.Resize size) = value.Resize size.width size.height

abbrev pub event_of : Event → value.Event
event_of event = record { time = event.time; act = act_of event.act }

abbrev pub line_act_of : LineAct → value.Act
line_act_of (line.Output text) = value.Output text.now
line_act_of (line.Resize size) = value.Resize size.width size.height

abbrev pub entry_of : Entry → value.Entry
entry_of entry = record { time = entry.time; act = option_map line_act_of entry.act }

abbrev pub result_of : {A B : Type 0} → (A → B) → Result A Fault → Result B Fault
result_of f (Ok x) = Ok (f x)
result_of f (Err fault) = Err fault
