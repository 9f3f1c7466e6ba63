-- A recording: its header, and its lines in turn; or one object, in version 1.
use Rattle.std.specs.Prelude.{Bool, true, false, ℕ, ◌+◌, ◌==◌, ◌||◌, List, [], ◌∷◌, ◌++◌, Option, Some, None, Result}
use Rattle.std.specs.Prelude.{Ok, Err, codes, length, slice_index, option_and_then, unwrap_or, is_some, nat_le, nat_lt}
use Rattle.std.specs.Prelude.{if◌then◌else◌}
use Rattle.std.specs.List.{slice_split}
use Rattle.std.specs.Str.{bytes_eq}
use Rattle.json.specs.Find.{as_array, as_number, as_str, get}
use Rattle.json.specs.Json.{Json, Items, no_items, item}
use Rattle.recordings.specs.Events.{Act, Output, Event, Entry, delayed_entry, entry_in, json_of}
use Rattle.recordings.specs.Numerals.{count_of, size_of, too_late}
use Rattle.recordings.specs.declared.fault.BadLine.{BadLine}
use Rattle.recordings.specs.declared.fault.Fault.{Fault}
use Rattle.recordings.specs.declared.fault.Fault.TheVariants.{Back, CutOff, HeaderSize, Late, NotJson, NotWhole}
use Rattle.recordings.specs.declared.fault.Fault.TheVariants.{Outputs, Version as UnknownVersion}
use Rattle.recordings.specs.declared.header.Version.{Version}
use Rattle.recordings.specs.declared.header.Version.TheVariants.{One, Two, Three}

-- ---- the header

-- a first line: no header (the bytes of an application), a header that is wrong, or a header of a version, with columns
-- and rows, and whether its TERM is the project's own
pub data Head : Type 0 where
  Bytes : Head
  Bad : Fault → Head
  Recorded : Version → ℕ → ℕ → Bool → Head

-- the number of the member `name`, if it has one that `read` reads
abbrev pub member_of : (List ℕ → Option ℕ) → List ℕ → Json → Option ℕ
member_of read name value = option_and_then read (option_and_then as_number (get name value))

-- the text of the member `name`, if it has one
abbrev pub text_in : List ℕ → Json → Option (List ℕ)
text_in name value = option_and_then as_str (get name value)

-- whether the TERM of an application, if it is known, is the name of the project's own terminal description
abbrev pub is_own_term : Option (List ℕ) → Bool
is_own_term None = false
is_own_term (Some term) = bytes_eq term (codes "rilqamyn")

abbrev pub head_of_size : Version → Option (List ℕ) → Option ℕ → Option ℕ → Head
head_of_size version term None height = Bad HeaderSize
head_of_size version term (Some width) None = Bad HeaderSize
head_of_size version term (Some width) (Some height) = Recorded version width height (is_own_term term)

-- versions 1 and 2 have the size in `width` and `height`, and the TERM in `TERM` of the member `env`
abbrev pub flat_head : Version → Json → Head
flat_head version header =
    head_of_size version (option_and_then (text_in (codes "TERM")) (get (codes "env") header))
    (member_of size_of (codes "width") header) (member_of size_of (codes "height") header)

-- version 3 has the size in `cols` and `rows` of the member `term`, and the TERM in its `type`
abbrev pub term_head : Option Json → Head
term_head None = Bad HeaderSize
term_head (Some term) =
    head_of_size Three (text_in (codes "type") term)
    (member_of size_of (codes "cols") term) (member_of size_of (codes "rows") term)

-- a first line of version 1 is wrong, since it isn't the whole input
abbrev pub head_by : Option ℕ → Json → Head
head_by None header = Bytes
head_by (Some version) header =
    if version == 1 then Bad NotWhole
    else (if version == 2 then flat_head Two header
    else (if version == 3 then term_head (get (codes "term") header) else Bad UnknownVersion))

abbrev pub head_in : Option Json → Head
head_in None = Bytes
head_in (Some header) = head_by (member_of count_of (codes "version") header) header

-- a first line is a header where it is an object with a member `version` that is a number, and else bytes of an
-- application
unfoldable pub head_of : List ℕ → Head
head_of line = head_in (json_of line)

-- ---- the lines

-- what was read of a recording so far
pub record Reader : Type 0 where
  pub version : Version
  -- the time of the last event
  pub time : ℕ
  pub events : List Event
  pub fault : Option BadLine

-- whether a line is skipped: an empty line, and in version 3 a comment, which begins with `#`
abbrev pub is_passed_over : Version → List ℕ → Bool
is_passed_over One line = false
is_passed_over Two line = length line == 0
is_passed_over Three line = (length line == 0) || (slice_index line 0 == 35)

-- the time after an event, from the time before it and the event's own time: in versions 1 and 3 the sum of both; in
-- version 2 the event's time, except that an event without an act leaves the time as it is
abbrev pub time_after : Version → ℕ → ℕ → Bool → Result ℕ Fault
time_after One before time is_done = if nat_lt (before + time) too_late then Ok (before + time) else Err Late
time_after Two before time false = Ok before
time_after Two before time true = if nat_le before time then Ok time else Err Back
time_after Three before time is_done = if nat_lt (before + time) too_late then Ok (before + time) else Err Late

abbrev pub with_fault : ℕ → Fault → Reader → Reader
with_fault number fault reading = record reading { fault = Some (record { line = number; fault = fault }) }

abbrev pub with_act : ℕ → Option Act → Reader → Reader
with_act time None reading = record reading { time = time }
with_act time (Some act) reading =
    record reading { time = time; events = reading.events ++ record { time = time; act = act } ∷ [] }

abbrev pub with_time : ℕ → Result ℕ Fault → Option Act → Reader → Reader
with_time number (Err fault) act reading = with_fault number fault reading
with_time number (Ok time) act reading = with_act time act reading

abbrev pub with_entry : ℕ → Result Entry Fault → Reader → Reader
with_entry number (Err fault) reading = with_fault number fault reading
with_entry number (Ok entry) reading =
    with_time number (time_after reading.version reading.time entry.time (is_some entry.act)) entry.act reading

-- a last line that is no JSON is cut off, since nothing ends it but the end of the input
abbrev pub with_value : ℕ → Bool → Option Json → Reader → Reader
with_value number is_last None reading = with_fault number (if is_last then CutOff else NotJson) reading
with_value number is_last (Some event) reading = with_entry number (entry_in event) reading

-- a reader after the line with this number; after a fault no line is read
unfoldable pub line_read : ℕ → Bool → Reader → List ℕ → Reader
line_read number is_last reading line =
    if is_some reading.fault || is_passed_over reading.version line then reading
    else with_value number is_last (json_of line) reading

-- a reader after lines, of which the first has this number
abbrev pub lines_read : ℕ → Reader → List (List ℕ) → Reader
lines_read number reading [] = reading
lines_read number reading (line ∷ lines) =
    lines_read (number + 1) (line_read number (length lines == 0) reading line) lines

-- ---- the events of version 1

-- a reader after an event; after a fault no event is read
unfoldable pub item_read : Reader → Json → Reader
item_read reading event = if is_some reading.fault then reading else with_entry 1 (delayed_entry event) reading

abbrev pub items_read : Reader → Items → Reader
items_read reading no_items = reading
items_read reading (item event events) = items_read (item_read reading event) events

-- a reader after the list of all events, if there is one
abbrev pub list_read : Option Items → Reader → Reader
list_read None reading = with_fault 1 Outputs reading
list_read (Some events) reading = items_read reading events

-- ---- the whole

-- the size at first, whether the application ran under the project's own TERM, the events in turn, and the line that is
-- wrong, if one is, after which nothing was read
pub record Recording : Type 0 where
  pub width : ℕ
  pub height : ℕ
  pub has_own_term : Bool
  pub events : List Event
  pub fault : Option BadLine

-- the lines of an input, without the line feeds after them
abbrev pub lines_of : List ℕ → List (List ℕ)
lines_of input = slice_split (λ byte. byte == 10) input

abbrev pub reading_first : Version → Reader
reading_first version = record { version = version; time = 0; events = []; fault = None }

abbrev pub recording_read : ℕ → ℕ → Bool → Reader → Recording
recording_read width height has_own_term reading = record {
  width = width;
  height = height;
  has_own_term = has_own_term;
  events = reading.events;
  fault = reading.fault;
}

-- a recording of the bytes of an application, all of them written at the beginning; their TERM isn't known
abbrev pub bytes_recording : ℕ → ℕ → List ℕ → Recording
bytes_recording width height input = record {
  width = width;
  height = height;
  has_own_term = false;
  events = record { time = 0; act = Output input } ∷ [];
  fault = None;
}

-- a recording whose header is wrong, without events
abbrev pub bad_recording : ℕ → ℕ → Fault → Recording
bad_recording width height fault = record {
  width = width;
  height = height;
  has_own_term = false;
  events = [];
  fault = Some (record { line = 1; fault = fault });
}

-- an input without a header is the bytes of an application
abbrev pub recording_by : Head → ℕ → ℕ → List ℕ → List (List ℕ) → Recording
recording_by Bytes width height input lines = bytes_recording width height input
recording_by (Bad fault) width height input lines = bad_recording width height fault
recording_by (Recorded version columns rows has_own_term) width height input lines =
    recording_read columns rows has_own_term (lines_read 2 (reading_first version) lines)

-- an input of lines
abbrev pub recording_in : ℕ → ℕ → List ℕ → List (List ℕ) → Recording
recording_in width height input [] = bytes_recording width height input
recording_in width height input (line ∷ lines) = recording_by (head_of line) width height input lines

-- an input that is one object with the version 1 is a header, and has its events in the list `stdout`
abbrev pub whole_head : Option ℕ → Json → Head
whole_head None whole = Bytes
whole_head (Some version) whole = if version == 1 then flat_head One whole else Bytes

abbrev pub whole_by : Head → ℕ → ℕ → Json → Option Recording
whole_by Bytes width height whole = None
whole_by (Bad fault) width height whole = Some (bad_recording width height fault)
whole_by (Recorded version columns rows has_own_term) width height whole =
    Some (recording_read columns rows has_own_term
    (list_read (option_and_then as_array (get (codes "stdout") whole)) (reading_first version)))

-- the recording of version 1 that an input is, if it is one
abbrev pub whole_recording : ℕ → ℕ → Option Json → Option Recording
whole_recording width height None = None
whole_recording width height (Some whole) =
    whole_by (whole_head (member_of count_of (codes "version") whole) whole) width height whole

-- the recording in an input; the width and the height are for an input without a header
unfoldable pub recording_of : ℕ → ℕ → List ℕ → Recording
recording_of width height input =
    unwrap_or (whole_recording width height (json_of input)) (recording_in width height input (lines_of input))
