-- The event that a line of a recording has: asciicast, versions 2 and 3; and one of version 1.
use Rattle.std.specs.Prelude.{Bool, ℕ, ◌==◌, List, Option, Some, None, Result, Ok, Err, codes, length, nat_lt}
use Rattle.std.specs.Prelude.{option_and_then, if◌then◌else◌}
use Rattle.std.specs.List.{after_first, before_first, position_or_len}
use Rattle.std.specs.Str.{bytes_eq, is_utf8}
use Rattle.json.specs.Find.{as_number, as_str, at}
use Rattle.json.specs.Json.{Json, document}
use Rattle.recordings.specs.Numerals.{size_of, time_of}
use Rattle.recordings.specs.declared.fault.Fault.{Fault}
use Rattle.recordings.specs.declared.fault.Fault.TheVariants.{Code, Data, Size, Time}

-- the value of a line that is UTF-8 and JSON
abbrev pub json_of : List ℕ → Option Json
json_of line = if is_utf8 line then document line else None

-- the application writes bytes, or the terminal takes a new size
pub data Act : Type 0 where
  Output : List ℕ → Act
  Resize : ℕ → ℕ → Act

-- an act at its time, in microseconds from the beginning
pub record Event : Type 0 where
  pub time : ℕ
  pub act : Act

-- the time and the act of an event, the time in microseconds: in version 2 from the beginning, in versions 1 and 3 from
-- the event before it; no act where the event's code is neither `o` nor `r`
pub record Entry : Type 0 where
  pub time : ℕ
  pub act : Option Act

-- ---- acts

-- a resize, where both columns and rows are known
abbrev pub sized : Option ℕ → Option ℕ → Option Act
sized None rows = None
sized (Some width) None = None
sized (Some width) (Some height) = Some (Resize width height)

abbrev pub is_x : ℕ → Bool
is_x byte = byte == 120

-- the size in a text like 80x24
unfoldable pub resize_of : List ℕ → Option Act
resize_of text =
    if nat_lt (position_or_len is_x text) (length text)
    then sized (size_of (before_first is_x text)) (size_of (after_first is_x text))
    else None

abbrev pub output_in : Option (List ℕ) → Result (Option Act) Fault
output_in None = Err Data
output_in (Some bytes) = Ok (Some (Output bytes))

abbrev pub resize_in : Option Act → Result (Option Act) Fault
resize_in None = Err Size
resize_in (Some act) = Ok (Some act)

-- the act of an event, by its code and its text
unfoldable pub act_in : List ℕ → Option (List ℕ) → Result (Option Act) Fault
act_in code text =
    if bytes_eq code (codes "o") then output_in text
    else (if bytes_eq code (codes "r") then resize_in (option_and_then resize_of text) else Ok None)

-- ---- [time, code, data]

abbrev pub entry_at : ℕ → Result (Option Act) Fault → Result Entry Fault
entry_at time (Err fault) = Err fault
entry_at time (Ok act) = Ok (record { time = time; act = act })

abbrev pub entry_with : Option ℕ → Option (List ℕ) → Option (List ℕ) → Result Entry Fault
entry_with None code text = Err Time
entry_with (Some time) None text = Err Code
entry_with (Some time) (Some code) text = entry_at time (act_in code text)

abbrev pub text_at : ℕ → Json → Option (List ℕ)
text_at n event = option_and_then as_str (at n event)

abbrev pub time_in : Json → Option ℕ
time_in event = option_and_then time_of (option_and_then as_number (at 0 event))

unfoldable pub entry_in : Json → Result Entry Fault
entry_in event = entry_with (time_in event) (text_at 1 event) (text_at 2 event)

-- ---- [delay, data], in version 1

abbrev pub output_after : Option ℕ → Option (List ℕ) → Result Entry Fault
output_after None text = Err Time
output_after (Some delay) text = entry_at delay (output_in text)

unfoldable pub delayed_entry : Json → Result Entry Fault
delayed_entry event = output_after (time_in event) (text_at 1 event)
