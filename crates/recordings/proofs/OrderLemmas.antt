-- The events that are read of a recording are in the order of their times.
use Rattle.std.proofs.Common.{◌≡◌, ◌≤◌, ℕ, ◌+◌, Bool, true, false, List, [], ◌∷◌, ◌++◌, Option, Some, None, Result, Ok, Err, refl, sym, ap, subst, ◌∙◌, arith, append_assoc, append-nil, if◌then◌else◌}
use Rattle.std.specs.Prelude.{◌||◌, ◌==◌, codes, is_some, length, nat_le, nat_lt, option_and_then, unwrap_or}
use Rattle.std.proofs.lemmas.Bool.{leb-true}
use Rattle.json.specs.Find.{as_array, get}
use Rattle.json.specs.Json.{Json, Items, no_items, item}
use Rattle.recordings.specs.Events.{Act, Event, Entry, delayed_entry, entry_in, json_of}
use Rattle.recordings.specs.Numerals.{count_of, too_late}
use Rattle.recordings.specs.Order.{AreFrom}
use Rattle.recordings.specs.Recordings.{Head, Bytes, Bad, Recorded, Reader, Recording, head_of, is_passed_over, item_read, items_read, line_read, lines_of, lines_read, list_read, member_of, reading_first, recording_by, recording_in, recording_of, time_after, whole_by, whole_head, whole_recording, with_act, with_entry, with_time, with_value}
use Rattle.recordings.specs.declared.fault.Fault.{Fault}
use Rattle.recordings.specs.declared.fault.Fault.TheVariants.{Back, Late}
use Rattle.recordings.specs.declared.header.Version.{Version}
use Rattle.recordings.specs.declared.header.Version.TheVariants.{One, Two, Three}

-- events are added, none before the time of the last one
record Adds (before after : Reader) : Type 0 where
  pub more : List Event
  pub events : after.events ≡ before.events ++ more
  -- whatever follows them is in order with them
  pub goes : (remaining : List Event) → AreFrom after.time remaining → AreFrom before.time (more ++ remaining)

later : (early late : ℕ) (events : List Event) → early ≤ late → AreFrom late events → AreFrom early events
later early late [] h from = tt
later early late (event ∷ events) h from = (omega (arith, h, from.0), from.1)

-- no event is added, and the time doesn't fall
stays : (before after : Reader) → after.events ≡ before.events → before.time ≤ after.time → Adds before after
stays before after same h = record {
  more = [];
  events = same ∙ sym (append-nil before.events);
  goes = λ remaining from. later before.time after.time remaining h from;
}

acted : (before : Reader) (time : ℕ) (act : Option Act) → before.time ≤ time → Adds before (with_act time act before)
acted before time None h = stays before (with_act time None before) refl h
acted before time (Some act) h = record {
  more = record { time = time; act = act } ∷ [];
  events = refl;
  goes = λ remaining from. (h, from);
}

-- a sum of times is not before the first one
summed : (before time now : ℕ) → (if nat_lt (before + time) too_late then Ok (before + time) else Err Late) ≡ Ok now → before ≤ now
summed before time now e = by_test (nat_lt (before + time) too_late) e
  where
    by_test : (b : Bool) → (if b then Ok (before + time) else Err Late) ≡ Ok now → before ≤ now
    by_test true same = let is : before + time ≡ now = cc in omega (arith, is)
    by_test false same = absurd cc

-- the time that is read is not before the one that precedes it
not_before : (version : Version) (before time : ℕ) (is_done : Bool) (now : ℕ) → time_after version before time is_done ≡ Ok now → before ≤ now
not_before Two before time false now e = let same : before ≡ now = cc in omega (arith, same)
not_before Two before time true now e = by_test (nat_le before time) refl e
  where
    by_test : (b : Bool) → nat_le before time ≡ b → (if b then Ok time else Err Back) ≡ Ok now → before ≤ now
    by_test true test same = let is : time ≡ now = cc in let h : before ≤ time = leb-true before time test in omega (arith, is, h)
    by_test false test same = absurd cc
not_before One before time is_done now e = summed before time now e
not_before Three before time is_done now e = summed before time now e

timed : (number : ℕ) (before : Reader) (r : Result ℕ Fault) (act : Option Act) → ((now : ℕ) → r ≡ Ok now → before.time ≤ now) → Adds before (with_time number r act before)
timed number before (Err fault) act h = stays before (with_time number (Err fault) act before) refl (omega arith)
timed number before (Ok now) act h = acted before now act (h now refl)

entered : (number : ℕ) (before : Reader) (r : Result Entry Fault) → Adds before (with_entry number r before)
entered number before (Err fault) = stays before (with_entry number (Err fault) before) refl (omega arith)
entered number before (Ok entry) =
    timed number before (time_after before.version before.time entry.time (is_some entry.act)) entry.act
    (λ now e. not_before before.version before.time entry.time (is_some entry.act) now e)

valued : (number : ℕ) (is_last : Bool) (before : Reader) (value : Option Json) → Adds before (with_value number is_last value before)
valued number is_last before None = stays before (with_value number is_last None before) refl (omega arith)
valued number is_last before (Some event) = entered number before (entry_in event)

line_adds : (number : ℕ) (is_last : Bool) (before : Reader) (line : List ℕ) → Adds before (line_read number is_last before line)
unfolding line_read
line_adds number is_last before line = by_test (is_some before.fault || is_passed_over before.version line)
  where
    by_test : (b : Bool) → Adds before (if b then before else with_value number is_last (json_of line) before)
    by_test true = stays before before refl (omega arith)
    by_test false = valued number is_last before (json_of line)

-- what is added at first, and then after that
adds_both : (before between after : Reader) → Adds before between → Adds between after → Adds before after
adds_both before between after first remaining = record {
  more = first.more ++ remaining.more;
  events = remaining.events ∙ ap (λ es. es ++ remaining.more) first.events ∙ append_assoc before.events first.more remaining.more;
  goes = λ es from. subst (AreFrom before.time) (sym (append_assoc first.more remaining.more es)) (first.goes (remaining.more ++ es) (remaining.goes es from));
}

lines_add : (number : ℕ) (before : Reader) (lines : List (List ℕ)) → Adds before (lines_read number before lines)
lines_add number before [] = stays before before refl (omega arith)
lines_add number before (line ∷ lines) =
    adds_both before (line_read number (length lines == 0) before line)
    (lines_read (number + 1) (line_read number (length lines == 0) before line) lines)
    (line_adds number (length lines == 0) before line)
    (lines_add (number + 1) (line_read number (length lines == 0) before line) lines)

item_adds : (before : Reader) (event : Json) → Adds before (item_read before event)
unfolding item_read
item_adds before event = by_test (is_some before.fault)
  where
    by_test : (b : Bool) → Adds before (if b then before else with_entry 1 (delayed_entry event) before)
    by_test true = stays before before refl (omega arith)
    by_test false = entered 1 before (delayed_entry event)

items_add : (before : Reader) (events : Items) → Adds before (items_read before events)
items_add before no_items = stays before before refl (omega arith)
items_add before (item event events) =
    adds_both before (item_read before event) (items_read (item_read before event) events) (item_adds before event)
    (items_add (item_read before event) events)

list_adds : (events : Option Items) (before : Reader) → Adds before (list_read events before)
list_adds None before = stays before (list_read None before) refl (omega arith)
list_adds (Some events) before = items_add before events

-- what is added to nothing is in order
read_in_order : (version : Version) (after : Reader) → Adds (reading_first version) after → AreFrom 0 after.events
read_in_order version after adds = subst (AreFrom 0) (append-nil adds.more ∙ sym adds.events) (adds.goes [] tt)

by_head : (head : Head) (width height : ℕ) (input : List ℕ) (lines : List (List ℕ)) → AreFrom 0 (recording_by head width height input lines).events
by_head Bytes width height input lines = (omega arith, tt)
by_head (Bad fault) width height input lines = tt
by_head (Recorded version columns rows own) width height input lines =
    read_in_order version (lines_read 2 (reading_first version) lines) (lines_add 2 (reading_first version) lines)

by_lines : (width height : ℕ) (input : List ℕ) (lines : List (List ℕ)) → AreFrom 0 (recording_in width height input lines).events
by_lines width height input [] = (omega arith, tt)
by_lines width height input (line ∷ lines) = by_head (head_of line) width height input lines

by_whole_head : (head : Head) (width height : ℕ) (whole : Json) (other : Recording) → AreFrom 0 other.events → AreFrom 0 (unwrap_or (whole_by head width height whole) other).events
by_whole_head Bytes width height whole other h = h
by_whole_head (Bad fault) width height whole other h = tt
by_whole_head (Recorded version columns rows own) width height whole other h =
    let events = option_and_then as_array (get (codes "stdout") whole) in
    read_in_order version (list_read events (reading_first version)) (list_adds events (reading_first version))

by_whole : (whole : Option Json) (width height : ℕ) (other : Recording) → AreFrom 0 other.events → AreFrom 0 (unwrap_or (whole_recording width height whole) other).events
by_whole None width height other h = h
by_whole (Some whole) width height other h = by_whole_head (whole_head (member_of count_of (codes "version") whole) whole) width height whole other h

pub recordings_in_order : (width height : ℕ) (input : List ℕ) → AreFrom 0 (recording_of width height input).events
unfolding recording_of
recordings_in_order width height input =
    by_whole (json_of input) width height (recording_in width height input (lines_of input)) (by_lines width height input (lines_of input))
