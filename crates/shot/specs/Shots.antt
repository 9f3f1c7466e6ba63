-- The screens that are written of a recording, and their times.
use Rattle.std.specs.Prelude.{ℕ, zero, suc, ◌+◌, ◌-◌, ◌/◌, ◌==◌, Bool, nat_le, nat_lt, ◌||◌, ◌&&◌, not, List, []}
use Rattle.std.specs.Prelude.{◌∷◌, ◌++◌, Option, Some, None, is_some, length, map, slice_index, unwrap_or}
use Rattle.std.specs.Prelude.{if◌then◌else◌}
use Rattle.cell_base.specs.Screen.{Screen}
use Rattle.recordings.specs.Events as recorded
use Rattle.recordings.specs.Recordings.{Recording}
use Rattle.shot.specs.Pictures.{between, picture}
use Rattle.shot.specs.Play.{screens_at}
use Rattle.shot.specs.Sinks.{lead}
use Rattle.shot.specs.declared.format.Format.{Format}
use Rattle.shot.specs.Words.{fault_left}
use Rattle.shot.specs.declared.options.Options.{Options}
use Rattle.terminal_steps.specs.ProfileView.{modes_of}
use Rattle.terminal_steps.specs.declared.profile.Profile.{Profile}
use Rattle.terminal_steps.specs.declared.profile.Profile.TheVariants.{Plain, Xterm}
use Rattle.terminal_table.specs.Meaning.{View, new_view_with}

-- the time of the last event, or 0
abbrev pub last_time : List recorded.Event → ℕ
last_time events = slice_index (map (λ (event : recorded.Event). event.time) events) (length events - 1)

-- the requested time, or that of the last event
abbrev pub end_of : Option ℕ → List recorded.Event → ℕ
end_of at events = unwrap_or at (last_time events)

-- whether all events up to the end are known: after a line that is wrong there may be more events at the last time
abbrev pub is_known : Option ℕ → Recording → Bool
is_known at recording =
    not (is_some recording.fault) || nat_lt (end_of at recording.events) (last_time recording.events)

-- how many multiples of a step from 1 on are below a time; of a step 0 none
abbrev pub count_below : ℕ → ℕ → ℕ
count_below step time = if step == 0 then 0 else (time - 1) / step

-- `count` times, each a step after the one before it, and then `remaining`; all in microseconds
abbrev pub times_after : ℕ → ℕ → ℕ → List ℕ → List ℕ
times_after time step zero remaining = remaining
times_after time step (suc count) remaining = (time + step) ∷ times_after (time + step) step count remaining

-- the multiples of a step below a time, and then `remaining`
abbrev pub multiples : ℕ → ℕ → List ℕ → List ℕ
multiples step time remaining = times_after 0 step (count_below step time) remaining

-- the times of the screens: the multiples of the step below the end, and the end; of a recording with a line that is
-- wrong those whose events are all known
abbrev pub times_of : Option ℕ → ℕ → Recording → List ℕ
times_of at step recording =
    if is_known at recording then multiples step (end_of at recording.events) (end_of at recording.events ∷ [])
    else multiples step (last_time recording.events) []

-- a screen after `number` other ones, and before it what parts it from them
abbrev pub parted : Format → ℕ → Screen → List ℕ
parted format number screen = lead number (between format) ++ picture format screen

-- screens one after another, after `number` other ones
abbrev pub joined : Format → ℕ → List Screen → List ℕ
joined format number [] = []
joined format number (screen ∷ screens) = parted format number screen ++ joined format (number + 1) screens

-- the screens at some times, from a view, after `number` other ones
abbrev pub pictures_after : ℕ → Format → View → List recorded.Event → List ℕ → List ℕ
pictures_after number format view events times = joined format number (screens_at view events times)

abbrev pub pictures : Format → View → List recorded.Event → List ℕ → List ℕ
pictures format view events times = pictures_after 0 format view events times

-- the view of a new terminal of a profile, of the recording's size
abbrev pub first_view : Profile → Recording → View
first_view profile recording = new_view_with (modes_of profile) recording.width recording.height

unfoldable pub shots : Format → Option ℕ → ℕ → Profile → Recording → List ℕ
shots format at step profile recording =
    pictures format (first_view profile recording) recording.events (times_of at step recording)

-- the profile that is given, or else that of the recording's TERM: plain for the project's own, and xterm for any other
-- and where none is known
abbrev pub profile_for : Option Profile → Bool → Profile
profile_for (Some profile) has_own_term = profile
profile_for None has_own_term = if has_own_term then Plain else Xterm

-- a number of columns or rows from the command line, if it is from 1 to 4096, or else the recording's
abbrev pub chosen : ℕ → Option ℕ → ℕ
chosen other None = other
chosen other (Some given) = if nat_lt 0 given && nat_le given 4096 then given else other

-- a recording with the size of the command line in place of its size at first
abbrev pub with_size : Option ℕ → Option ℕ → Recording → Recording
with_size width height recording =
    record recording { width = chosen recording.width width; height = chosen recording.height height }

-- a recording with the fault that `--partial` leaves
abbrev pub with_part : Bool → Recording → Recording
with_part is_partial recording = record recording { fault = fault_left is_partial recording.fault }

-- the screens that the options ask for of a recording
abbrev pub shots_for : Options → Recording → List ℕ
shots_for options recording =
    shots options.asked.format options.asked.at options.asked.step (profile_for options.profile recording.has_own_term)
    (with_size options.width options.height (with_part options.is_partial recording))
