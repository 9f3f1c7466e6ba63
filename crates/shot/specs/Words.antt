-- The options in the texts of a command line.
use Rattle.std.specs.Prelude.{◌==◌, Bool, true, false, Option, Some, None, Result, Ok, Err, ℕ, codes}
use Rattle.std.specs.Prelude.{option_map, if◌then◌else◌}
use Rattle.std.specs.Option.{option_map_or}
use Rattle.std.specs.Str.{bytes_eq}
use Rattle.clap.specs.Words.{Text, kind_of}
use Rattle.clap.specs.declared.error.kind.ErrorKind.{ErrorKind}
use Rattle.recordings.specs.Numerals.{time_of}
use Rattle.recordings.specs.declared.fault.BadLine.{BadLine}
use Rattle.recordings.specs.declared.fault.Fault.{Fault}
use Rattle.recordings.specs.declared.fault.Fault.TheVariants.{CutOff}
use Rattle.shot.specs.declared.format.Format.{Format}
use Rattle.shot.specs.declared.format.Format.TheVariants as form
use Rattle.shot.specs.Names.{Numbered, numbered_in, numbered_of}
use Rattle.shot.specs.declared.names.Numbered.{Numbered as Kept}
use Rattle.shot.specs.declared.options.BadWords.{BadWords}
use Rattle.shot.specs.declared.options.BadWords.TheVariants.{Command, Output, Seconds}
use Rattle.shot.specs.declared.shots.Shots.{Shots}
use Rattle.terminal_steps.specs.declared.profile.Profile.{Profile}
use Rattle.terminal_steps.specs.declared.profile.Profile.TheVariants.{Plain, Xterm}

-- the form of a name; `Text` for any other name
unfoldable pub format_of : Text → Format
format_of name =
    if bytes_eq name (codes "ansi") then form.Ansi
    else (if bytes_eq name (codes "html") then form.Html
    else (if bytes_eq name (codes "svg") then form.Svg
    else (if bytes_eq name (codes "json") then form.Json else form.Text)))

-- the profile of a name, if it is one
unfoldable pub profile_named : Text → Option Profile
profile_named name =
    if bytes_eq name (codes "plain") then Some Plain else (if bytes_eq name (codes "xterm") then Some Xterm else None)

-- ---- `--partial`

-- whether an option that takes no value is given: then it has the text `true`
unfoldable pub is_given : Option Text → Bool
is_given None = false
is_given (Some text) = bytes_eq text (codes "true")

abbrev pub is_cut_off : Fault → Bool
is_cut_off CutOff = true
is_cut_off _ = false

-- the fault that is left of a recording's: under `--partial` none, where the recording is cut off in its last line
abbrev pub fault_left : Bool → Option BadLine → Option BadLine
fault_left is_partial None = None
fault_left false (Some bad) = Some bad
fault_left true (Some bad) = if is_cut_off bad.fault then None else Some bad

-- ---- what is read, or why it is refused

-- the option whose value is wrong, if this is why the words are refused
abbrev pub option_of : BadWords → Option Text
option_of (Command error) = None
option_of (Seconds option) = Some option.now
option_of Output = Some (codes "output")

-- the kind of error of the command line's parser, if this is why the words are refused
abbrev pub kind_in : BadWords → Option ErrorKind
kind_in (Command error) = Some (kind_of error)
kind_in (Seconds option) = None
kind_in Output = None

-- a value that is read from words, or the option that they are refused for
abbrev pub Reading : Type 0 → Type 0
Reading A = Result A (Option Text)

abbrev pub reading_of : {A : Type 0} → Result A BadWords → Reading A
reading_of (Ok read) = Ok read
reading_of (Err words) = Err (option_of words)

-- ---- `--output`

-- a name that has no place for a number is refused
abbrev pub output_by : Option Numbered → Reading (Option Numbered)
output_by None = Err (Some (codes "output"))
output_by (Some name) = Ok (Some name)

-- the name of the files of the option's text
unfoldable pub output_of : Option Text → Reading (Option Numbered)
output_of None = Ok None
output_of (Some text) = output_by (numbered_in text)

abbrev pub output_read : Result (Option Kept) BadWords → Reading (Option Numbered)
output_read (Ok name) = Ok (option_map numbered_of name)
output_read (Err words) = Err (option_of words)

-- ---- the screens

-- the microseconds of an option's text, refused where the text is no time
abbrev pub time_by : Text → Option ℕ → Reading (Option ℕ)
time_by option None = Err (Some option)
time_by option (Some time) = Ok (Some time)

unfoldable pub seconds_of : Text → Option Text → Reading (Option ℕ)
seconds_of option None = Ok None
seconds_of option (Some text) = time_by option (time_of text)

-- the request with a step, which must not be 0; without one the step is 0
abbrev pub with_step : Format → Option ℕ → Reading (Option ℕ) → Reading Shots
with_step format at (Err option) = Err option
with_step format at (Ok None) = Ok (record { format = format; at = at; step = 0 })
with_step format at (Ok (Some step)) =
    if step == 0 then Err (Some (codes "step")) else Ok (record { format = format; at = at; step = step })

abbrev pub with_times : Format → Reading (Option ℕ) → Reading (Option ℕ) → Reading Shots
with_times format (Err option) step = Err option
with_times format (Ok at) step = with_step format at step

-- the request of the texts of the options `format`, `at` and `step`
unfoldable pub asked_by : Option Text → Option Text → Option Text → Reading Shots
asked_by format at step =
    with_times (option_map_or format_of format form.Text) (seconds_of (codes "at") at) (seconds_of (codes "step") step)
