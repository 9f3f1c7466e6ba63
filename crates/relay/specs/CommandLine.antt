-- The command line of the program: its options, and the values that words give them, as the kit's `clap` reads words.
use Rattle.std.specs.Prelude.{◌≢◌, ℕ, pos, Bool, ◌&&◌, ◌||◌, nat_lt, nat_le, true, false, List, [], ◌∷◌, Option, Some}
use Rattle.std.specs.Prelude.{None, find}
use Rattle.std.specs.Prelude.{◌≡◌, ◌⊎◌, Result, Ok, Err, MatchResult, codes, if◌then◌else◌, option_and_then, unwrap_or}
use Rattle.std.specs.Str.{bytes_eq}
use Rattle.std.specs.Str.Parse.{digits_value, without_leading_plus}
use Rattle.clap.specs.Simple.{on_top}
use Rattle.clap.specs.ValueTests.{is_unsigned_in}
use Rattle.clap.specs.Kinds.{or_else}
use Rattle.clap.specs.Words.{App, IsAmong, Row, Rule, Text, Kinds, new_app, new_rule, with_rule, matches_of, one_of}
use Rattle.clap.specs.Words.{fault_of, first_of, kind_of}
use Rattle.clap.specs.declared.error.kind.ErrorKind.{ErrorKind}
use Rattle.clap.specs.declared.error.kind.ErrorKind.TheVariants as kind
use Rattle.clap.specs.declared.builder.action.ArgAction.TheVariants.{SetTrue}
use Rattle.clap.specs.declared.builder.value_parser.ValueParser.TheVariants as value_parser
use Rattle.clap.specs.declared.parser.matches.ValueSource.{ValueSource}
use Rattle.clap.specs.declared.parser.matches.ValueSource.TheVariants as source
use Rattle.relay.specs.declared.options.BadWords.{BadWords}
use Rattle.relay.specs.declared.options.BadWords.TheVariants.{Command, Terminal, Conflict}
use Rattle.terminal_steps.specs.declared.profile.Profile.{Profile}
use Rattle.terminal_steps.specs.declared.profile.Profile.TheVariants.{Plain, Xterm}

-- an option whose value is a number from 1 to `most`
abbrev pub number_rule : Text → Text → ℕ → Rule
number_rule name default most =
    record (new_rule name) {
      long = Some name;
      value_names = 1;
      defaults = default ∷ [];
      parser = Some (value_parser.Signed (pos 1) (pos most));
    }

-- an option whose value is any text
abbrev pub text_rule : Text → Text → Rule
text_rule name default =
    record (new_rule name) { long = Some name; value_names = 1; defaults = default ∷ [] }

-- an option without a value
abbrev pub flag_rule : Text → Rule
flag_rule name = record (new_rule name) { long = Some name; action = Some SetTrue }

-- the program with a name and a version
abbrev pub named : App
named = on_top (λ shape. record shape { has_version = true }) (new_app (codes "relay"))

-- the program with its six options
unfoldable pub command_line : App
command_line =
    with_rule (with_rule (with_rule (with_rule (with_rule (with_rule named
    (number_rule (codes "width") (codes "80") 4096))
    (number_rule (codes "height") (codes "24") 4096))
    (text_rule (codes "terminal") (codes "plain")))
    (number_rule (codes "every") (codes "4096") 4294967295))
    (flag_rule (codes "show")))
    (flag_rule (codes "live"))

-- one of some kinds of error is a mistake, and no request for help or for the version
abbrev pub HasMistake : Kinds → Type 0
HasMistake kinds = (k : ErrorKind) × IsAmong k kinds × (k ≢ kind.DisplayHelp) × (k ≢ kind.DisplayVersion)

-- the profile of a name, if it is one
unfoldable pub profile_named : Text → Option Profile
profile_named name =
    if bytes_eq name (codes "plain") then Some Plain else (if bytes_eq name (codes "xterm") then Some Xterm else None)

-- the profile that the words name, or `plain` where they name none; `None` for a name that is no profile's
unfoldable pub terminal_in : List Text → Option Profile
terminal_in words = option_and_then profile_named (first_of (codes "terminal") (matches_of command_line words))

abbrev pub name_faults : Option Profile → Kinds
name_faults None = kind.InvalidValue ∷ []
name_faults (Some profile) = []

-- the kind of the error for which words are refused
abbrev pub kind_in : BadWords → ErrorKind
kind_in (Command error) = kind_of error
kind_in (Terminal name) = kind.InvalidValue
kind_in Conflict = kind.ArgumentConflict

-- the profile that was read; `None` where its name is refused
abbrev pub profile_read : Result Profile BadWords → Option Profile
profile_read (Ok profile) = Some profile
profile_read (Err bad) = None

-- memory ran out, or the words are refused for one of some kinds
abbrev pub IsRefusedFor : Kinds → BadWords → Type 0
IsRefusedFor kinds bad = (kind_in bad ≡ kind.OutOfMemory) ⊎ IsAmong (kind_in bad) kinds

-- words are read only where no kind of error comes, and are refused for one of the kinds
abbrev pub RefusesFor : {T : Type 0} → Kinds → Result T BadWords → Type 0
RefusesFor kinds result = MatchResult result (λ _. kinds ≡ []) (IsRefusedFor kinds)

-- the text that the words give an option, or its default
unfoldable pub text_in : List Text → Text → Option Text
text_in words name = one_of name (matches_of command_line words)

-- the number of a text, if it is one from 1 to `most`, or else the default
unfoldable pub number_or : ℕ → ℕ → Option Text → ℕ
number_or default most None = default
number_or default most (Some text) =
    if is_unsigned_in 1 most text then digits_value 10 (without_leading_plus text) else default

-- a number that was read, if it is from 1 to `most`, or else the default
abbrev pub chosen : ℕ → ℕ → Option ℕ → ℕ
chosen default most None = default
chosen default most (Some n) = if nat_lt 0 n && nat_le n most then n else default

abbrev pub width_in : List Text → ℕ
width_in words = number_or 80 4096 (text_in words (codes "width"))

abbrev pub height_in : List Text → ℕ
height_in words = number_or 24 4096 (text_in words (codes "height"))

abbrev pub every_in : List Text → ℕ
every_in words = number_or 4096 4294967295 (text_in words (codes "every"))

-- whether an option has the text `true`
unfoldable pub is_true : Option Text → Bool
is_true None = false
is_true (Some text) = bytes_eq text (codes "true")

abbrev pub show_in : List Text → Bool
show_in words = is_true (text_in words (codes "show"))

abbrev pub live_in : List Text → Bool
live_in words = is_true (text_in words (codes "live"))

-- the values were given by the words, and are no default
abbrev pub is_of_words : Option ValueSource → Bool
is_of_words (Some source.CommandLine) = true
is_of_words _ = false

-- where the values of an option come from
abbrev pub source_of : Text → List Row → Option ValueSource
source_of name rows = option_and_then (λ (r : Row). r.source) (find (λ r. bytes_eq r.id name) rows)

-- whether the words give an option
unfoldable pub is_given : List Text → Text → Bool
is_given words name = is_of_words (source_of name (matches_of command_line words))

-- whether `--live` is given with `--every` or `--show`, by which other updates or none are written
abbrev pub has_conflict : List Text → Bool
has_conflict words = live_in words && (is_given words (codes "every") || show_in words)

abbrev pub conflict_faults : Bool → Kinds
conflict_faults true = kind.ArgumentConflict ∷ []
conflict_faults false = []

-- the kinds of error that the words may give: none where they are a command line to run
unfoldable pub faults_in : List Text → Kinds
faults_in words =
    or_else (fault_of command_line words)
    (or_else (name_faults (terminal_in words)) (conflict_faults (has_conflict words)))

-- what a command line asks for
pub record Asked : Type 0 where
  pub width : ℕ
  pub height : ℕ
  pub profile : Profile
  pub every : ℕ
  pub is_show : Bool
  pub is_live : Bool

unfoldable pub asked_in : List Text → Asked
asked_in words = record {
  width = width_in words;
  height = height_in words;
  profile = unwrap_or (terminal_in words) Plain;
  every = every_in words;
  is_show = show_in words;
  is_live = live_in words;
}
