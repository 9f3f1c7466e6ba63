-- Words that give options: they have no fault, and the parser reads their texts.
use Rattle.std.proofs.Common.{◌≡◌, ◌∙◌, ◌&&◌, ◌||◌, List, [], ◌∷◌, Bool, true, false, cond, Option, Some, None, inl, inr, is_some, refl, ap, arith, sym, true≢false, codes, map}
use Rattle.std.specs.Prelude.{drop, flat_map, fold, option_and_then, slice_get}
use Rattle.std.specs.List.{AllByRecursion, IsDistinct}
use Rattle.std.specs.Str.{bytes_eq}
use Rattle.std.proofs.lemmas.Slice.Eq.{bytes_eq-Decides}
use Rattle.clap.specs.Faults.{check_fault, defaults_fault, entered_fault, given_default_fault, settle_fault, walk_fault}
use Rattle.clap.specs.Kinds.{Kinds, or_else}
use Rattle.clap.specs.Simple.{App, built, entered, matches_of}
use Rattle.clap.specs.Words.{fault_of}
use Rattle.terminal_steps.specs.declared.profile.Profile.{Profile}
use Rattle.terminal_steps.specs.declared.profile.Profile.TheVariants.{Plain, Xterm}
use Rattle.clap.specs.Walk.{Held, Row, Rule, Text, finished, has_row, is_empty, nothing_held, row_text, settled, walk, with_default}
use Rattle.relay.specs.CommandLine.{command_line, conflict_faults, faults_in, has_conflict, is_given, is_of_words, is_true, name_faults, number_or, profile_named, terminal_in, text_in, width_in, height_in, every_in, show_in, live_in}
use Rattle.relay.specs.Settings.{Setting, Width, Height, Terminal, Every, Show, Live, IsCommandLine, IsInRange, IsProfile, has_every, name_of, width_given, height_given, profile_given, every_given, show_given, live_given}
use Rattle.relay.proofs.SettingFaults.{GivenAfter, Takes, or_else_nil, rows_found, some_fault, walk_gives}
use Rattle.relay.proofs.SettingNumbers.{plain_number}
use Rattle.relay.proofs.SettingRows.{default_rows_of, defaults_found, find_row, or_row, row_for}
use Rattle.relay.proofs.SettingWalk.{between, held, line, walk_ends}

-- ---- faults

abbrev PassesDefault : Rule → Type 0
PassesDefault a = cond (is_empty a.defaults) [] (given_default_fault a a.defaults) ≡ []

defaults_pass : (rules : List Rule) (rows : List Row) → AllByRecursion PassesDefault rules → defaults_fault rows rules ≡ []
unfolding defaults_fault
defaults_pass [] rows passes = refl
defaults_pass (a ∷ rules) rows passes =
    ap (λ kinds. or_else kinds (defaults_fault (with_default rows a) rules)) (by_test (has_row a.id rows) (is_empty a.defaults) passes.0)
    ∙ defaults_pass rules (with_default rows a) passes.1
  where
    by_test : (t u : Bool) → cond u [] (given_default_fault a a.defaults) ≡ [] → cond (t || u) [] (given_default_fault a a.defaults) ≡ []
    by_test true u p = refl
    by_test false u p = p

-- no default is refused
no_default_fault : (rows : List Row) → defaults_fault rows line.rules ≡ []
unfolding command_line
no_default_fault rows = defaults_pass line.rules rows (refl, (refl, (refl, (refl, (refl, (refl, (refl, (refl, tt))))))))

-- the faults of a walk, or else those found after it
abbrev faults_after : Held → Option (Text × List Text) → Kinds → Kinds
faults_after h stopped kinds =
    let app : App = built command_line in
    or_else kinds (or_else (entered_fault app stopped) (or_else (settle_fault line.rules line.args_override_self h)
    (or_else (defaults_fault (settled line.rules h).rows line.rules) (check_fault line (finished line.rules h) (is_some (entered app stopped))))))

parsed : (words : List Text) → IsCommandLine (drop 1 words) → fault_of command_line words ≡ []
unfolding command_line
parsed words given =
    let end = walk_ends given.settings (drop 1 words) given.in_range given.once given.given in
    (λ i. faults_after (end.held_is i) (end.stopped_is i) (end.fault i)) ∙ rw (end.settles, no_default_fault (settled line.rules (held end.rows end.pending)).rows) refl

found : (words : List Text) → fault_of command_line words ≡ [] → GivenAfter (between [] None) [] (drop 1 words)
unfolding command_line
found words none =
    let after = drop 1 words in
    let app : App = built command_line in
    let h : Held = (walk line.rules [] nothing_held after).held in
    let stopped = (walk line.rules [] nothing_held after).stopped in
    let last = or_else (defaults_fault (settled line.rules h).rows line.rules) (check_fault line (finished line.rules h) (is_some (entered app stopped))) in
    let first = or_else_nil (walk_fault line [] (between [] None) after) (or_else (entered_fault app stopped) (or_else (settle_fault line.rules false h) last)) none in
    let second = or_else_nil (entered_fault app stopped) (or_else (settle_fault line.rules false h) last) first.1 in
    walk_gives after first.0 (or_else_nil (settle_fault line.rules false h) last second.1).0

-- ---- texts

-- the row of an option that is given, or of its default
abbrev row_given : Text → List Setting → Option Row
row_given name settings = or_row (find_row name (map row_for settings)) (find_row name (flat_map default_rows_of line.rules))

row_is : (name : Text) (words : List Text) (settings : List Setting) → rows_found (between [] None) (drop 1 words) ≡ map row_for settings
    → find_row name (matches_of command_line words) ≡ row_given name settings
unfolding command_line
row_is name words settings found =
    ap (λ rows. find_row name (fold with_default rows line.rules)) found ∙ defaults_found name line.rules (map row_for settings)

given_rows : (words : List Text) (given : IsCommandLine (drop 1 words)) → rows_found (between [] None) (drop 1 words) ≡ map row_for given.settings
given_rows words given =
    let end = walk_ends given.settings (drop 1 words) given.in_range given.once given.given in
    ap (λ h. (settled line.rules h).rows) end.held_is ∙ end.rows_are

-- the text of an option that is given, or its default
abbrev text_given : Text → List Setting → Option Text
text_given name settings = option_and_then row_text (row_given name settings)

-- the settings have the rows that the walk over the words finds
abbrev AreFound : List Text → List Setting → Type 0
AreFound words settings = rows_found (between [] None) (drop 1 words) ≡ map row_for settings

text_found : (name : Text) (words : List Text) (settings : List Setting) → AreFound words settings → text_in words name ≡ text_given name settings
unfolding text_in
text_found name words settings found = ap (option_and_then row_text) (row_is name words settings found)

text_is : (name : Text) (words : List Text) (given : IsCommandLine (drop 1 words)) → text_in words name ≡ text_given name given.settings
text_is name words given = text_found name words given.settings (given_rows words given)

width_read : (settings : List Setting) → AllByRecursion IsInRange settings → number_or 80 4096 (text_given (codes "width") settings) ≡ width_given settings
unfolding command_line number_or
width_read [] range = refl
width_read (Width text ∷ remaining) range =
    let plain = plain_number 4096 text (omega arith) range.0 in
    rw (plain.same, plain.unsigned) refl
width_read (Height text ∷ remaining) range = width_read remaining range.1
width_read (Terminal text ∷ remaining) range = width_read remaining range.1
width_read (Every text ∷ remaining) range = width_read remaining range.1
width_read (Show ∷ remaining) range = width_read remaining range.1
width_read (Live ∷ remaining) range = width_read remaining range.1

height_read : (settings : List Setting) → AllByRecursion IsInRange settings → number_or 24 4096 (text_given (codes "height") settings) ≡ height_given settings
unfolding command_line number_or
height_read [] range = refl
height_read (Height text ∷ remaining) range =
    let plain = plain_number 4096 text (omega arith) range.0 in
    rw (plain.same, plain.unsigned) refl
height_read (Width text ∷ remaining) range = height_read remaining range.1
height_read (Terminal text ∷ remaining) range = height_read remaining range.1
height_read (Every text ∷ remaining) range = height_read remaining range.1
height_read (Show ∷ remaining) range = height_read remaining range.1
height_read (Live ∷ remaining) range = height_read remaining range.1

every_read : (settings : List Setting) → AllByRecursion IsInRange settings → number_or 4096 4294967295 (text_given (codes "every") settings) ≡ every_given settings
unfolding command_line number_or
every_read [] range = refl
every_read (Every text ∷ remaining) range =
    let plain = plain_number 4294967295 text (omega arith) range.0 in
    rw (plain.same, plain.unsigned) refl
every_read (Width text ∷ remaining) range = every_read remaining range.1
every_read (Height text ∷ remaining) range = every_read remaining range.1
every_read (Terminal text ∷ remaining) range = every_read remaining range.1
every_read (Show ∷ remaining) range = every_read remaining range.1
every_read (Live ∷ remaining) range = every_read remaining range.1

show_read : (settings : List Setting) → is_true (text_given (codes "show") settings) ≡ show_given settings
unfolding command_line is_true
show_read [] = refl
show_read (Show ∷ remaining) = refl
show_read (Width text ∷ remaining) = show_read remaining
show_read (Height text ∷ remaining) = show_read remaining
show_read (Terminal text ∷ remaining) = show_read remaining
show_read (Every text ∷ remaining) = show_read remaining
show_read (Live ∷ remaining) = show_read remaining

live_read : (settings : List Setting) → is_true (text_given (codes "live") settings) ≡ live_given settings
unfolding command_line is_true
live_read [] = refl
live_read (Live ∷ remaining) = refl
live_read (Width text ∷ remaining) = live_read remaining
live_read (Height text ∷ remaining) = live_read remaining
live_read (Terminal text ∷ remaining) = live_read remaining
live_read (Every text ∷ remaining) = live_read remaining
live_read (Show ∷ remaining) = live_read remaining

-- whether `--every` is given, by the source of its row
every_source : (settings : List Setting) → is_of_words (option_and_then (λ (r : Row). r.source) (row_given (codes "every") settings)) ≡ has_every settings
unfolding command_line
every_source [] = refl
every_source (Every text ∷ remaining) = refl
every_source (Width text ∷ remaining) = every_source remaining
every_source (Height text ∷ remaining) = every_source remaining
every_source (Terminal text ∷ remaining) = every_source remaining
every_source (Show ∷ remaining) = every_source remaining
every_source (Live ∷ remaining) = every_source remaining

pub width_is : (words : List Text) (given : IsCommandLine (drop 1 words)) → width_in words ≡ width_given given.settings
width_is words given = ap (number_or 80 4096) (text_is (codes "width") words given) ∙ width_read given.settings given.in_range

pub height_is : (words : List Text) (given : IsCommandLine (drop 1 words)) → height_in words ≡ height_given given.settings
height_is words given = ap (number_or 24 4096) (text_is (codes "height") words given) ∙ height_read given.settings given.in_range

pub every_is : (words : List Text) (given : IsCommandLine (drop 1 words)) → every_in words ≡ every_given given.settings
every_is words given = ap (number_or 4096 4294967295) (text_is (codes "every") words given) ∙ every_read given.settings given.in_range

pub show_is : (words : List Text) (given : IsCommandLine (drop 1 words)) → show_in words ≡ show_given given.settings
show_is words given = ap is_true (text_is (codes "show") words given) ∙ show_read given.settings

pub live_is : (words : List Text) (given : IsCommandLine (drop 1 words)) → live_in words ≡ live_given given.settings
live_is words given = ap is_true (text_is (codes "live") words given) ∙ live_read given.settings

-- ---- options that exclude each other

every_found : (words : List Text) (settings : List Setting) → AreFound words settings → is_given words (codes "every") ≡ has_every settings
unfolding is_given
every_found words settings found =
    ap (λ row. is_of_words (option_and_then (λ (r : Row). r.source) row)) (row_is (codes "every") words settings found) ∙ every_source settings

conflict_found : (words : List Text) (settings : List Setting) → AreFound words settings
    → has_conflict words ≡ (live_given settings && (has_every settings || show_given settings))
conflict_found words settings found =
    let live = ap is_true (text_found (codes "live") words settings found) ∙ live_read settings in
    let show = ap is_true (text_found (codes "show") words settings found) ∙ show_read settings in
    let every = every_found words settings found in
    λ i. live i && (every i || show i)

conflict_passes : (b : Bool) → conflict_faults b ≡ [] → b ≡ false
conflict_passes true e = absurd (some_fault _ _ e)
conflict_passes false e = refl

-- ---- the profile

-- the profile of the name that is given, or of the default
abbrev named_given : List Setting → Option Profile
named_given settings = option_and_then profile_named (option_and_then (λ (r : Row). slice_get r.values 0) (row_given (codes "terminal") settings))

named_is : (words : List Text) (settings : List Setting) → rows_found (between [] None) (drop 1 words) ≡ map row_for settings → terminal_in words ≡ named_given settings
unfolding terminal_in
named_is words settings found =
    ap (λ row. option_and_then profile_named (option_and_then (λ (r : Row). slice_get r.values 0) row)) (row_is (codes "terminal") words settings found)

name_read : (text : Text) → IsProfile text → profile_named text ≡ Some (profile_given (Terminal text ∷ []))
unfolding profile_named
name_read text (inl is) = rw is refl
name_read text (inr is) = rw is refl

named_read : (settings : List Setting) → AllByRecursion IsInRange settings → named_given settings ≡ Some (profile_given settings)
unfolding command_line
named_read [] range = name_read (codes "plain") (inl refl)
named_read (Terminal text ∷ remaining) range = name_read text range.0
named_read (Width text ∷ remaining) range = named_read remaining range.1
named_read (Height text ∷ remaining) range = named_read remaining range.1
named_read (Every text ∷ remaining) range = named_read remaining range.1
named_read (Show ∷ remaining) range = named_read remaining range.1
named_read (Live ∷ remaining) range = named_read remaining range.1

pub profile_is : (words : List Text) (given : IsCommandLine (drop 1 words)) → terminal_in words ≡ Some (profile_given given.settings)
profile_is words given = named_is words given.settings (given_rows words given) ∙ named_read given.settings given.in_range

-- a name that is read is that of a profile
read_name : (text : Text) → name_faults (profile_named text) ≡ [] → IsProfile text
unfolding profile_named
read_name text none = by_tests (bytes_eq text (codes "plain")) (bytes_eq text (codes "xterm")) refl refl none
  where
    by_tests : (p x : Bool) → bytes_eq text (codes "plain") ≡ p → bytes_eq text (codes "xterm") ≡ x
        → name_faults (cond p (Some Plain) (cond x (Some Xterm) None)) ≡ [] → IsProfile text
    by_tests true x is other none = inl ((bytes_eq-Decides text (codes "plain")).0 is)
    by_tests false true other is none = inr ((bytes_eq-Decides text (codes "xterm")).0 is)
    by_tests false false other another none = absurd (some_fault _ _ none)

abbrev NotNamed : Text → Type 0
NotNamed name = bytes_eq (codes "terminal") name ≡ false

others_in_range : (settings : List Setting) → AllByRecursion Takes settings → AllByRecursion NotNamed (map name_of settings) → AllByRecursion IsInRange settings
others_in_range [] taken other = tt
others_in_range (Terminal text ∷ remaining) taken other = absurd (true≢false other.0)
others_in_range (Width text ∷ remaining) taken other = (taken.0, others_in_range remaining taken.1 other.1)
others_in_range (Height text ∷ remaining) taken other = (taken.0, others_in_range remaining taken.1 other.1)
others_in_range (Every text ∷ remaining) taken other = (taken.0, others_in_range remaining taken.1 other.1)
others_in_range (Show ∷ remaining) taken other = (tt, others_in_range remaining taken.1 other.1)
others_in_range (Live ∷ remaining) taken other = (tt, others_in_range remaining taken.1 other.1)

all_in_range : (settings : List Setting) → AllByRecursion Takes settings → IsDistinct bytes_eq (map name_of settings) → name_faults (named_given settings) ≡ []
    → AllByRecursion IsInRange settings
unfolding IsDistinct
all_in_range [] taken once none = tt
all_in_range (Terminal text ∷ remaining) taken once none = (read_name text none, others_in_range remaining taken.1 once.0)
all_in_range (Width text ∷ remaining) taken once none = (taken.0, all_in_range remaining taken.1 once.1 none)
all_in_range (Height text ∷ remaining) taken once none = (taken.0, all_in_range remaining taken.1 once.1 none)
all_in_range (Every text ∷ remaining) taken once none = (taken.0, all_in_range remaining taken.1 once.1 none)
all_in_range (Show ∷ remaining) taken once none = (tt, all_in_range remaining taken.1 once.1 none)
all_in_range (Live ∷ remaining) taken once none = (tt, all_in_range remaining taken.1 once.1 none)

-- ---- the whole

pub no_faults : (words : List Text) → IsCommandLine (drop 1 words) → faults_in words ≡ []
unfolding faults_in
no_faults words given =
    let parses = parsed words given in
    let named = profile_is words given in
    let alone = conflict_found words given.settings (given_rows words given) ∙ given.no_conflict in
    λ i. or_else (parses i) (or_else (name_faults (named i)) (conflict_faults (alone i)))

-- words without a fault are a command line that can be run
pub options_given : (words : List Text) → faults_in words ≡ [] → IsCommandLine (drop 1 words)
unfolding faults_in
options_given words none =
    let names = name_faults (terminal_in words) in
    let conflicts = conflict_faults (has_conflict words) in
    let parts = or_else_nil (fault_of command_line words) (or_else names conflicts) none in
    let last = or_else_nil names conflicts parts.1 in
    let given = found words parts.0 in
    let named = ap name_faults (sym (named_is words given.settings given.found)) ∙ last.0 in
    record {
      settings = given.settings;
      given = given.give;
      in_range = all_in_range given.settings given.taken given.distinct named;
      once = given.distinct;
      no_conflict = sym (conflict_found words given.settings given.found) ∙ conflict_passes (has_conflict words) last.1;
    }
