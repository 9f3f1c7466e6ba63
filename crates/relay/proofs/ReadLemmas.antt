-- What is read of the parser's matches, and why words are refused.
use Rattle.std.proofs.Common.{◌≡◌, ◌∙◌, ◌&&◌, ◌||◌, ℕ, Bool, true, false, List, [], ◌∷◌, Option, None, Some, inl, inr, ap, codes, refl, subst, sym}
use Rattle.std.specs.Prelude.{find, option_and_then, option_map}
use Rattle.std.specs.Str.{bytes_eq}
use Rattle.clap.specs.Facts.{Entry}
use Rattle.clap.specs.Kinds.{HasKind, or_else}
use Rattle.clap.specs.Words.{IsAmong, Kinds, Text, fault_of, first_of, first_value, found_of, matched_of, matches_of, one_of, one_text, rows_of}
use Rattle.clap.specs.Walk.{Row, row_of}
use Rattle.clap.specs.declared.error.Error.{Error}
use Rattle.clap.specs.declared.error.kind.ErrorKind.{ErrorKind}
use Rattle.clap.specs.declared.error.kind.ErrorKind.TheVariants as kind
use Rattle.clap.specs.declared.parser.matches.ArgMatches.{ArgMatches}
use Rattle.clap.specs.declared.parser.matches.Found.{Found}
use Rattle.clap.specs.declared.parser.matches.MatchedArg.{MatchedArg}
use Rattle.clap.proofs.WalkLemmas.{find_row, first_value-rows, one_text-rows}
use Rattle.terminal_steps.specs.declared.profile.Profile.{Profile}
use Rattle.relay.specs.CommandLine.{IsRefusedFor, command_line, conflict_faults, faults_in, has_conflict, is_given, is_of_words, is_true, kind_in, name_faults, number_or, profile_named, show_in, source_of, terminal_in, text_in, live_in}
use Rattle.relay.specs.declared.options.BadWords.{BadWords}
use Rattle.relay.specs.declared.options.BadWords.TheVariants.{Command, Conflict}

-- the matches have the rows that the words lead to
abbrev AreOf : ArgMatches → List Text → Type 0
AreOf m words = rows_of (found_of m) ≡ matches_of command_line words

text_is : (name : Text) (m : ArgMatches) (words : List Text) → AreOf m words → text_in words name ≡ one_text (found_of m) name
unfolding text_in
text_is name m words rows = ap (one_of name) (sym rows) ∙ sym (one_text-rows (found_of m) name)

pub number_read : (name : Text) (default most : ℕ) (m : ArgMatches) (words : List Text) → AreOf m words → (read : ℕ) → read ≡ number_or default most (one_text (found_of m) name)
    → number_or default most (text_in words name) ≡ read
number_read name default most m words rows read is = ap (number_or default most) (text_is name m words rows) ∙ sym is

pub flag_read : (name : Text) (m : ArgMatches) (words : List Text) → AreOf m words → (read : Bool) → read ≡ is_true (one_text (found_of m) name) → is_true (text_in words name) ≡ read
flag_read name m words rows read is = ap is_true (text_is name m words rows) ∙ sym is

pub terminal_read : (m : ArgMatches) (words : List Text) → AreOf m words → (read : Option Profile) → read ≡ option_and_then profile_named (first_value (found_of m) (codes "terminal"))
    → terminal_in words ≡ read
unfolding terminal_in
terminal_read m words rows read is =
    ap (option_and_then profile_named) (ap (first_of (codes "terminal")) (sym rows) ∙ sym (first_value-rows (found_of m) (codes "terminal"))) ∙ sym is

source_rows : (f : Found) (id : Text) → option_and_then (λ a. a.source) (matched_of f id) ≡ source_of id (rows_of f)
source_rows f id = go (find (λ e. bytes_eq e.0.now id) f.entries.items) ∙ ap (option_and_then (λ (r : Row). r.source)) (sym (find_row f.entries.items id))
  where
    go : (o : Option Entry) → option_and_then (λ (a : MatchedArg). a.source) (option_map (λ e. e.1) o) ≡ option_and_then (λ (r : Row). r.source) (option_map row_of o)
    go None = refl
    go (Some e) = refl

given_read : (name : Text) (m : ArgMatches) (words : List Text) → AreOf m words
    → is_given words name ≡ is_of_words (option_and_then (λ a. a.source) (matched_of (found_of m) name))
unfolding is_given
given_read name m words rows = ap is_of_words (ap (source_of name) (sym rows) ∙ sym (source_rows (found_of m) name))

pub conflict_read : (m : ArgMatches) (words : List Text) → AreOf m words → (read : Bool)
    → read ≡ (is_true (one_text (found_of m) (codes "live"))
    && (is_of_words (option_and_then (λ a. a.source) (matched_of (found_of m) (codes "every"))) || is_true (one_text (found_of m) (codes "show"))))
    → has_conflict words ≡ read
conflict_read m words rows read is =
    let live : live_in words ≡ is_true (one_text (found_of m) (codes "live")) = ap is_true (text_is (codes "live") m words rows) in
    let show : show_in words ≡ is_true (one_text (found_of m) (codes "show")) = ap is_true (text_is (codes "show") m words rows) in
    let every = given_read (codes "every") m words rows in
    (λ i. live i && (every i || show i)) ∙ sym is

among_first : (k : ErrorKind) (first next : Kinds) → IsAmong k first → IsAmong k (or_else first next)
among_first k [] next among = absurd among
among_first k (x ∷ xs) next among = among

-- the parser's error is one of those that the words may give
pub fault_of_parse : (words : List Text) (error : Error) → HasKind (fault_of command_line words) error → IsRefusedFor (faults_in words) (Command error)
unfolding faults_in
fault_of_parse words error (inl memory) = inl memory
fault_of_parse words error (inr among) =
    inr (among_first _ (fault_of command_line words) (or_else (name_faults (terminal_in words)) (conflict_faults (has_conflict words))) among)

-- so is a name that is no profile's
pub fault_of_name : (words : List Text) (bad : BadWords) → fault_of command_line words ≡ [] → terminal_in words ≡ None → kind_in bad ≡ kind.InvalidValue → IsRefusedFor (faults_in words) bad
unfolding faults_in
fault_of_name words bad parsed none is = inr (rw (parsed, none) (inl is))

-- so are `--live` and an option that it excludes
pub fault_of_conflict : (words : List Text) (profile : Profile) → fault_of command_line words ≡ [] → terminal_in words ≡ Some profile → has_conflict words ≡ true
    → IsRefusedFor (faults_in words) Conflict
unfolding faults_in
fault_of_conflict words profile parsed is conflict =
    inr (subst (IsAmong kind.ArgumentConflict) (sym (λ i. or_else (parsed i) (or_else (name_faults (is i)) (conflict_faults (conflict i))))) (inl refl))

pub words_pass : (words : List Text) (profile : Profile) → fault_of command_line words ≡ [] → terminal_in words ≡ Some profile → has_conflict words ≡ false
    → faults_in words ≡ []
unfolding faults_in
words_pass words profile parsed is alone = λ i. or_else (parsed i) (or_else (name_faults (is i)) (conflict_faults (alone i)))
