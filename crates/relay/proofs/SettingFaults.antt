-- Words that are refused, and the options that accepted words give.
use Rattle.std.proofs.Common.{◌≡◌, ◌∙◌, ◌&&◌, ◌≤◌, ◌==◌, cond, ℕ, zero, suc, length, Bool, true, false, List, [], ◌∷◌, ◌++◌, Option, Some, None, is_some, inl, inr, refl, ap, arith, subst, sym, codes, map}
use Rattle.std.specs.Prelude.{drop, encode_utf8, pos, slice_get, ⊤}
use Rattle.std.specs.List.{AllByRecursion, IsDistinct}
use Rattle.std.specs.Str.{bytes_eq, chars}
use Rattle.std.proofs.lemmas.List.{append-nil, append_assoc}
use Rattle.std.proofs.lemmas.List.Sums.{fold-append}
use Rattle.clap.specs.Faults.{flags_fault, long_fault, option_fault, react_fault, settle_fault, short_fault, step_fault, turn_fault, use_fault, walk_fault, word_fault}
use Rattle.clap.specs.Kinds.{Kinds, or_else}
use Rattle.clap.specs.Lexer.{long_of, short_of}
use Rattle.clap.specs.Simple.{filled, help_rule, version_rule, with_index}
use Rattle.clap.specs.Walk.{Held, Row, Rule, Text, Waiting, Walk, arg_by_long, arg_by_short, bundle_met, has_row, attached_value, idle, option, reacted, settled, subcommand_met, takes_values, walked, word_met}
use Rattle.clap.specs.ValueTests.{is_signed_in}
use Rattle.clap.specs.declared.error.kind.ErrorKind.{ErrorKind}
use Rattle.clap.specs.declared.error.kind.ErrorKind.TheVariants as kind
use Rattle.relay.specs.CommandLine.{command_line, flag_rule}
use Rattle.relay.specs.Settings.{Setting, Terminal, Give, GiveAll, IsInRange, name_of}
use Rattle.relay.proofs.SettingNumbers.{number_taken}
use Rattle.relay.proofs.SettingRows.{had_none, row_for}
use Rattle.relay.proofs.SettingWalk.{Flag, LiveFlag, ShowFlag, Valued, Columns, Rows, Profiles, Bytes, IsNew, awaiting, between, flag_name, flag_walk, given_by, held, joined, joined_walk, line, name_for, text_row, row_named, rows_at, settling, walked_over, with_text}
use Rattle.relay.proofs.SettingWords.{Lookup, after_name, dashes, long, short, odd, plain, lookup, Named, valued, flag, help, version, unknown, named}

abbrev IsFault : Kinds → Type 0
IsFault kinds = kinds ≡ [] → ⊥

pub some_fault : (k : ErrorKind) (ks : Kinds) → IsFault (k ∷ ks)
some_fault k ks e = cc

pub or_else_nil : (a b : Kinds) → or_else a b ≡ [] → (a ≡ []) × (b ≡ [])
or_else_nil [] b e = (refl, e)
or_else_nil (k ∷ ks) b e = absurd (some_fault k ks e)

fault_first : (a b : Kinds) → IsFault a → IsFault (or_else a b)
fault_first a b fault e = fault (or_else_nil a b e).0

fault_second : (a b : Kinds) → IsFault b → IsFault (or_else a b)
fault_second a b fault e = fault (or_else_nil a b e).1

-- ---- an option in the position of a text

module _ (h : Held) (pending : IsFault (settle_fault line.rules false h)) where
  long_refused : (found : Option Rule) (text : Option Text) → IsFault (long_fault line.rules false found text h)
  long_refused None text = some_fault kind.UnknownArgument []
  long_refused (Some a) text = by_test (takes_values a) text
    where
      by_test : (t : Bool) (v : Option Text)
          → IsFault (cond t (option_fault line.rules false a v h) (cond (is_some v) (kind.TooManyValues ∷ []) (react_fault line.rules false a [] h)))
      by_test true (Some v) = fault_first (settle_fault line.rules false h) _ pending
      by_test true None = pending
      by_test false (Some v) = some_fault kind.TooManyValues []
      by_test false None = fault_first (settle_fault line.rules false h) _ pending

  short_refused : (found : Option Rule) (rest : Text) (next : Held → Kinds) → IsFault (short_fault line.rules false found rest h next)
  short_refused None rest next = some_fault kind.UnknownArgument []
  short_refused (Some a) rest next = by_test (takes_values a) (attached_value rest)
    where
      by_test : (t : Bool) (v : Option Text)
          → IsFault (cond t (option_fault line.rules false a v h) (or_else (react_fault line.rules false a [] h) (next (reacted line.rules a [] h))))
      by_test true (Some v) = fault_first (settle_fault line.rules false h) _ pending
      by_test true None = pending
      by_test false v = fault_first (react_fault line.rules false a [] h) _ (fault_first (settle_fault line.rules false h) _ pending)

-- a pending option without its text is a fault
none_yet : (k : Valued) (rows : List Row) → IsFault (settling rows (Some (name_for k, [])))
unfolding command_line
none_yet Columns rows = some_fault kind.InvalidValue []
none_yet Rows rows = some_fault kind.InvalidValue []
none_yet Profiles rows = some_fault kind.InvalidValue []
none_yet Bytes rows = some_fault kind.InvalidValue []

-- ---- one word

-- the walk over the words has no fault from here on, and the pending option at its end has none
pub record Passes (from : Walk) (words : List Text) : Type 0 where
  pub walk : walk_fault line [] from words ≡ []
  pub settles : settle_fault line.rules false (walked_over from words).held ≡ []

first_passes : (w : Walk) (word : Text) (rest : List Text) → Passes w (word ∷ rest) → (turn_fault line [] w word ≡ []) × Passes (walked line.rules [] w word) rest
unfolding walk_fault
first_passes w word rest p =
    let each = or_else_nil (turn_fault line [] w word) (walk_fault line [] (walked line.rules [] w word) rest) p.walk in
    (each.0, record { walk = each.1; settles = p.settles })

-- a walk that holds `h`, and waits for `waiting`
abbrev standing : Waiting → Held → Walk
standing waiting h = record { held = h; waiting = waiting; position = 1; is_trailing = false; stopped = None }

word_passes : (waiting : Waiting) (h : Held) (word : Text) → turn_fault line [] (standing waiting h) word ≡ [] → word_fault line [] false waiting word h ≡ []
word_passes waiting h word e =
    let met = word_met line.rules [] false waiting 1 word h in
    (or_else_nil (word_fault line [] false waiting word h) (step_fault line 1 met.0 met.1) e).0

-- the word names no subcommand
abbrev IsOpen : Waiting → Text → Type 0
IsOpen waiting word = subcommand_met [] waiting word ≡ None

long_fault_is : (waiting : Waiting) (h : Held) (word name : Text) (text : Option Text) → IsOpen waiting word → bytes_eq word (codes "--") ≡ false → long_of word ≡ Some (name, text)
    → word_fault line [] false waiting word h ≡ long_fault line.rules false (arg_by_long line.rules name) text h
unfolding command_line
long_fault_is waiting h word name text none not_dashes is = rw (none, not_dashes, is) refl

short_fault_is : (waiting : Waiting) (rows : List Row) (pending : Option (Text × List Text)) (word : Text) (byte : ℕ) (flags : Text) (x : ℕ) → IsOpen waiting word
    → bytes_eq word (codes "--") ≡ false → long_of word ≡ None → short_of word ≡ Some (byte ∷ flags) → slice_get (chars (byte ∷ flags)) 0 ≡ Some x
    → word_fault line [] false waiting word (held rows pending)
    ≡ short_fault line.rules false (arg_by_short line.rules x) (drop (length (encode_utf8 x)) (byte ∷ flags)) (held rows pending)
    (flags_fault line.rules false (length flags) (drop (length (encode_utf8 x)) (byte ∷ flags)) 0)
unfolding command_line flags_fault
short_fault_is waiting rows pending word byte flags x none not_dashes no_long is first = rw (none, not_dashes, no_long, is, first) refl

-- nothing follows `--`
trailing_refused : (h : Held) (waiting : Waiting) (word : Text)
    → IsFault (turn_fault line [] (record { held = h; waiting = waiting; position = 1; is_trailing = true; stopped = None }) word)
unfolding command_line
trailing_refused h waiting word = some_fault kind.UnknownArgument []

-- ---- the word after an option that takes a text

value_walk : (k : Valued) (rows : List Row) (word : Text) → bytes_eq word (codes "--") ≡ false → long_of word ≡ None → short_of word ≡ None
    → walked line.rules [] (awaiting k rows) word ≡ between rows (Some (name_for k, word ∷ []))
unfolding command_line walked
value_walk Columns rows word a b c = rw (a, b, c) refl
value_walk Rows rows word a b c = rw (a, b, c) refl
value_walk Profiles rows word a b c = rw (a, b, c) refl
value_walk Bytes rows word a b c = rw (a, b, c) refl

odd_walk : (k : Valued) (rows : List Row) (word : Text) (byte : ℕ) (flags : Text) → bytes_eq word (codes "--") ≡ false → long_of word ≡ None
    → short_of word ≡ Some (byte ∷ flags) → slice_get (chars (byte ∷ flags)) 0 ≡ None → walked line.rules [] (awaiting k rows) word ≡ between rows (Some (name_for k, word ∷ []))
unfolding command_line walked bundle_met
odd_walk Columns rows word byte flags a b c d = rw (a, b, c, d) refl
odd_walk Rows rows word byte flags a b c d = rw (a, b, c, d) refl
odd_walk Profiles rows word byte flags a b c d = rw (a, b, c, d) refl
odd_walk Bytes rows word byte flags a b c d = rw (a, b, c, d) refl

dashes_refused : (k : Valued) (rows : List Row) (rest : List Text) → Passes (awaiting k rows) (codes "--" ∷ rest) → ⊥
unfolding walked
dashes_refused k rows [] p = none_yet k rows p.settles
dashes_refused k rows (word ∷ rest) p =
    let next = first_passes (awaiting k rows) (codes "--") (word ∷ rest) p in
    trailing_refused (held rows (Some (name_for k, []))) (option (name_for k)) word (first_passes _ word rest next.1).0

-- the word is taken for the option's text
pub record IsTaken (k : Valued) (rows : List Row) (word : Text) (rest : List Text) : Type 0 where
  pub walk : walked line.rules [] (awaiting k rows) word ≡ between rows (Some (name_for k, word ∷ []))
  pub passes : Passes (between rows (Some (name_for k, word ∷ []))) rest

-- so it is, whatever its form
value_passes : (k : Valued) (rows : List Row) (word : Text) (rest : List Text) → Passes (awaiting k rows) (word ∷ rest) → IsTaken k rows word rest
value_passes k rows word rest p = by_lookup (lookup word) (first_passes (awaiting k rows) word rest p)
  where
    taken : walked line.rules [] (awaiting k rows) word ≡ between rows (Some (name_for k, word ∷ []))
        → Passes (walked line.rules [] (awaiting k rows) word) rest → IsTaken k rows word rest
    taken walk passes = record { walk = walk; passes = subst (λ w. Passes w rest) walk passes }

    by_lookup : Lookup word → (turn_fault line [] (awaiting k rows) word ≡ []) × Passes (walked line.rules [] (awaiting k rows) word) rest → IsTaken k rows word rest
    by_lookup (dashes is) f = absurd (dashes_refused k rows rest (subst (λ w. Passes (awaiting k rows) (w ∷ rest)) is p))
    by_lookup (long name text not_dashes is spelled) f =
        let h = held rows (Some (name_for k, [])) in
        let passes = word_passes (option (name_for k)) h word f.0 in
        absurd (long_refused h (none_yet k rows) (arg_by_long line.rules name) text
        (sym (long_fault_is (option (name_for k)) h word name text refl not_dashes is) ∙ passes))
    by_lookup (short byte flags x not_dashes no_long is first) f =
        let h = held rows (Some (name_for k, [])) in
        let passes = word_passes (option (name_for k)) h word f.0 in
        absurd (short_refused h (none_yet k rows) (arg_by_short line.rules x) _ _
        (sym (short_fault_is (option (name_for k)) rows (Some (name_for k, [])) word byte flags x refl not_dashes no_long is first) ∙ passes))
    by_lookup (odd byte flags not_dashes no_long is first) f = taken (odd_walk k rows word byte flags not_dashes no_long is first) f.1
    by_lookup (plain not_dashes no_long no_short) f = taken (value_walk k rows word not_dashes no_long no_short) f.1

-- ---- a word between two options

plain_refused : (rows : List Row) (pending : Option (Text × List Text)) (word : Text) → bytes_eq word (codes "--") ≡ false → long_of word ≡ None → short_of word ≡ None
    → turn_fault line [] (between rows pending) word ≡ kind.UnknownArgument ∷ []
unfolding command_line
plain_refused rows pending word a b c = rw (a, b, c) refl

odd_refused : (rows : List Row) (pending : Option (Text × List Text)) (word : Text) (byte : ℕ) (flags : Text) → bytes_eq word (codes "--") ≡ false → long_of word ≡ None
    → short_of word ≡ Some (byte ∷ flags) → slice_get (chars (byte ∷ flags)) 0 ≡ None → turn_fault line [] (between rows pending) word ≡ kind.UnknownArgument ∷ []
unfolding command_line bundle_met flags_fault
odd_refused rows pending word byte flags a b c d = rw (a, b, c, d) refl

-- the flags that the parser adds
abbrev help_built : Rule
help_built = with_index 1 (filled help_rule)

abbrev version_built : Rule
version_built = with_index 1 (filled version_rule)

flag_refused : (h : Held) (x : ℕ) (rest : Text) (next : Held → Kinds) → IsFault (short_fault line.rules false (arg_by_short line.rules x) rest h next)
unfolding command_line
flag_refused h x rest next = by_test (104 == x) (86 == x) refl refl
  where
    by_test : (t u : Bool) → (104 == x) ≡ t → (86 == x) ≡ u → IsFault (short_fault line.rules false (arg_by_short line.rules x) rest h next)
    by_test true u e f =
        let is : arg_by_short line.rules x ≡ Some help_built = rw e refl in
        subst (λ found. IsFault (short_fault line.rules false found rest h next)) (sym is)
        (fault_first (react_fault line.rules false help_built [] h) _ (fault_second (settle_fault line.rules false h) _ (some_fault kind.DisplayHelp [])))
    by_test false true e f =
        let is : arg_by_short line.rules x ≡ Some version_built = rw (e, f) refl in
        subst (λ found. IsFault (short_fault line.rules false found rest h next)) (sym is)
        (fault_first (react_fault line.rules false version_built [] h) _ (fault_second (settle_fault line.rules false h) _ (some_fault kind.DisplayVersion [])))
    by_test false false e f =
        let is : arg_by_short line.rules x ≡ None = rw (e, f) refl in
        subst (λ found. IsFault (short_fault line.rules false found rest h next)) (sym is) (some_fault kind.UnknownArgument [])

-- what the parser checks of the text of an option: that it is a number in its range
abbrev pub Takes : Setting → Type 0
Takes (Terminal text) = ⊤
Takes s = IsInRange s

-- the rows after a walk over words
abbrev pub rows_found : Walk → List Text → List Row
rows_found from words = (settled line.rules (walked_over from words).held).rows

-- the options that the words give, all of them new after options that have these rows, and found by the walk
pub record GivenAfter (from : Walk) (before : List Row) (words : List Text) : Type 0 where
  pub settings : List Setting
  pub give : GiveAll settings words
  pub taken : AllByRecursion Takes settings
  pub distinct : IsDistinct bytes_eq (map name_of settings)
  pub new : AllByRecursion (IsNew before) settings
  pub found : rows_found from words ≡ before ++ map row_for settings

-- options that are new after the row of `s` is added are new before it, and have other names than `s`
older : (s : Setting) (before : List Row) (settings : List Setting) → AllByRecursion (IsNew (before ++ row_for s ∷ [])) settings
    → AllByRecursion (IsNew before) settings × AllByRecursion (λ name. bytes_eq (name_of s) name ≡ false) (map name_of settings)
older s before [] new = (tt, tt)
older s before (other ∷ remaining) new =
    let first = had_none (name_of other) before (row_for s) new.0 in
    let rest = older s before remaining new.1 in
    ((first.0, rest.0), (ap (λ name. bytes_eq name (name_of other)) (sym (row_named s)) ∙ first.1, rest.1))

given_more : (from next : Walk) (before : List Row) (s : Setting) (first rest : List Text) → walked_over from first ≡ next → Give s first → Takes s → IsNew before s
    → GivenAfter next (before ++ row_for s ∷ []) rest → GivenAfter from before (first ++ rest)
unfolding IsDistinct
given_more from next before s first rest leads give takes new more =
    let old = older s before more.settings more.new in
    record {
      settings = s ∷ more.settings;
      give = (first, rest, refl, give, more.give);
      taken = (takes, more.taken);
      distinct = (old.1, more.distinct);
      new = (new, old.0);
      found =
          ap (λ (w : Walk). (settled line.rules w.held).rows) (fold-append (walked line.rules []) from first rest ∙ ap (λ w. walked_over w rest) leads)
          ∙ more.found ∙ append_assoc before (row_for s ∷ []) (map row_for more.settings);
    }

-- the pending option has no fault, and the words give options that are new after it
abbrev Given : List Row → Option (Text × List Text) → List Text → Type 0
Given rows pending words = (settling rows pending ≡ []) × GivenAfter (between rows pending) (rows_at rows pending) words

-- the induction hypothesis: words no longer than `rest` that pass give options
abbrev More : List Text → Type 0
More rest = (words : List Text) (rows : List Row) (pending : Option (Text × List Text)) → length words ≤ length rest → Passes (between rows pending) words → Given rows pending words

nothing_given : (from : Walk) (before : List Row) (words : List Text) → GiveAll [] words → rows_found from words ≡ before → GivenAfter from before words
unfolding IsDistinct
nothing_given from before words give found =
    record { settings = []; give = give; taken = tt; distinct = tt; new = tt; found = found ∙ sym (append-nil before) }

dashes_given : (rows : List Row) (pending : Option (Text × List Text)) (rest : List Text) → Passes (between rows pending) (codes "--" ∷ rest) → Given rows pending (codes "--" ∷ rest)
unfolding walked
dashes_given rows pending [] p = (p.settles, nothing_given (between rows pending) (rows_at rows pending) (codes "--" ∷ []) (inr refl) refl)
dashes_given rows pending (word ∷ rest) p =
    let next = first_passes (between rows pending) (codes "--") (word ∷ rest) p in
    absurd (trailing_refused (held rows pending) idle word (first_passes _ word rest next.1).0)

-- a first use with one value that passes
use_passes : (b c : Bool) (k l : ErrorKind) → or_else (cond (b && true) (k ∷ []) []) (or_else (cond c [] (l ∷ [])) []) ≡ [] → (b ≡ false) × (c ≡ true)
use_passes true c k l e = absurd (some_fault k _ e)
use_passes false true k l e = (refl, refl)
use_passes false false k l e = absurd (some_fault l [] e)

text_is_new : (k : Valued) (text : Text) (rows : List Row) → settling rows (Some (name_for k, text ∷ [])) ≡ [] → Takes (with_text k text) × IsNew rows (with_text k text)
unfolding command_line
text_is_new Columns text rows e =
    let taken = use_passes (has_row (codes "width") rows) (is_signed_in (pos 1) (pos 4096) text) kind.ArgumentConflict kind.ValueValidation e in
    (number_taken 4096 text taken.1, taken.0)
text_is_new Rows text rows e =
    let taken = use_passes (has_row (codes "height") rows) (is_signed_in (pos 1) (pos 4096) text) kind.ArgumentConflict kind.ValueValidation e in
    (number_taken 4096 text taken.1, taken.0)
text_is_new Profiles text rows e = (tt, (use_passes (has_row (codes "terminal") rows) true kind.ArgumentConflict kind.ValueValidation e).0)
text_is_new Bytes text rows e =
    let taken = use_passes (has_row (codes "every") rows) (is_signed_in (pos 1) (pos 4294967295) text) kind.ArgumentConflict kind.ValueValidation e in
    (number_taken 4294967295 text taken.1, taken.0)

-- `--name` and its text
opening : (k : Valued) (rows : List Row) (pending : Option (Text × List Text)) → walked line.rules [] (between rows pending) (codes "--" ++ name_for k) ≡ awaiting k (rows_at rows pending)
unfolding command_line walked
opening Columns rows pending = refl
opening Rows rows pending = refl
opening Profiles rows pending = refl
opening Bytes rows pending = refl

opening_fault : (k : Valued) (rows : List Row) (pending : Option (Text × List Text)) → word_fault line [] false idle (codes "--" ++ name_for k) (held rows pending) ≡ settling rows pending
unfolding command_line
opening_fault Columns rows pending = refl
opening_fault Rows rows pending = refl
opening_fault Profiles rows pending = refl
opening_fault Bytes rows pending = refl

opens : (k : Valued) (rows : List Row) (pending : Option (Text × List Text)) (rest : List Text) → Passes (between rows pending) ((codes "--" ++ name_for k) ∷ rest)
    → (settling rows pending ≡ []) × Passes (awaiting k (rows_at rows pending)) rest
opens k rows pending rest p =
    let word = codes "--" ++ name_for k in
    let first = first_passes (between rows pending) word rest p in
    (sym (opening_fault k rows pending) ∙ word_passes idle (held rows pending) word first.0, subst (λ w. Passes w rest) (opening k rows pending) first.1)

give_separate : (k : Valued) (text : Text) → Give (with_text k text) ((codes "--" ++ name_for k) ∷ text ∷ [])
give_separate Columns text = inl refl
give_separate Rows text = inl refl
give_separate Profiles text = inl refl
give_separate Bytes text = inl refl

text_separate : (k : Valued) (rest : List Text) (rows : List Row) (pending : Option (Text × List Text)) → More rest
    → Passes (between rows pending) ((codes "--" ++ name_for k) ∷ rest) → Given rows pending ((codes "--" ++ name_for k) ∷ rest)
text_separate k [] rows pending more p = absurd (none_yet k (rows_at rows pending) (opens k rows pending [] p).1.settles)
text_separate k (text ∷ rest) rows pending more p =
    let before = rows_at rows pending in
    let open_k = opens k rows pending (text ∷ rest) p in
    let word = value_passes k before text rest open_k.1 in
    let next = more rest before (Some (name_for k, text ∷ [])) (omega arith) word.passes in
    let taken = text_is_new k text before next.0 in
    let leads = ap (λ w. walked line.rules [] w text) (opening k rows pending) ∙ word.walk in (
      open_k.0,
      given_more (between rows pending) (between before (Some (name_for k, text ∷ []))) before (with_text k text) ((codes "--" ++ name_for k) ∷ text ∷ []) rest
          leads (give_separate k text) taken.0 taken.1
          (subst (λ rs. GivenAfter (between before (Some (name_for k, text ∷ []))) rs rest) (text_row k text before taken.1) next.1),
    )

-- `--name=text`
joined_passes : (k : Valued) (text : Text) (rows : List Row) (pending : Option (Text × List Text)) → word_fault line [] false idle (joined k text) (held rows pending) ≡ []
    → (settling rows pending ≡ []) × (settling (rows_at rows pending) (Some (name_for k, text ∷ [])) ≡ [])
unfolding command_line
joined_passes Columns text rows pending e = or_else_nil (settling rows pending) (settling (rows_at rows pending) (Some (codes "width", text ∷ []))) e
joined_passes Rows text rows pending e = or_else_nil (settling rows pending) (settling (rows_at rows pending) (Some (codes "height", text ∷ []))) e
joined_passes Profiles text rows pending e = or_else_nil (settling rows pending) (settling (rows_at rows pending) (Some (codes "terminal", text ∷ []))) e
joined_passes Bytes text rows pending e = or_else_nil (settling rows pending) (settling (rows_at rows pending) (Some (codes "every", text ∷ []))) e

give_joined : (k : Valued) (text : Text) → Give (with_text k text) (joined k text ∷ [])
give_joined Columns text = inr refl
give_joined Rows text = inr refl
give_joined Profiles text = inr refl
give_joined Bytes text = inr refl

text_joined : (k : Valued) (text : Text) (rest : List Text) (rows : List Row) (pending : Option (Text × List Text)) → More rest
    → Passes (between rows pending) (joined k text ∷ rest) → Given rows pending (joined k text ∷ rest)
text_joined k text rest rows pending more p =
    let before = rows_at rows pending in
    let first = first_passes (between rows pending) (joined k text) rest p in
    let parts = joined_passes k text rows pending (word_passes idle (held rows pending) (joined k text) first.0) in
    let taken = text_is_new k text before parts.1 in
    let passes = subst (λ w. Passes w rest) (joined_walk k text rows pending taken.1) first.1 in
    let next = more rest (before ++ row_for (with_text k text) ∷ []) None (omega arith) passes in
    let after = between (before ++ row_for (with_text k text) ∷ []) None in (
      parts.0,
      given_more (between rows pending) after before (with_text k text) (joined k text ∷ []) rest
          (joined_walk k text rows pending taken.1) (give_joined k text) taken.0 taken.1 next.1,
    )

-- `--show` and `--live`
flag_passes : (k : Flag) (rows : List Row) (pending : Option (Text × List Text)) → word_fault line [] false idle (codes "--" ++ flag_name k) (held rows pending) ≡ []
    → (settling rows pending ≡ []) × IsNew (rows_at rows pending) (given_by k)
unfolding command_line
flag_passes ShowFlag rows pending e =
    let parts = or_else_nil (settling rows pending) (use_fault false (with_index 1 (filled (flag_rule (codes "show")))) [] (rows_at rows pending)) e in
    (parts.0, (use_passes (has_row (codes "show") (rows_at rows pending)) true kind.ArgumentConflict kind.InvalidValue parts.1).0)
flag_passes LiveFlag rows pending e =
    let parts = or_else_nil (settling rows pending) (use_fault false (with_index 1 (filled (flag_rule (codes "live")))) [] (rows_at rows pending)) e in
    (parts.0, (use_passes (has_row (codes "live") (rows_at rows pending)) true kind.ArgumentConflict kind.InvalidValue parts.1).0)

give_flag : (k : Flag) → Give (given_by k) ((codes "--" ++ flag_name k) ∷ [])
give_flag ShowFlag = refl
give_flag LiveFlag = refl

takes_flag : (k : Flag) → Takes (given_by k)
takes_flag ShowFlag = tt
takes_flag LiveFlag = tt

flag_alone : (k : Flag) (rest : List Text) (rows : List Row) (pending : Option (Text × List Text)) → More rest
    → Passes (between rows pending) ((codes "--" ++ flag_name k) ∷ rest) → Given rows pending ((codes "--" ++ flag_name k) ∷ rest)
flag_alone k rest rows pending more p =
    let before = rows_at rows pending in
    let word = codes "--" ++ flag_name k in
    let first = first_passes (between rows pending) word rest p in
    let parts = flag_passes k rows pending (word_passes idle (held rows pending) word first.0) in
    let passes = subst (λ w. Passes w rest) (flag_walk k rows pending parts.1) first.1 in
    let next = more rest (before ++ row_for (given_by k) ∷ []) None (omega arith) passes in
    let after = between (before ++ row_for (given_by k) ∷ []) None in
    (parts.0, given_more (between rows pending) after before (given_by k) (word ∷ []) rest (flag_walk k rows pending parts.1) (give_flag k) (takes_flag k) parts.1 next.1)

-- ---- options that aren't the program's, or are requests

word_refused : (rows : List Row) (pending : Option (Text × List Text)) (word : Text) (rest : List Text) → IsFault (word_fault line [] false idle word (held rows pending))
    → Passes (between rows pending) (word ∷ rest) → ⊥
word_refused rows pending word rest fault p = fault (word_passes idle (held rows pending) word (first_passes (between rows pending) word rest p).0)

flag_valued : (k : Flag) (text : Text) (rows : List Row) (pending : Option (Text × List Text)) → IsFault (word_fault line [] false idle (codes "--" ++ (flag_name k ++ after_name (Some text))) (held rows pending))
unfolding command_line
flag_valued ShowFlag text rows pending = some_fault kind.TooManyValues []
flag_valued LiveFlag text rows pending = some_fault kind.TooManyValues []

help_refused : (text : Option Text) (rows : List Row) (pending : Option (Text × List Text)) → IsFault (word_fault line [] false idle (codes "--" ++ (codes "help" ++ after_name text)) (held rows pending))
unfolding command_line
help_refused None rows pending = fault_second (settling rows pending) _ (some_fault kind.DisplayHelp [])
help_refused (Some text) rows pending = some_fault kind.TooManyValues []

version_refused : (text : Option Text) (rows : List Row) (pending : Option (Text × List Text)) → IsFault (word_fault line [] false idle (codes "--" ++ (codes "version" ++ after_name text)) (held rows pending))
unfolding command_line
version_refused None rows pending = fault_second (settling rows pending) _ (some_fault kind.DisplayVersion [])
version_refused (Some text) rows pending = some_fault kind.TooManyValues []

-- ---- all words

-- the walk over this word and the rest passes
abbrev Passing : List Row → Option (Text × List Text) → List Text → Text → Type 0
Passing rows pending rest word = Passes (between rows pending) (word ∷ rest)

abbrev GivenBy : List Row → Option (Text × List Text) → List Text → Text → Type 0
GivenBy rows pending rest word = Given rows pending (word ∷ rest)

valued_given : (k : Valued) (text : Option Text) (rest : List Text) (rows : List Row) (pending : Option (Text × List Text)) → More rest
    → Passing rows pending rest (codes "--" ++ (name_for k ++ after_name text)) → GivenBy rows pending rest (codes "--" ++ (name_for k ++ after_name text))
valued_given k None rest rows pending more p =
    let same : codes "--" ++ (name_for k ++ []) ≡ codes "--" ++ name_for k = ap (λ name. codes "--" ++ name) (append-nil (name_for k)) in
    subst (GivenBy rows pending rest) (sym same) (text_separate k rest rows pending more (subst (Passing rows pending rest) same p))
valued_given k (Some text) rest rows pending more p = text_joined k text rest rows pending more p

flag_given : (k : Flag) (text : Option Text) (rest : List Text) (rows : List Row) (pending : Option (Text × List Text)) → More rest
    → Passing rows pending rest (codes "--" ++ (flag_name k ++ after_name text)) → GivenBy rows pending rest (codes "--" ++ (flag_name k ++ after_name text))
flag_given k None rest rows pending more p =
    let same : codes "--" ++ (flag_name k ++ []) ≡ codes "--" ++ flag_name k = ap (λ name. codes "--" ++ name) (append-nil (flag_name k)) in
    subst (GivenBy rows pending rest) (sym same) (flag_alone k rest rows pending more (subst (Passing rows pending rest) same p))
flag_given k (Some text) rest rows pending more p = absurd (word_refused rows pending _ rest (flag_valued k text rows pending) p)

module _ (name : Text) (text : Option Text) (rest : List Text) (rows : List Row) (pending : Option (Text × List Text)) (more : More rest) where
  abbrev spelled_with : Text → Text
  spelled_with known = codes "--" ++ (known ++ after_name text)

  named_given : Named name → (arg_by_long line.rules name ≡ None → ⊥) → Passing rows pending rest (spelled_with name) → GivenBy rows pending rest (spelled_with name)
  named_given (valued k is) known p =
      subst (λ n. GivenBy rows pending rest (spelled_with n)) (sym is) (valued_given k text rest rows pending more (subst (λ n. Passing rows pending rest (spelled_with n)) is p))
  named_given (flag k is) known p =
      subst (λ n. GivenBy rows pending rest (spelled_with n)) (sym is) (flag_given k text rest rows pending more (subst (λ n. Passing rows pending rest (spelled_with n)) is p))
  named_given (help is) known p =
      absurd (word_refused rows pending _ rest (help_refused text rows pending) (subst (λ n. Passing rows pending rest (spelled_with n)) is p))
  named_given (version is) known p =
      absurd (word_refused rows pending _ rest (version_refused text rows pending) (subst (λ n. Passing rows pending rest (spelled_with n)) is p))
  named_given (unknown none) known p = absurd (known none)

word_given : (word : Text) (rest : List Text) (rows : List Row) (pending : Option (Text × List Text)) → More rest → Passing rows pending rest word → GivenBy rows pending rest word
word_given word rest rows pending more p = by_lookup (lookup word) (first_passes (between rows pending) word rest p).0
  where
    by_lookup : Lookup word → turn_fault line [] (between rows pending) word ≡ [] → GivenBy rows pending rest word
    by_lookup (dashes is) e = subst (GivenBy rows pending rest) (sym is) (dashes_given rows pending rest (subst (Passing rows pending rest) is p))
    by_lookup (long name text not_dashes is spelled) e =
        let passes = sym (long_fault_is idle (held rows pending) word name text refl not_dashes is) ∙ word_passes idle (held rows pending) word e in
        subst (GivenBy rows pending rest) (sym spelled)
        (named_given name text rest rows pending more (named name)
        (λ none. some_fault kind.UnknownArgument [] (ap (λ found. long_fault line.rules false found text (held rows pending)) (sym none) ∙ passes))
        (subst (Passing rows pending rest) spelled p))
    by_lookup (short byte flags x not_dashes no_long is first) e =
        absurd (flag_refused (held rows pending) x _ _
        (sym (short_fault_is idle rows pending word byte flags x refl not_dashes no_long is first) ∙ word_passes idle (held rows pending) word e))
    by_lookup (odd byte flags not_dashes no_long is first) e =
        absurd (some_fault kind.UnknownArgument [] (sym (odd_refused rows pending word byte flags not_dashes no_long is first) ∙ e))
    by_lookup (plain not_dashes no_long no_short) e =
        absurd (some_fault kind.UnknownArgument [] (sym (plain_refused rows pending word not_dashes no_long no_short) ∙ e))

words_given : (n : ℕ) (words : List Text) (rows : List Row) (pending : Option (Text × List Text)) → length words ≤ n → Passes (between rows pending) words → Given rows pending words
words_given n [] rows pending small p = (p.settles, nothing_given (between rows pending) (rows_at rows pending) [] (inl refl) refl)
words_given zero (word ∷ rest) rows pending small p = absurd (omega (arith, small))
words_given (suc n) (word ∷ rest) rows pending small p =
    word_given word rest rows pending (λ fewer remaining last less passes. words_given n fewer remaining last (omega (arith, small, less)) passes) p

-- words that are walked over without a fault give options
pub walk_gives : (words : List Text) → walk_fault line [] (between [] None) words ≡ [] → settle_fault line.rules false (walked_over (between [] None) words).held ≡ []
    → GivenAfter (between [] None) [] words
walk_gives words walk settles = (words_given (length words) words [] None (omega arith) (record { walk = walk; settles = settles })).1
