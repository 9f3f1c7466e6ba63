-- The parser's walk over words that give options.
use Rattle.std.proofs.Common.{◌≡◌, ◌∙◌, ◌⊎◌, inl, inr, List, [], ◌∷◌, ◌++◌, Option, Some, None, false, refl, ap, ap₂, arith, subst, sym, codes, map}
use Rattle.std.specs.Prelude.{fold}
use Rattle.std.specs.List.{AllByRecursion, IsDistinct}
use Rattle.std.specs.Str.{bytes_eq}
use Rattle.std.proofs.lemmas.List.{append-nil, append_assoc}
use Rattle.std.proofs.lemmas.List.Sums.{fold-append}
use Rattle.clap.specs.Faults.{settle_fault, turn_fault, walk_fault}
use Rattle.clap.specs.Kinds.{Kinds, or_else}
use Rattle.clap.specs.Simple.{Shape, built}
use Rattle.clap.specs.Walk.{Held, Row, Text, Walk, has_row, idle, option, settled_rows, walked}
use Rattle.clap.specs.declared.builder.value_parser.Reading.TheVariants as reading
use Rattle.relay.specs.CommandLine.{command_line}
use Rattle.relay.specs.Settings.{Setting, Width, Height, Terminal, Every, Show, Live, Give, GiveAll, IsInRange, name_of}
use Rattle.relay.proofs.SettingNumbers.{plain_number, profile_word}
use Rattle.relay.proofs.SettingRows.{has_more, row_for, used_once}

-- the options that take a text
pub data Valued : Type 0 where
  Columns : Valued
  Rows : Valued
  Profiles : Valued
  Bytes : Valued

abbrev pub with_text : Valued → Text → Setting
with_text Columns text = Width text
with_text Rows text = Height text
with_text Profiles text = Terminal text
with_text Bytes text = Every text

abbrev pub name_for : Valued → Text
name_for Columns = codes "width"
name_for Rows = codes "height"
name_for Profiles = codes "terminal"
name_for Bytes = codes "every"

-- the options that take none
pub data Flag : Type 0 where
  ShowFlag : Flag
  LiveFlag : Flag

abbrev pub given_by : Flag → Setting
given_by ShowFlag = Show
given_by LiveFlag = Live

abbrev pub flag_name : Flag → Text
flag_name ShowFlag = codes "show"
flag_name LiveFlag = codes "live"

-- the command line as the parser completes it
abbrev pub line : Shape
line = (built command_line).top

abbrev pub held : List Row → Option (Text × List Text) → Held
held rows pending = record { rows = rows; pending = pending; skip = 0 }

-- between two options: the pending one, if any, was given last
abbrev pub between : List Row → Option (Text × List Text) → Walk
between rows pending = record { held = held rows pending; waiting = idle; position = 1; is_trailing = false; stopped = None }

-- after an option whose text is the next word
abbrev pub awaiting : Valued → List Row → Walk
awaiting k rows = record { held = held rows (Some (name_for k, [])); waiting = option (name_for k); position = 1; is_trailing = false; stopped = None }

-- the rows, with the row of the pending option
abbrev pub rows_at : List Row → Option (Text × List Text) → List Row
rows_at rows pending = settled_rows line.rules pending rows

-- the faults of the pending option
abbrev pub settling : List Row → Option (Text × List Text) → Kinds
settling rows pending = settle_fault line.rules false (held rows pending)

-- the option isn't among the rows
abbrev pub IsNew : List Row → Setting → Type 0
IsNew rows s = has_row (name_of s) rows ≡ false

abbrev pub walked_over : Walk → List Text → Walk
walked_over = fold (walked line.rules [])

-- the words are walked over without a fault; then these are the rows, with that of the pending option
pub record LeadsTo (from : Walk) (words : List Text) (found : List Row) : Type 0 where
  pub rows : List Row
  pub pending : Option (Text × List Text)
  pub walk : walked_over from words ≡ between rows pending
  pub fault : walk_fault line [] from words ≡ []
  pub settles : settling rows pending ≡ []
  pub rows_are : rows_at rows pending ≡ found

-- ---- one option

-- a text that is pending
text_settles : (k : Valued) (text : Text) (rows : List Row) → IsInRange (with_text k text) → IsNew rows (with_text k text)
    → settling rows (Some (name_for k, text ∷ [])) ≡ []
unfolding command_line
text_settles Columns text rows range new = rw (new, (plain_number 4096 text (omega arith) range).signed) refl
text_settles Rows text rows range new = rw (new, (plain_number 4096 text (omega arith) range).signed) refl
text_settles Profiles text rows range new = rw new refl
text_settles Bytes text rows range new = rw (new, (plain_number 4294967295 text (omega arith) range).signed) refl

pub text_row : (k : Valued) (text : Text) (rows : List Row) → IsNew rows (with_text k text)
    → rows_at rows (Some (name_for k, text ∷ [])) ≡ rows ++ row_for (with_text k text) ∷ []
unfolding command_line
text_row Columns text rows new = used_once (codes "width") reading.WithoutMinus text rows new
text_row Rows text rows new = used_once (codes "height") reading.WithoutMinus text rows new
text_row Profiles text rows new = used_once (codes "terminal") reading.AsWritten text rows new
text_row Bytes text rows new = used_once (codes "every") reading.WithoutMinus text rows new

-- `--name text`
separate_walk : (k : Valued) (text : Text) (rows : List Row) (pending : Option (Text × List Text)) → IsInRange (with_text k text)
    → walked_over (between rows pending) ((codes "--" ++ name_for k) ∷ text ∷ []) ≡ between (rows_at rows pending) (Some (name_for k, text ∷ []))
unfolding command_line walked
separate_walk Columns text rows pending range = let plain = plain_number 4096 text (omega arith) range in rw (plain.rest, plain.long, plain.short) refl
separate_walk Rows text rows pending range = let plain = plain_number 4096 text (omega arith) range in rw (plain.rest, plain.long, plain.short) refl
separate_walk Profiles text rows pending range = let word = profile_word text range in rw (word.rest, word.long, word.short) refl
separate_walk Bytes text rows pending range = let plain = plain_number 4294967295 text (omega arith) range in rw (plain.rest, plain.long, plain.short) refl

separate_fault : (k : Valued) (text : Text) (rows : List Row) (pending : Option (Text × List Text)) → settling rows pending ≡ [] → IsInRange (with_text k text)
    → walk_fault line [] (between rows pending) ((codes "--" ++ name_for k) ∷ text ∷ []) ≡ []
unfolding command_line walked walk_fault
separate_fault Columns text rows pending settles range = let plain = plain_number 4096 text (omega arith) range in rw (settles, plain.rest, plain.long, plain.short) refl
separate_fault Rows text rows pending settles range = let plain = plain_number 4096 text (omega arith) range in rw (settles, plain.rest, plain.long, plain.short) refl
separate_fault Profiles text rows pending settles range = let word = profile_word text range in rw (settles, word.rest, word.long, word.short) refl
separate_fault Bytes text rows pending settles range = let plain = plain_number 4294967295 text (omega arith) range in rw (settles, plain.rest, plain.long, plain.short) refl

-- `--name=text`
abbrev pub joined : Valued → Text → Text
joined k text = codes "--" ++ (name_for k ++ (codes "=" ++ text))

pub joined_walk : (k : Valued) (text : Text) (rows : List Row) (pending : Option (Text × List Text)) → IsNew (rows_at rows pending) (with_text k text)
    → walked line.rules [] (between rows pending) (joined k text) ≡ between (rows_at rows pending ++ row_for (with_text k text) ∷ []) None
unfolding command_line walked
joined_walk Columns text rows pending new = ap (λ rs. between rs None) (used_once (codes "width") reading.WithoutMinus text (rows_at rows pending) new)
joined_walk Rows text rows pending new = ap (λ rs. between rs None) (used_once (codes "height") reading.WithoutMinus text (rows_at rows pending) new)
joined_walk Profiles text rows pending new = ap (λ rs. between rs None) (used_once (codes "terminal") reading.AsWritten text (rows_at rows pending) new)
joined_walk Bytes text rows pending new = ap (λ rs. between rs None) (used_once (codes "every") reading.WithoutMinus text (rows_at rows pending) new)

joined_fault : (k : Valued) (text : Text) (rows : List Row) (pending : Option (Text × List Text)) → settling rows pending ≡ []
    → IsInRange (with_text k text) → IsNew (rows_at rows pending) (with_text k text) → turn_fault line [] (between rows pending) (joined k text) ≡ []
unfolding command_line
joined_fault Columns text rows pending settles range new = rw (settles, new, (plain_number 4096 text (omega arith) range).signed) refl
joined_fault Rows text rows pending settles range new = rw (settles, new, (plain_number 4096 text (omega arith) range).signed) refl
joined_fault Profiles text rows pending settles range new = rw (settles, new) refl
joined_fault Bytes text rows pending settles range new = rw (settles, new, (plain_number 4294967295 text (omega arith) range).signed) refl

-- `--show` and `--live`
pub flag_walk : (k : Flag) (rows : List Row) (pending : Option (Text × List Text)) → IsNew (rows_at rows pending) (given_by k)
    → walked line.rules [] (between rows pending) (codes "--" ++ flag_name k) ≡ between (rows_at rows pending ++ row_for (given_by k) ∷ []) None
unfolding command_line walked
flag_walk ShowFlag rows pending new = ap (λ rs. between rs None) (used_once (codes "show") reading.AsWritten (codes "true") (rows_at rows pending) new)
flag_walk LiveFlag rows pending new = ap (λ rs. between rs None) (used_once (codes "live") reading.AsWritten (codes "true") (rows_at rows pending) new)

flag_fault : (k : Flag) (rows : List Row) (pending : Option (Text × List Text)) → settling rows pending ≡ [] → IsNew (rows_at rows pending) (given_by k)
    → turn_fault line [] (between rows pending) (codes "--" ++ flag_name k) ≡ []
unfolding command_line
flag_fault ShowFlag rows pending settles new = rw (settles, new) refl
flag_fault LiveFlag rows pending settles new = rw (settles, new) refl

one_fault : (w : Walk) (word : Text) → turn_fault line [] w word ≡ [] → walk_fault line [] w (word ∷ []) ≡ []
unfolding walk_fault
one_fault w word none = ap (λ kinds. or_else kinds []) none

-- the words lead to the option's row
abbrev Leads : List Row → Option (Text × List Text) → Setting → List Text → Type 0
Leads rows pending s words = LeadsTo (between rows pending) words (rows_at rows pending ++ row_for s ∷ [])

text_leads : (k : Valued) (text : Text) (words : List Text) (rows : List Row) (pending : Option (Text × List Text)) → settling rows pending ≡ []
    → IsInRange (with_text k text) → IsNew (rows_at rows pending) (with_text k text)
    → (words ≡ (codes "--" ++ name_for k) ∷ text ∷ []) ⊎ (words ≡ joined k text ∷ []) → Leads rows pending (with_text k text) words
text_leads k text words rows pending settles range new (inl is) =
    subst (Leads rows pending (with_text k text)) (sym is) (record {
      rows = rows_at rows pending;
      pending = Some (name_for k, text ∷ []);
      walk = separate_walk k text rows pending range;
      fault = separate_fault k text rows pending settles range;
      settles = text_settles k text (rows_at rows pending) range new;
      rows_are = text_row k text (rows_at rows pending) new;
    })
text_leads k text words rows pending settles range new (inr is) =
    subst (Leads rows pending (with_text k text)) (sym is) (record {
      rows = rows_at rows pending ++ row_for (with_text k text) ∷ [];
      pending = None;
      walk = joined_walk k text rows pending new;
      fault = one_fault (between rows pending) (joined k text) (joined_fault k text rows pending settles range new);
      settles = refl;
      rows_are = refl;
    })

flag_leads : (k : Flag) (words : List Text) (rows : List Row) (pending : Option (Text × List Text)) → settling rows pending ≡ []
    → IsNew (rows_at rows pending) (given_by k) → words ≡ (codes "--" ++ flag_name k) ∷ [] → Leads rows pending (given_by k) words
flag_leads k words rows pending settles new is =
    subst (Leads rows pending (given_by k)) (sym is) (record {
      rows = rows_at rows pending ++ row_for (given_by k) ∷ [];
      pending = None;
      walk = flag_walk k rows pending new;
      fault = one_fault (between rows pending) (codes "--" ++ flag_name k) (flag_fault k rows pending settles new);
      settles = refl;
      rows_are = refl;
    })

option_leads : (s : Setting) (words : List Text) (rows : List Row) (pending : Option (Text × List Text)) → settling rows pending ≡ []
    → IsInRange s → IsNew (rows_at rows pending) s → Give s words → Leads rows pending s words
option_leads (Width text) words rows pending settles range new give = text_leads Columns text words rows pending settles range new give
option_leads (Height text) words rows pending settles range new give = text_leads Rows text words rows pending settles range new give
option_leads (Terminal text) words rows pending settles range new give = text_leads Profiles text words rows pending settles range new give
option_leads (Every text) words rows pending settles range new give = text_leads Bytes text words rows pending settles range new give
option_leads Show words rows pending settles range new is = flag_leads ShowFlag words rows pending settles new is
option_leads Live words rows pending settles range new is = flag_leads LiveFlag words rows pending settles new is

-- ---- all of them

or_else_assoc : (a b c : Kinds) → or_else (or_else a b) c ≡ or_else a (or_else b c)
or_else_assoc [] b c = refl
or_else_assoc (k ∷ ks) b c = refl

faults_in_turn : (w : Walk) (first rest : List Text)
    → walk_fault line [] w (first ++ rest) ≡ or_else (walk_fault line [] w first) (walk_fault line [] (walked_over w first) rest)
unfolding walk_fault
faults_in_turn w [] rest = refl
faults_in_turn w (word ∷ first) rest =
    let next = walked line.rules [] w word in
    ap (or_else (turn_fault line [] w word)) (faults_in_turn next first rest)
    ∙ sym (or_else_assoc (turn_fault line [] w word) (walk_fault line [] next first) (walk_fault line [] (walked_over next first) rest))

-- the words are walked over without a fault; at their end these are the rows, with the pending option's, and no subcommand was met
pub record EndsWith (from : Walk) (words : List Text) (found : List Row) : Type 0 where
  pub rows : List Row
  pub pending : Option (Text × List Text)
  pub held_is : (walked_over from words).held ≡ held rows pending
  pub stopped_is : (walked_over from words).stopped ≡ None
  pub fault : walk_fault line [] from words ≡ []
  pub settles : settling rows pending ≡ []
  pub rows_are : rows_at rows pending ≡ found

ends_here : (words : List Text) (rows : List Row) (pending : Option (Text × List Text)) → settling rows pending ≡ [] → GiveAll [] words
    → EndsWith (between rows pending) words (rows_at rows pending ++ [])
unfolding walked walk_fault
ends_here words rows pending settles (inl is) = subst (λ ws. EndsWith (between rows pending) ws (rows_at rows pending ++ [])) (sym is) (record {
  rows = rows;
  pending = pending;
  held_is = refl;
  stopped_is = refl;
  fault = refl;
  settles = settles;
  rows_are = sym (append-nil (rows_at rows pending));
})
ends_here words rows pending settles (inr is) = subst (λ ws. EndsWith (between rows pending) ws (rows_at rows pending ++ [])) (sym is) (record {
  rows = rows;
  pending = pending;
  held_is = refl;
  stopped_is = refl;
  fault = refl;
  settles = settles;
  rows_are = sym (append-nil (rows_at rows pending));
})

ends_later : (from : Walk) (first rest : List Text) (before found : List Row) (lead : LeadsTo from first before)
    → EndsWith (between lead.rows lead.pending) rest found → EndsWith from (first ++ rest) found
ends_later from first rest before found lead end =
    let walk : walked_over from (first ++ rest) ≡ walked_over (between lead.rows lead.pending) rest =
    fold-append (walked line.rules []) from first rest ∙ ap (λ w. walked_over w rest) lead.walk in
    record {
      rows = end.rows;
      pending = end.pending;
      held_is = ap (λ (w : Walk). w.held) walk ∙ end.held_is;
      stopped_is = ap (λ (w : Walk). w.stopped) walk ∙ end.stopped_is;
      fault = faults_in_turn from first rest ∙ ap₂ or_else lead.fault (ap (λ w. walk_fault line [] w rest) lead.walk ∙ end.fault);
      settles = end.settles;
      rows_are = end.rows_are;
    }

pub row_named : (s : Setting) → (row_for s).id ≡ name_of s
row_named (Width text) = refl
row_named (Height text) = refl
row_named (Terminal text) = refl
row_named (Every text) = refl
row_named Show = refl
row_named Live = refl

still_new : (s : Setting) (rows : List Row) (remaining : List Setting) → AllByRecursion (λ name. bytes_eq (name_of s) name ≡ false) (map name_of remaining)
    → AllByRecursion (IsNew rows) remaining → AllByRecursion (IsNew (rows ++ row_for s ∷ [])) remaining
still_new s rows [] differ new = tt
still_new s rows (other ∷ remaining) differ new =
    let other_name : bytes_eq (row_for s).id (name_of other) ≡ false = ap (λ name. bytes_eq name (name_of other)) (row_named s) ∙ differ.0 in
    (has_more (name_of other) rows (row_for s) new.0 other_name, still_new s rows remaining differ.1 new.1)

ends_with : (settings : List Setting) (words : List Text) (rows : List Row) (pending : Option (Text × List Text)) → settling rows pending ≡ []
    → AllByRecursion IsInRange settings → IsDistinct bytes_eq (map name_of settings) → AllByRecursion (IsNew (rows_at rows pending)) settings → GiveAll settings words
    → EndsWith (between rows pending) words (rows_at rows pending ++ map row_for settings)
unfolding IsDistinct
ends_with [] words rows pending settles range distinct new give = ends_here words rows pending settles give
ends_with (s ∷ remaining) words rows pending settles range distinct new give =
    let before = rows_at rows pending in
    let lead = option_leads s give.0 rows pending settles range.0 new.0 give.3 in
    let still = subst (λ rs. AllByRecursion (IsNew rs) remaining) (sym lead.rows_are) (still_new s before remaining distinct.0 new.1) in
    let end = ends_with remaining give.1 lead.rows lead.pending lead.settles range.1 distinct.1 still give.4 in
    let found = ap (λ rs. rs ++ map row_for remaining) lead.rows_are ∙ append_assoc before (row_for s ∷ []) (map row_for remaining) in
    let all = ends_later (between rows pending) give.0 give.1 _ _ lead end in
    subst (EndsWith (between rows pending) words) found
    (subst (λ ws. EndsWith (between rows pending) ws (rows_at lead.rows lead.pending ++ map row_for remaining)) (sym give.2) all)

all_new : (settings : List Setting) → AllByRecursion (IsNew []) settings
all_new [] = tt
all_new (s ∷ remaining) = (refl, all_new remaining)

pub walk_ends : (settings : List Setting) (words : List Text) → AllByRecursion IsInRange settings → IsDistinct bytes_eq (map name_of settings) → GiveAll settings words
    → EndsWith (between [] None) words (map row_for settings)
walk_ends settings words range distinct give = ends_with settings words [] None refl range distinct (all_new settings) give
