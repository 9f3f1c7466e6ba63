-- Rows of the parser's matches: those of options that were given, and defaults after them.
use Rattle.std.proofs.Common.{◌≡◌, ◌∙◌, ◌||◌, cond, Bool, true, false, List, [], ◌∷◌, ◌++◌, Option, Some, None, is_some, refl, ap, sym, codes}
use Rattle.std.specs.Prelude.{find, flat_map, fold}
use Rattle.std.specs.Str.{bytes_eq}
use Rattle.std.proofs.lemmas.List.{append-nil}
use Rattle.std.proofs.lemmas.Slice.Eq.{bytes_eq-Decides}
use Rattle.clap.specs.Walk.{Row, Rule, Text, at_row, default_rows, has_row, more_values, with_default, with_values, reading_by, without}
use Rattle.clap.specs.declared.parser.matches.ValueSource.TheVariants.{DefaultValue, CommandLine}
use Rattle.clap.specs.declared.builder.value_parser.Reading.{Reading}
use Rattle.clap.specs.declared.builder.value_parser.Reading.TheVariants as reading
use Rattle.relay.specs.Settings.{Setting, Width, Height, Terminal, Every, Show, Live}

-- the row of an option that was given
abbrev pub row_with : Text → Reading → Text → Row
row_with id how text = record { id = id; values = text ∷ []; count = None; source = Some CommandLine; reading = how }

abbrev pub row_for : Setting → Row
row_for (Width text) = row_with (codes "width") reading.WithoutMinus text
row_for (Height text) = row_with (codes "height") reading.WithoutMinus text
row_for (Terminal text) = row_with (codes "terminal") reading.AsWritten text
row_for (Every text) = row_with (codes "every") reading.WithoutMinus text
row_for Show = row_with (codes "show") reading.AsWritten (codes "true")
row_for Live = row_with (codes "live") reading.AsWritten (codes "true")

abbrev pub find_row : Text → List Row → Option Row
find_row id rows = find (λ r. bytes_eq r.id id) rows

-- where no row has the id, the missing rows are added at the end
pub added : (id : Text) (change : Row → List Row) (missing rows : List Row) → has_row id rows ≡ false → at_row id change missing rows ≡ rows ++ missing
added id change missing [] none = refl
added id change missing (r ∷ rows) none = by_test (bytes_eq r.id id) none (added id change missing rows)
  where
    by_test : (t : Bool) → (t || has_row id rows) ≡ false → (has_row id rows ≡ false → at_row id change missing rows ≡ rows ++ missing)
        → cond t (change r ++ rows) (r ∷ at_row id change missing rows) ≡ r ∷ (rows ++ missing)
    by_test true e rest = absurd cc
    by_test false e rest = ap (λ more. r ∷ more) (rest e)

-- and no row is removed
pub kept : (id : Text) (rows : List Row) → has_row id rows ≡ false → without id rows ≡ rows
kept id rows none = added id (λ _. []) [] rows none ∙ append-nil rows

-- a first use of an option
pub used_once : (id : Text) (how : Reading) (text : Text) (rows : List Row) → has_row id rows ≡ false
    → with_values id how CommandLine (text ∷ []) (without id rows) ≡ rows ++ row_with id how text ∷ []
used_once id how text rows none =
    ap (with_values id how CommandLine (text ∷ [])) (kept id rows none) ∙ added id (more_values CommandLine (text ∷ [])) _ rows none

pub has_more : (id : Text) (rows : List Row) (r : Row) → has_row id rows ≡ false → bytes_eq r.id id ≡ false → has_row id (rows ++ r ∷ []) ≡ false
has_more id [] r none other = rw other refl
has_more id (x ∷ rows) r none other = by_test (bytes_eq x.id id) none (λ e. has_more id rows r e other)
  where
    by_test : (t : Bool) → (t || has_row id rows) ≡ false → (has_row id rows ≡ false → has_row id (rows ++ r ∷ []) ≡ false) → (t || has_row id (rows ++ r ∷ [])) ≡ false
    by_test true e rest = e
    by_test false e rest = rest e

-- conversely, where no row has the id, none before the last one has it, and the last one has another
pub had_none : (id : Text) (rows : List Row) (r : Row) → has_row id (rows ++ r ∷ []) ≡ false → (has_row id rows ≡ false) × (bytes_eq r.id id ≡ false)
had_none id [] r none = (refl, last (bytes_eq r.id id) none)
  where
    last : (t : Bool) → (t || false) ≡ false → t ≡ false
    last true e = e
    last false e = e
had_none id (x ∷ rows) r none = by_test (bytes_eq x.id id) none (had_none id rows r)
  where
    by_test : (t : Bool) → (t || has_row id (rows ++ r ∷ [])) ≡ false → (has_row id (rows ++ r ∷ []) ≡ false → (has_row id rows ≡ false) × (bytes_eq r.id id ≡ false))
        → ((t || has_row id rows) ≡ false) × (bytes_eq r.id id ≡ false)
    by_test true e rest = absurd cc
    by_test false e rest = rest e

-- a first row that is found is found in more rows too
abbrev pub or_row : Option Row → Option Row → Option Row
or_row None other = other
or_row (Some r) other = Some r

found_after : (id : Text) (rows more : List Row) → find_row id (rows ++ more) ≡ or_row (find_row id rows) (find_row id more)
found_after id [] more = refl
found_after id (r ∷ rows) more = by_test (bytes_eq r.id id) (found_after id rows more)
  where
    by_test : (t : Bool) → find_row id (rows ++ more) ≡ or_row (find_row id rows) (find_row id more)
        → cond t (Some r) (find_row id (rows ++ more)) ≡ or_row (cond t (Some r) (find_row id rows)) (find_row id more)
    by_test true rest = refl
    by_test false rest = rest

has_found : (id : Text) (rows : List Row) → has_row id rows ≡ is_some (find_row id rows)
has_found id [] = refl
has_found id (r ∷ rows) = by_test (bytes_eq r.id id) (has_found id rows)
  where
    by_test : (t : Bool) → has_row id rows ≡ is_some (find_row id rows) → (t || has_row id rows) ≡ is_some (cond t (Some r) (find_row id rows))
    by_test true rest = refl
    by_test false rest = rest

or_none : (o : Option Row) → or_row o None ≡ o
or_none None = refl
or_none (Some r) = refl

or_twice : (a b c : Option Row) → or_row (or_row a b) c ≡ or_row a (or_row b c)
or_twice None b c = refl
or_twice (Some r) b c = refl

-- the row of an option's default values
abbrev pub row_if_any : Rule → List Text → List Row
row_if_any a [] = []
row_if_any a (v ∷ vs) = record { id = a.id; values = v ∷ vs; count = None; source = Some DefaultValue; reading = reading_by a } ∷ []

abbrev pub default_rows_of : Rule → List Row
default_rows_of a = row_if_any a a.defaults

default_adds : (a : Rule) (rows : List Row) (values : List Text) → has_row a.id rows ≡ false → default_rows a.id (reading_by a) values rows ≡ rows ++ row_if_any a values
default_adds a rows [] none = sym (append-nil rows)
default_adds a rows (v ∷ vs) none = added a.id (more_values DefaultValue (v ∷ vs)) _ rows none

other_row : (id : Text) (a : Rule) (values : List Text) → bytes_eq a.id id ≡ false → find_row id (row_if_any a values) ≡ None
other_row id a [] other = refl
other_row id a (v ∷ vs) other = rw other refl

-- a default's row is found only where no row with its id was given
default_found : (id : Text) (rows : List Row) (a : Rule) → find_row id (with_default rows a) ≡ or_row (find_row id rows) (find_row id (default_rows_of a))
default_found id rows a = by_row (has_row a.id rows) refl
  where
    first : (o other : Option Row) → true ≡ is_some o → o ≡ or_row o other
    first None other e = absurd cc
    first (Some r) other e = refl

    by_id : (t : Bool) → bytes_eq a.id id ≡ t → has_row a.id rows ≡ true → find_row id rows ≡ or_row (find_row id rows) (find_row id (default_rows_of a))
    by_id true same there =
        let named : a.id ≡ id = (bytes_eq-Decides a.id id).0 same in
        first (find_row id rows) (find_row id (default_rows_of a)) (sym there ∙ ap (λ name. has_row name rows) named ∙ has_found id rows)
    by_id false other there = sym (ap (or_row (find_row id rows)) (other_row id a a.defaults other) ∙ or_none (find_row id rows))

    by_row : (t : Bool) → has_row a.id rows ≡ t
        → find_row id (cond t rows (default_rows a.id (reading_by a) a.defaults rows)) ≡ or_row (find_row id rows) (find_row id (default_rows_of a))
    by_row true there = by_id (bytes_eq a.id id) refl there
    by_row false none = ap (find_row id) (default_adds a rows a.defaults none) ∙ found_after id rows (default_rows_of a)

-- and so do all of them
pub defaults_found : (id : Text) (rules : List Rule) (rows : List Row)
    → find_row id (fold with_default rows rules) ≡ or_row (find_row id rows) (find_row id (flat_map default_rows_of rules))
defaults_found id [] rows = sym (or_none (find_row id rows))
defaults_found id (a ∷ rules) rows =
    let remaining = find_row id (flat_map default_rows_of rules) in
    defaults_found id rules (with_default rows a) ∙ ap (λ o. or_row o remaining) (default_found id rows a)
    ∙ or_twice (find_row id rows) (find_row id (default_rows_of a)) remaining
    ∙ ap (or_row (find_row id rows)) (sym (found_after id (default_rows_of a) (flat_map default_rows_of rules)))
