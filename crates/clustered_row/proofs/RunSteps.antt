-- Steps of edits of runs.
use Rattle.std.proofs.Common.{zero, suc, arith, ap, refl, sym, subst, inl, inr, ◌∙◌, ◌≡◌, ◌<◌, ◌≤◌, [], ◌∷◌, ◌++◌, ℕ, ◌+◌, ◌-◌, min, length, List, slice_index_or, slice_set, replicate, take, drop}
use Rattle.std.specs.List.{swap}
use Rattle.std.proofs.lemmas.List.{append_assoc, replicate-append-replicate, length-append, length-replicate, length-take-le, length-drop, length-set, take-append-drop, take-append-le, take_all, take-take, take-set-le, take_more, take_more_set, drop_at, drop_all, drop-replicate, drop-set-lt, drop_more, set_split, set-append_left, get_or-drop, get_or_default, get_or-replicate, get_or-set_other, get_or_append_left, get_or-take}
use Rattle.std.proofs.lemmas.Bool.{cases_lt}
use Rattle.std.proofs.lemmas.List.Concat.{get_or-flat_map}
use Rattle.std.proofs.lemmas.List.Edits.{swap_is}
use Rattle.std.proofs.lemmas.Grind.{drop_more_same}
use Rattle.cell_base.specs.Attributes.{Attributes}
use Rattle.clustered_row.specs.declared.run.Run.{Run}
use Rattle.clustered_row.specs.declared.run.Position.{Position}
use Rattle.clustered_row.specs.Runs.{columns_of, spread, AreMaximal}
use Rattle.clustered_row.specs.RunSteps.{counted, column_at, IsPosition, IsParted}
use Rattle.clustered_row.proofs.RunLists.{around, take_next, drop_next, spread-append, spread_last, length_parts, length_columns, length_next, whole_prefix, after_prefix, cut_prefix, cut_run, take_maximal, drop_maximal, other_last, some_last, one_more, other_first}

-- a number is below another that isn't at most it
pub below : (m n : ℕ) → (n ≤ m → ⊥) → m < n
below m n never = elim (cases_lt m n) [ inl less ↦ less | inr more ↦ absurd (never more) ]

-- The attributes at a position

pub found : (runs : List Run) (position : Position) (run : Run) (d : Attributes) → IsPosition runs position → position.index < length runs → run ≡ slice_index_or runs position.index run → slice_index_or (spread runs) (column_at runs position) d ≡ run.attributes
found runs position run d at within is =
    let inside : position.offset < run.count = at.inside run within is in
    let long : length (columns_of run) ≡ run.count = length_columns run in
    let fits : position.offset < length (columns_of run) = omega arith in
    let P : Run → Type 0 = λ r. position.offset < length (columns_of r) in
    get_or-flat_map columns_of runs position.index position.offset run d within (subst P is fits) ∙ ap (λ (r : Run). slice_index_or (columns_of r) position.offset d) (sym is) ∙ get_or-replicate run.count position.offset run.attributes d inside

-- The last run

pub some_runs : (xs : List Run) → 0 < length (spread xs) → 0 < length xs
some_runs [] some = absurd (omega arith)
some_runs (x ∷ xs) some = omega arith

pub last_of : (xs : List Run) (n : ℕ) (last : Run) → length xs ≡ n + 1 → last ≡ slice_index_or xs n last → xs ≡ take n xs ++ last ∷ []
last_of xs n last long is = sym (take_all (n + 1) xs (omega arith)) ∙ take_next xs n last (omega arith) is

pub set_last : (xs : List Run) (n : ℕ) (s : Run) → length xs ≡ n + 1 → slice_set xs n s ≡ take n xs ++ s ∷ []
set_last xs n s long = set_split xs n s (omega arith) ∙ ap (λ ys. take n xs ++ s ∷ ys) (drop_all (suc n) xs (omega arith))

pub grown_columns : (xs : List Run) (n by : ℕ) (last : Run) → length xs ≡ n + 1 → last ≡ slice_index_or xs n last → spread (slice_set xs n (counted last (last.count + by))) ≡ spread xs ++ replicate by last.attributes
grown_columns xs n by last long is =
    ap spread (set_last xs n (counted last (last.count + by)) long) ∙ spread_last (take n xs) (counted last (last.count + by)) ∙
    ap (λ ys. spread (take n xs) ++ ys) (sym (replicate-append-replicate last.count by last.attributes)) ∙ sym (append_assoc (spread (take n xs)) (columns_of last) (replicate by last.attributes)) ∙
    ap (λ ys. ys ++ replicate by last.attributes) (sym (spread_last (take n xs) last) ∙ ap spread (sym (last_of xs n last long is)))

-- the last run has another count, but some
pub recounted_maximal : (xs : List Run) (n : ℕ) (last s : Run) → length xs ≡ n + 1 → last ≡ slice_index_or xs n last → last.attributes ≡ s.attributes → 0 < s.count → AreMaximal xs → AreMaximal (slice_set xs n s)
recounted_maximal xs n last s long is same some h =
    subst AreMaximal (sym (set_last xs n s long)) (other_last (take n xs) last s same some (subst AreMaximal (last_of xs n last long is) h))

-- one run more after a last one that is full, or has other attributes
pub more_maximal : (xs : List Run) (n : ℕ) (last s r : Run) → length xs ≡ n + 1 → last ≡ slice_index_or xs n last → last.attributes ≡ s.attributes → (s.attributes ≡ r.attributes → s.count ≡ 4294967295) → 0 < s.count → 0 < r.count → AreMaximal xs → AreMaximal (slice_set xs n s ++ r ∷ [])
more_maximal xs n last s r long is same independent some more h =
    subst AreMaximal (sym (append_assoc (take n xs) (s ∷ []) (r ∷ [])) ∙ ap (λ ys. ys ++ r ∷ []) (sym (set_last xs n s long)))
    (one_more (take n xs) s r (other_last (take n xs) last s same some (subst AreMaximal (last_of xs n last long is) h)) independent more)

pub some_columns : (xs : List Run) (n : ℕ) (last : Run) → length xs ≡ n + 1 → last ≡ slice_index_or xs n last → AreMaximal xs → 0 < last.count
some_columns xs n last long is h = some_last (take n xs) last (subst AreMaximal (last_of xs n last long is) h)

pub grown_maximal : (xs : List Run) (n by : ℕ) (last : Run) → length xs ≡ n + 1 → last ≡ slice_index_or xs n last → AreMaximal xs → AreMaximal (slice_set xs n (counted last (last.count + by)))
grown_maximal xs n by last long is h =
    let some = some_columns xs n last long is h in
    recounted_maximal xs n last (counted last (last.count + by)) long is refl (omega arith) h

pub pushed_maximal : (xs : List Run) (r : Run) → 0 < r.count → ((last : Run) → 0 < length xs → last ≡ slice_index_or xs (length xs - 1) last → last.attributes ≡ r.attributes → last.count ≡ 4294967295) → AreMaximal xs → AreMaximal (xs ++ r ∷ [])
pushed_maximal [] r some independent h = (some, tt, tt)
pushed_maximal (x ∷ ys) r some independent h =
    let xs = x ∷ ys in
    let n = length ys in
    let last : Run = slice_index_or xs n x in
    let is : last ≡ slice_index_or xs n last = get_or_default xs n x last (omega arith) in
    let long : length xs ≡ n + 1 = omega arith in
    let here : n ≡ length xs - 1 = omega arith in
    let e = last_of xs n last long is in
    subst AreMaximal (sym (append_assoc (take n xs) (last ∷ []) (r ∷ [])) ∙ ap (λ zs. zs ++ r ∷ []) (sym e))
    (one_more (take n xs) last r (subst AreMaximal e h) (independent last (omega arith) (is ∙ ap (λ m. slice_index_or xs m last) here)) some)

-- the last run is filled, and one more after it
pub filled_columns : (xs : List Run) (n by : ℕ) (last r : Run) → length xs ≡ n + 1 → last ≡ slice_index_or xs n last → last.attributes ≡ r.attributes → spread (slice_set (xs ++ r ∷ []) n (counted last (last.count + by))) ≡ spread xs ++ replicate (by + r.count) r.attributes
filled_columns xs n by last r long is same =
    let s = counted last (last.count + by) in
    ap spread (set-append_left xs (r ∷ []) n s (omega arith)) ∙ spread_last (slice_set xs n s) r ∙ ap (λ ys. ys ++ columns_of r) (grown_columns xs n by last long is) ∙
    append_assoc (spread xs) (replicate by last.attributes) (columns_of r) ∙ ap (λ a. spread xs ++ (replicate by a ++ columns_of r)) same ∙ ap (λ ys. spread xs ++ ys) (replicate-append-replicate by r.count r.attributes)

pub filled_maximal : (xs : List Run) (n by : ℕ) (last r : Run) → length xs ≡ n + 1 → last ≡ slice_index_or xs n last → last.count + by ≡ 4294967295 → 0 < r.count → AreMaximal xs → AreMaximal (slice_set (xs ++ r ∷ []) n (counted last (last.count + by)))
filled_maximal xs n by last r long is full some h =
    let s = counted last (last.count + by) in
    let any = some_columns xs n last long is h in
    subst AreMaximal (sym (set-append_left xs (r ∷ []) n s (omega arith))) (more_maximal xs n last s r long is refl (λ e. full) (omega arith) some h)

-- the columns before the last run, and its own
pub length_last : (xs : List Run) (n : ℕ) (last : Run) → length xs ≡ n + 1 → last ≡ slice_index_or xs n last → length (spread xs) ≡ length (spread (take n xs)) + last.count
length_last xs n last long is = ap (λ ys. length (spread ys)) (sym (take_all (n + 1) xs (omega arith))) ∙ length_next xs n last (omega arith) is

-- columns of the last run go
pub shorter_columns : (xs : List Run) (n by : ℕ) (last : Run) → length xs ≡ n + 1 → last ≡ slice_index_or xs n last → by < last.count → spread (slice_set xs n (counted last (last.count - by))) ≡ take (length (spread xs) - by) (spread xs)
shorter_columns xs n by last long is less =
    let k = last.count - by in
    let whole = length_last xs n last long is in
    let counts : length (spread (take n xs)) + k ≡ length (spread xs) - by = omega arith in
    ap spread (set_last xs n (counted last k) long) ∙ sym (cut_prefix (take n xs) last [] k (omega arith)) ∙ ap (λ ys. take (length (spread (take n xs)) + k) (spread ys)) (sym (last_of xs n last long is)) ∙ ap (λ m. take m (spread xs)) counts

-- Between two positions

-- n columns of one run, from its offset l on, have the run's attributes
pub held : (xs : List Run) (i l n : ℕ) (run : Run) → i < length xs → run ≡ slice_index_or xs i run → l + n ≤ run.count → spread xs ≡ take (length (spread (take i xs)) + l) (spread xs) ++ replicate n run.attributes ++ drop (length (spread (take i xs)) + (l + n)) (spread xs)
held xs i l n run within is fits =
    let at = length (spread (take i xs)) in
    let prefix = take i xs in
    let after = drop (i + 1) xs in
    let whole : spread xs ≡ spread (prefix ++ run ∷ after) = ap spread (around xs i run within is) in
    let some : take (at + l) (spread xs) ≡ spread prefix ++ replicate l run.attributes = ap (λ ys. take (at + l) ys) whole ∙ cut_prefix prefix run after l (omega arith) ∙ spread_last prefix (counted run l) in
    let more : take (at + (l + n)) (spread xs) ≡ spread prefix ++ replicate (l + n) run.attributes = ap (λ ys. take (at + (l + n)) ys) whole ∙ cut_prefix prefix run after (l + n) fits ∙ spread_last prefix (counted run (l + n)) in
    sym (take-append-drop (at + (l + n)) (spread xs)) ∙ ap (λ ys. ys ++ drop (at + (l + n)) (spread xs))
    (more ∙ ap (λ ys. spread prefix ++ ys) (sym (replicate-append-replicate l n run.attributes)) ∙ sym (append_assoc (spread prefix) (replicate l run.attributes) (replicate n run.attributes)) ∙ ap (λ ys. ys ++ replicate n run.attributes) (sym some))

-- the columns from a position on, before `b`, within its run, have the attributes already
pub set_already : (xs : List Run) (from : Position) (run : Run) (b : ℕ) (a : Attributes) → from.index < length xs → run ≡ slice_index_or xs from.index run → run.attributes ≡ a → column_at xs from < b → b ≤ length (spread (take (from.index + 1) xs)) → spread xs ≡ take (column_at xs from) (spread xs) ++ replicate (b - column_at xs from) a ++ drop b (spread xs)
set_already xs from run b a within is same less most =
    let at = length (spread (take from.index xs)) in
    let n = b - column_at xs from in
    let more : length (spread (take (from.index + 1) xs)) ≡ at + run.count = length_next xs from.index run within is in
    let here : at + (from.offset + n) ≡ b = omega arith in
    held xs from.index from.offset n run within is (omega arith) ∙ ap (λ x. take (column_at xs from) (spread xs) ++ replicate n x ++ drop (at + (from.offset + n)) (spread xs)) same ∙ ap (λ m. take (column_at xs from) (spread xs) ++ replicate n a ++ drop m (spread xs)) here

-- a run has no more columns than there are
pub count_fits : (xs : List Run) (i : ℕ) (run : Run) → i < length xs → run ≡ slice_index_or xs i run → run.count ≤ length (spread xs)
count_fits xs i run within is = omega (arith, length_parts xs (i + 1), length_next xs i run within is)

-- the columns before a position at which a run begins
pub parted_whole : (xs : List Run) (from to : Position) → IsPosition xs to → from.index ≤ to.index → from.offset ≡ 0 → AreMaximal xs → IsParted (column_at xs from) (column_at xs to) xs xs from.index to
parted_whole xs from to at order none h =
    let here : length (spread (take from.index xs)) ≡ column_at xs from = omega arith in
    let long = length_parts xs to.index in
    record {
      prefix = sym (whole_prefix xs from.index) ∙ ap (λ n. take n (spread xs)) here;
      after = sym (after_prefix xs to.index to.offset);
      order = order;
      at = at;
      fewer = omega (arith, long);
      prefix_maximal = take_maximal from.index xs h;
      after_maximal = drop_maximal to.index xs h;
    }

-- a position after a run that has another count
pub position_after : (xs : List Run) (i : ℕ) (s : Run) (position : Position) → i < position.index → IsPosition xs position → IsPosition (slice_set xs i s) position
position_after xs i s position less at =
    let long = length-set xs i s in
    record {
      within = omega (arith, long, at.within);
      inside = λ run within is. at.inside run (omega (arith, long)) (is ∙ get_or-set_other xs i position.index s run (λ e. absurd (omega (arith, e))));
      after = λ e. at.after (omega (arith, long));
    }

-- the columns before a position within a run before the other position
pub parted_run : (xs : List Run) (from to : Position) (run : Run) → IsPosition xs from → IsPosition xs to → from.index < to.index → 0 < from.offset → from.index < length xs → run ≡ slice_index_or xs from.index run → AreMaximal xs → IsParted (column_at xs from) (column_at xs to) xs (slice_set xs from.index (counted run from.offset)) (from.index + 1) to
parted_run xs from to run here there less some within is h =
    let i = from.index in
    let s = counted run from.offset in
    let new = slice_set xs i s in
    let inside : from.offset < run.count = here.inside run within is in
    let first : take (i + 1) new ≡ take i xs ++ s ∷ [] = take_more_set xs i s within in
    let last : drop to.index new ≡ drop to.index xs = drop-set-lt to.index xs i s less in
    let long = length_parts xs to.index in
    let same : length (spread (drop to.index new)) ≡ length (spread (drop to.index xs)) = ap (λ ys. length (spread ys)) last in
    record {
      prefix = ap spread first ∙ sym (cut_prefix (take i xs) run (drop (i + 1) xs) from.offset (omega arith)) ∙ ap (λ ys. take (column_at xs from) (spread ys)) (sym (around xs i run within is));
      after = ap (λ ys. drop to.offset (spread ys)) last ∙ sym (after_prefix xs to.index to.offset);
      order = omega arith;
      at = position_after xs i s to less there;
      fewer = omega (arith, long, same);
      prefix_maximal = subst AreMaximal (sym first) (other_last (take i xs) run s refl some (subst AreMaximal (take_next xs i run within is) (take_maximal (i + 1) xs h)));
      after_maximal = subst AreMaximal (sym last) (drop_maximal to.index xs h);
    }

pub length_first : (run : Run) (after : List Run) → length (spread (run ∷ after)) ≡ run.count + length (spread after)
length_first run after = length-append (columns_of run) (spread after) ∙ ap (λ n. n + length (spread after)) (length_columns run)

-- the rest of a run after its first k columns, and the runs after it
pub rest_columns : (xs : List Run) (i k : ℕ) (run : Run) → i < length xs → run ≡ slice_index_or xs i run → k ≤ run.count → spread (counted run (run.count - k) ∷ drop (i + 1) xs) ≡ drop k (spread (drop i xs))
rest_columns xs i k run within is fits =
    sym (cut_run run (drop (i + 1) xs) k fits) ∙ ap (λ ys. drop k (spread ys)) (sym (drop_next xs i run within is))

pub rest_maximal : (xs : List Run) (i k : ℕ) (run : Run) → i < length xs → run ≡ slice_index_or xs i run → k < run.count → length (spread (drop i xs)) ≤ 4294967295 → AreMaximal (drop i xs) → AreMaximal (counted run (run.count - k) ∷ drop (i + 1) xs)
rest_maximal xs i k run within is less fits h =
    let after = drop (i + 1) xs in
    let long : length (spread (drop i xs)) ≡ run.count + length (spread after) = ap (λ ys. length (spread ys)) (drop_next xs i run within is) ∙ length_first run after in
    other_first run (counted run (run.count - k)) after refl (omega arith) (omega arith) (subst AreMaximal (drop_next xs i run within is) h)

-- a run in two parts
abbrev pub in_two : List Run → ℕ → Run → ℕ → List Run
in_two xs i run k = slice_set (take (i + 1) xs ++ counted run (run.count - k) ∷ drop (i + 1) xs) i (counted run k)

two_prefix : (xs : List Run) (i k : ℕ) (run : Run) → i < length xs → take (i + 1) (in_two xs i run k) ≡ take i xs ++ counted run k ∷ []
two_prefix xs i k run within =
    let prefix = take (i + 1) xs in
    let all = prefix ++ counted run (run.count - k) ∷ drop (i + 1) xs in
    let taken : length prefix ≡ i + 1 = length-take-le (i + 1) xs (omega arith) in
    let long = length-append prefix (counted run (run.count - k) ∷ drop (i + 1) xs) in
    take_more_set all i (counted run k) (omega arith) ∙ ap (λ ys. ys ++ counted run k ∷ []) (take-append-le i prefix (counted run (run.count - k) ∷ drop (i + 1) xs) (omega arith) ∙ take-take i (i + 1) xs (omega arith))

two_after : (xs : List Run) (i k : ℕ) (run : Run) → i < length xs → drop (i + 1) (in_two xs i run k) ≡ counted run (run.count - k) ∷ drop (i + 1) xs
two_after xs i k run within =
    drop-set-lt (i + 1) (take (i + 1) xs ++ counted run (run.count - k) ∷ drop (i + 1) xs) i (counted run k) (omega arith) ∙ drop_at (take (i + 1) xs) (counted run (run.count - k) ∷ drop (i + 1) xs) (i + 1) (length-take-le (i + 1) xs (omega arith))

two_length : (xs : List Run) (i k : ℕ) (run : Run) → i < length xs → length (in_two xs i run k) ≡ length xs + 1
two_length xs i k run within =
    let rest = counted run (run.count - k) in
    let e = length-set (take (i + 1) xs ++ rest ∷ drop (i + 1) xs) i (counted run k) in
    let f = length-append (take (i + 1) xs) (rest ∷ drop (i + 1) xs) in
    let g = length-take-le (i + 1) xs (omega arith) in
    let h = length-drop (i + 1) xs in
    omega arith

two_second : (xs : List Run) (i k : ℕ) (run d : Run) → i < length xs → slice_index_or (in_two xs i run k) (i + 1) d ≡ counted run (run.count - k)
two_second xs i k run d within =
    let long = two_length xs i k run within in
    let e : counted run (run.count - k) ∷ drop (i + 1) xs ≡ slice_index_or (in_two xs i run k) (i + 1) d ∷ drop (i + 1 + 1) (in_two xs i run k) = sym (two_after xs i k run within) ∙ drop_more (in_two xs i run k) (i + 1) d (omega arith) in
    cc

-- with the second part of a split run after it, the run keeps its index
pub two_first : (xs : List Run) (i : ℕ) (rest d : Run) → i < length xs → slice_index_or (take (i + 1) xs ++ rest ∷ drop (i + 1) xs) i d ≡ slice_index_or xs i d
two_first xs i rest d within =
    let taken : length (take (i + 1) xs) ≡ i + 1 = length-take-le (i + 1) xs (omega arith) in
    get_or_append_left (take (i + 1) xs) (rest ∷ drop (i + 1) xs) d i (omega arith) ∙ get_or-take (i + 1) xs i d (omega arith)

-- the columns before a position within the run that holds the other position too
pub parted_two : (xs : List Run) (i k m : ℕ) (run : Run) → i < length xs → run ≡ slice_index_or xs i run → 0 < k → k < m → m < run.count → length (spread xs) ≤ 4294967295 → AreMaximal xs → IsParted (column_at xs (record { index = i; offset = k })) (column_at xs (record { index = i; offset = m })) xs (in_two xs i run k) (i + 1) (record { index = i + 1; offset = m - k })
parted_two xs i k m run within is some less inside fits h =
    let s = counted run k in
    let rest = counted run (run.count - k) in
    let after = drop (i + 1) xs in
    let new = in_two xs i run k in
    let at = length (spread (take i xs)) in
    let first = two_prefix xs i k run within in
    let second = two_after xs i k run within in
    let grown = two_length xs i k run within in
    let long = length_parts xs i in
    let part : length (spread (drop (i + 1) new)) ≡ run.count - k + length (spread after) = ap (λ ys. length (spread ys)) second ∙ length_first rest after in
    let whole : length (spread (drop i xs)) ≡ run.count + length (spread after) = ap (λ ys. length (spread ys)) (drop_next xs i run within is) ∙ length_first run after in
    let left : run.count - k - (m - k) ≡ run.count - m = omega arith in
    record {
      prefix = ap spread first ∙ sym (cut_prefix (take i xs) run after k (omega arith)) ∙ ap (λ ys. take (at + k) (spread ys)) (sym (around xs i run within is));
      after = ap (λ ys. drop (m - k) (spread ys)) second ∙ cut_run rest after (m - k) (omega arith) ∙ ap (λ n. spread (counted run n ∷ after)) left ∙ rest_columns xs i m run within is (omega arith) ∙ sym (after_prefix xs i m);
      order = omega arith;
      at = record {
        within = omega (arith, grown);
        inside = λ r there e. subst (λ (x : Run). m - k < x.count) (sym (e ∙ two_second xs i k run r within)) (omega arith);
        after = λ e. absurd (omega (arith, grown));
      };
      fewer = omega (arith, long, part, whole);
      prefix_maximal = subst AreMaximal (sym first) (other_last (take i xs) run s refl some (subst AreMaximal (take_next xs i run within is) (take_maximal (i + 1) xs h)));
      after_maximal = subst AreMaximal (sym second) (rest_maximal xs i k run within is (omega arith) (omega (arith, long)) (drop_maximal i xs h));
    }

-- Runs are removed

pub moved_prefix : (xs old : List Run) (from to k : ℕ) (d : Run) → from < to → to + k < length xs → length xs ≡ length old → take (from + k) xs ≡ take from old ++ take k (drop to old) → drop (to + k) xs ≡ drop (to + k) old → take (from + (k + 1)) (swap xs (from + k) (to + k)) ≡ take from old ++ take (k + 1) (drop to old)
moved_prefix xs old from to k d less within long done left =
    let i = from + k in
    let j = to + k in
    let y = slice_index_or xs j d in
    let z = slice_index_or xs i d in
    let fewer = length-drop to old in
    let heads : y ∷ drop (j + 1) xs ≡ slice_index_or old j d ∷ drop (j + 1) old = sym (drop_more xs j d within) ∙ left ∙ drop_more old j d (omega arith) in
    let same : y ≡ slice_index_or (drop to old) k d = ap (λ ys. slice_index_or ys 0 d) heads ∙ sym (get_or-drop to old k d) in
    let next : from + (k + 1) ≡ i + 1 = omega arith in
    ap (λ n. take n (swap xs i j)) next ∙ ap (λ ys. take (i + 1) ys) (sym (swap_is xs i j d (omega arith) within)) ∙ take-set-le (i + 1) (slice_set xs i y) j z (omega arith) ∙ take_more_set xs i y (omega arith) ∙
    ap (λ ys. ys ++ y ∷ []) done ∙ append_assoc (take from old) (take k (drop to old)) (y ∷ []) ∙ ap (λ (x : Run). take from old ++ (take k (drop to old) ++ x ∷ [])) same ∙ ap (λ ys. take from old ++ ys) (sym (take_more (drop to old) k d (omega arith)))

pub moved_after : (xs old : List Run) (from to k : ℕ) (d : Run) → from < to → to + k < length xs → drop (to + k) xs ≡ drop (to + k) old → drop (to + (k + 1)) (swap xs (from + k) (to + k)) ≡ drop (to + (k + 1)) old
moved_after xs old from to k d less within left =
    let i = from + k in
    let j = to + k in
    let y = slice_index_or xs j d in
    let z = slice_index_or xs i d in
    let next : to + (k + 1) ≡ j + 1 = omega arith in
    ap (λ n. drop n (swap xs i j)) next ∙ ap (λ ys. drop (j + 1) ys) (sym (swap_is xs i j d (omega arith) within)) ∙ drop-set-lt (j + 1) (slice_set xs i y) j z (omega arith) ∙ drop-set-lt (j + 1) xs i y (omega arith) ∙ drop_more_same xs old j left ∙ ap (λ n. drop n old) (sym next)

-- A run between other runs

pub put_columns : (xs : List Run) (kept from at to : ℕ) (run first second : Run) → spread (take from xs) ++ columns_of first ≡ spread (take kept xs) ++ columns_of run → columns_of second ++ spread (drop to xs) ≡ columns_of first ++ spread (drop at xs) → spread (take from xs ++ second ∷ drop to xs) ≡ spread (take kept xs) ++ columns_of run ++ spread (drop at xs)
put_columns xs kept from at to run first second p q =
    spread-append (take from xs) (second ∷ drop to xs) ∙ ap (λ ys. spread (take from xs) ++ ys) q ∙ sym (append_assoc (spread (take from xs)) (columns_of first) (spread (drop at xs))) ∙ ap (λ ys. ys ++ spread (drop at xs)) p

-- a run is counted to the one after it
pub joined_columns : (xs : List Run) (n : ℕ) (last run : Run) → n < length xs → last ≡ slice_index_or xs n last → last.attributes ≡ run.attributes → spread (take n xs) ++ columns_of (counted run (run.count + last.count)) ≡ spread (take (n + 1) xs) ++ columns_of run
joined_columns xs n last run within is same =
    let sums : run.count + last.count ≡ last.count + run.count = omega arith in
    ap (λ m. spread (take n xs) ++ replicate m run.attributes) sums ∙ ap (λ ys. spread (take n xs) ++ ys) (sym (replicate-append-replicate last.count run.count run.attributes)) ∙
    sym (append_assoc (spread (take n xs)) (replicate last.count run.attributes) (columns_of run)) ∙ ap (λ a. spread (take n xs) ++ replicate last.count a ++ columns_of run) (sym same) ∙
    ap (λ ys. ys ++ columns_of run) (sym (spread_last (take n xs) last) ∙ ap spread (sym (take_next xs n last within is)))

pub joined_prefix : (xs : List Run) (n : ℕ) (last s : Run) → n < length xs → last ≡ slice_index_or xs n last → last.attributes ≡ s.attributes → 0 < s.count → AreMaximal (take (n + 1) xs) → AreMaximal (take n xs ++ s ∷ [])
joined_prefix xs n last s within is same some h = other_last (take n xs) last s same some (subst AreMaximal (take_next xs n last within is) h)

pub independent_prefix : (xs : List Run) (n : ℕ) (last s : Run) → n < length xs → last ≡ slice_index_or xs n last → (last.attributes ≡ s.attributes → ⊥) → 0 < s.count → AreMaximal (take (n + 1) xs) → AreMaximal (take (n + 1) xs ++ s ∷ [])
independent_prefix xs n last s within is differ some h =
    let e = take_next xs n last within is in
    subst AreMaximal (sym (append_assoc (take n xs) (last ∷ []) (s ∷ [])) ∙ ap (λ ys. ys ++ s ∷ []) (sym e)) (one_more (take n xs) last s (subst AreMaximal e h) (λ same. absurd (differ same)) some)

-- a run is counted to the one before it
pub joined_after_columns : (xs : List Run) (n : ℕ) (next run : Run) → n < length xs → next ≡ slice_index_or xs n next → next.attributes ≡ run.attributes → columns_of (counted run (run.count + next.count)) ++ spread (drop (n + 1) xs) ≡ columns_of run ++ spread (drop n xs)
joined_after_columns xs n next run within is same =
    ap (λ ys. ys ++ spread (drop (n + 1) xs)) (sym (replicate-append-replicate run.count next.count run.attributes)) ∙ append_assoc (columns_of run) (replicate next.count run.attributes) (spread (drop (n + 1) xs)) ∙
    ap (λ a. columns_of run ++ (replicate next.count a ++ spread (drop (n + 1) xs))) (sym same) ∙ ap (λ ys. columns_of run ++ spread ys) (sym (drop_next xs n next within is))

-- Columns of other runs

drop_over : (n : ℕ) (xs ys : List Attributes) → drop n (xs ++ ys) ≡ drop n xs ++ drop (n - length xs) ys
drop_over zero [] ys = refl
drop_over (suc n) [] ys = let e : suc n ≡ suc n - 0 = omega arith in ap (λ m. drop m ys) e
drop_over zero (x ∷ xs) ys = let e : 0 ≡ 0 - suc (length xs) = omega arith in ap (λ m. (x ∷ xs) ++ drop m ys) e
drop_over (suc n) (x ∷ xs) ys = let e : n - length xs ≡ suc n - suc (length xs) = omega arith in drop_over n xs ys ∙ ap (λ m. drop n xs ++ drop m ys) e

take_over : (n : ℕ) (xs ys : List Attributes) → take n (xs ++ ys) ≡ take n xs ++ take (n - length xs) ys
take_over zero [] ys = refl
take_over (suc n) [] ys = let e : suc n ≡ suc n - 0 = omega arith in ap (λ m. take m ys) e
take_over zero (x ∷ xs) ys = let e : 0 ≡ 0 - suc (length xs) = omega arith in ap (λ m. take m ys) e
take_over (suc n) (x ∷ xs) ys = let e : n - length xs ≡ suc n - suc (length xs) = omega arith in ap (λ zs. x ∷ zs) (take_over n xs ys) ∙ ap (λ m. (x ∷ take n xs) ++ take m ys) e

take_some : (count n part : ℕ) (a : Attributes) → part ≡ min count n → take count (replicate n a) ≡ replicate part a
take_some zero n part a e = ap (λ m. replicate m a) (let f : 0 ≡ part = omega (arith, e) in f)
take_some (suc count) zero part a e = ap (λ m. replicate m a) (let f : 0 ≡ part = omega (arith, e) in f)
take_some (suc count) (suc n) part a e = ap (λ ys. a ∷ ys) (take_some count n (part - 1) a (omega (arith, e))) ∙ ap (λ m. replicate m a) (let f : suc (part - 1) ≡ part = omega (arith, e) in f)

-- `count` columns of a run and of those after it, from offset `skip` on: first those of the run, then those of the runs after it
pub next_part : (run : Run) (after : List Run) (skip count skipped part : ℕ) → skipped ≡ min skip run.count → part ≡ min count (run.count - skipped) → take count (drop skip (spread (run ∷ after))) ≡ replicate part run.attributes ++ take (count - part) (drop (skip - skipped) (spread after))
next_part run after skip count skipped part e f =
    let c = run.count in
    let a = run.attributes in
    let dropped : skip - length (columns_of run) ≡ skip - skipped = let g = length_columns run in omega (arith, e, g) in
    let left : c - skip ≡ c - skipped = omega (arith, e) in
    let rest = drop (skip - skipped) (spread after) in
    let prefix : take count (replicate (c - skipped) a) ≡ replicate part a = take_some count (c - skipped) part a f in
    let more : count - length (replicate (c - skipped) a) ≡ count - part = let g = length-replicate (c - skipped) a in omega (arith, f, g) in
    ap (λ ys. take count ys) (drop_over skip (columns_of run) (spread after) ∙ ap (λ n. drop skip (columns_of run) ++ drop n (spread after)) dropped ∙ ap (λ ys. ys ++ rest) (drop-replicate skip c a ∙ ap (λ n. replicate n a) left)) ∙
    take_over count (replicate (c - skipped) a) rest ∙ ap (λ ys. ys ++ take (count - length (replicate (c - skipped) a)) rest) prefix ∙ ap (λ n. replicate part a ++ take n rest) more

-- lists that begin alike
pub same_prefix : (xs ys : List Run) (k n : ℕ) → k ≤ n → take n xs ≡ take n ys → take k xs ≡ take k ys
same_prefix xs ys k n less e = sym (take-take k n xs less) ∙ ap (λ zs. take k zs) e ∙ take-take k n ys less

pub counts_of : (xs ys : List Attributes) (r s : Run) → xs ++ columns_of r ≡ ys ++ columns_of s → length xs + r.count ≡ length ys + s.count
counts_of xs ys r s e =
    omega (arith, ap length e, length-append xs (columns_of r), length-append ys (columns_of s), length_columns r, length_columns s)
