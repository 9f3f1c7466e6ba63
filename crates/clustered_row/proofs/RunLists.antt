-- Columns of lists of runs, and the changes that keep runs maximal.
use Rattle.std.proofs.Common.{zero, suc, arith, ap, refl, sym, ◌∙◌, ◌≡◌, ◌<◌, ◌≤◌, [], ◌∷◌, ◌++◌, ℕ, ◌+◌, ◌-◌, length, List, slice_index_or, take, drop}
use Rattle.std.proofs.lemmas.List.{append-nil, take-append-le, take-replicate, drop-replicate, drop-append-le, length-replicate, length-append, take-append-drop, take_at, drop_more, take_more}
use Rattle.std.proofs.lemmas.List.Concat.{flat_map-append}
use Rattle.std.proofs.Math.Seq.{take-append-add, drop-append-add}
use Rattle.clustered_row.specs.declared.run.Run.{Run}
use Rattle.clustered_row.specs.Runs.{columns_of, spread, IsMaximal, AreMaximal}
use Rattle.clustered_row.specs.RunSteps.{counted}

-- a list around one of its runs
pub around : (xs : List Run) (i : ℕ) (run : Run) → i < length xs → run ≡ slice_index_or xs i run → xs ≡ take i xs ++ run ∷ drop (i + 1) xs
around xs i run within is =
    sym (take-append-drop i xs) ∙ ap (λ ys. take i xs ++ ys) (drop_more xs i run within ∙ ap (λ (r : Run). r ∷ drop (i + 1) xs) (sym is))

-- the first runs and one more
pub take_next : (xs : List Run) (i : ℕ) (run : Run) → i < length xs → run ≡ slice_index_or xs i run → take (i + 1) xs ≡ take i xs ++ run ∷ []
take_next xs i run within is = take_more xs i run within ∙ ap (λ (r : Run). take i xs ++ r ∷ []) (sym is)

-- the runs from one on
pub drop_next : (xs : List Run) (i : ℕ) (run : Run) → i < length xs → run ≡ slice_index_or xs i run → drop i xs ≡ run ∷ drop (i + 1) xs
drop_next xs i run within is = drop_more xs i run within ∙ ap (λ (r : Run). r ∷ drop (i + 1) xs) (sym is)

pub spread-append : (xs ys : List Run) → spread (xs ++ ys) ≡ spread xs ++ spread ys
spread-append xs ys = flat_map-append columns_of xs ys

pub spread_last : (xs : List Run) (run : Run) → spread (xs ++ run ∷ []) ≡ spread xs ++ columns_of run
spread_last xs run = spread-append xs (run ∷ []) ∙ ap (λ ys. spread xs ++ ys) (append-nil (columns_of run))

pub spread_parts : (xs : List Run) (i : ℕ) → spread xs ≡ spread (take i xs) ++ spread (drop i xs)
spread_parts xs i = ap spread (sym (take-append-drop i xs)) ∙ spread-append (take i xs) (drop i xs)

pub length_parts : (xs : List Run) (i : ℕ) → length (spread xs) ≡ length (spread (take i xs)) + length (spread (drop i xs))
length_parts xs i = ap length (spread_parts xs i) ∙ length-append (spread (take i xs)) (spread (drop i xs))

pub length_columns : (run : Run) → length (columns_of run) ≡ run.count
length_columns run = length-replicate run.count run.attributes

pub length_next : (xs : List Run) (i : ℕ) (run : Run) → i < length xs → run ≡ slice_index_or xs i run → length (spread (take (i + 1) xs)) ≡ length (spread (take i xs)) + run.count
length_next xs i run within is =
    ap (λ ys. length (spread ys)) (take_next xs i run within is) ∙ ap length (spread_last (take i xs) run) ∙ length-append (spread (take i xs)) (columns_of run) ∙ ap (λ n. length (spread (take i xs)) + n) (length_columns run)

-- the columns of whole runs
pub whole_prefix : (xs : List Run) (i : ℕ) → take (length (spread (take i xs))) (spread xs) ≡ spread (take i xs)
whole_prefix xs i = ap (λ ys. take (length (spread (take i xs))) ys) (spread_parts xs i) ∙ take_at (spread (take i xs)) (spread (drop i xs)) (length (spread (take i xs))) refl

-- the columns from offset k after the first i runs on
pub after_prefix : (xs : List Run) (i k : ℕ) → drop (length (spread (take i xs)) + k) (spread xs) ≡ drop k (spread (drop i xs))
after_prefix xs i k =
    ap (λ ys. drop (length (spread (take i xs)) + k) ys) (spread_parts xs i) ∙ drop-append-add (spread (take i xs)) (spread (drop i xs)) k

within_run : (k : ℕ) (run : Run) → k ≤ run.count → k ≤ length (columns_of run)
within_run k run fits =
    let e : length (columns_of run) ≡ run.count = length_columns run in
    omega arith

-- whole runs and the first k columns of the next one
pub cut_prefix : (before : List Run) (run : Run) (after : List Run) (k : ℕ) → k ≤ run.count → take (length (spread before) + k) (spread (before ++ run ∷ after)) ≡ spread (before ++ counted run k ∷ [])
cut_prefix before run after k fits =
    ap (λ xs. take (length (spread before) + k) xs) (spread-append before (run ∷ after)) ∙ take-append-add (spread before) (columns_of run ++ spread after) k ∙
    ap (λ xs. spread before ++ xs) (take-append-le k (columns_of run) (spread after) (within_run k run fits) ∙ take-replicate k run.count run.attributes fits) ∙ sym (spread_last before (counted run k))

-- the rest of a run after its first k columns, and the runs after it
pub cut_run : (run : Run) (after : List Run) (k : ℕ) → k ≤ run.count → drop k (spread (run ∷ after)) ≡ spread (counted run (run.count - k) ∷ after)
cut_run run after k fits =
    drop-append-le k (columns_of run) (spread after) (within_run k run fits) ∙ ap (λ xs. xs ++ spread after) (drop-replicate k run.count run.attributes)

-- Maximal runs

take_is_maximal : (run : Run) (i : ℕ) (xs : List Run) → IsMaximal run xs → IsMaximal run (take i xs)
take_is_maximal run zero xs h = tt
take_is_maximal run (suc i) [] h = tt
take_is_maximal run (suc i) (x ∷ xs) h = h

pub take_maximal : (i : ℕ) (xs : List Run) → AreMaximal xs → AreMaximal (take i xs)
take_maximal zero xs h = tt
take_maximal (suc i) [] h = tt
take_maximal (suc i) (x ∷ xs) h = (h.0, take_is_maximal x i xs h.1, take_maximal i xs h.2)

pub drop_maximal : (i : ℕ) (xs : List Run) → AreMaximal xs → AreMaximal (drop i xs)
drop_maximal zero xs h = h
drop_maximal (suc i) [] h = tt
drop_maximal (suc i) (x ∷ xs) h = drop_maximal i xs h.2

other_head : (x : Run) (prefix : List Run) (r s : Run) → r.attributes ≡ s.attributes → IsMaximal x (prefix ++ r ∷ []) → IsMaximal x (prefix ++ s ∷ [])
other_head x [] r s same h = λ e. h (e ∙ sym same)
other_head x (y ∷ prefix) r s same h = h

-- the last run with another count
pub other_last : (prefix : List Run) (r s : Run) → r.attributes ≡ s.attributes → 0 < s.count → AreMaximal (prefix ++ r ∷ []) → AreMaximal (prefix ++ s ∷ [])
other_last [] r s same some h = (some, tt, tt)
other_last (x ∷ prefix) r s same some h = (h.0, other_head x prefix r s same h.1, other_last prefix r s same some h.2)

joined_head : (x : Run) (prefix : List Run) (r : Run) (after : List Run) → IsMaximal x (prefix ++ r ∷ []) → IsMaximal x (prefix ++ r ∷ after)
joined_head x [] r after h = h
joined_head x (y ∷ prefix) r after h = h

-- lists that end and begin with one run
pub joined : (prefix : List Run) (r : Run) (after : List Run) → AreMaximal (prefix ++ r ∷ []) → AreMaximal (r ∷ after) → AreMaximal (prefix ++ r ∷ after)
joined [] r after h k = k
joined (x ∷ prefix) r after h k = (h.0, joined_head x prefix r after h.1, joined prefix r after h.2 k)

pub some_last : (prefix : List Run) (last : Run) → AreMaximal (prefix ++ last ∷ []) → 0 < last.count
some_last [] last h = h.0
some_last (x ∷ prefix) last h = some_last prefix last h.2

-- one run more
pub one_more : (prefix : List Run) (last r : Run) → AreMaximal (prefix ++ last ∷ []) → (last.attributes ≡ r.attributes → last.count ≡ 4294967295) → 0 < r.count → AreMaximal (prefix ++ last ∷ (r ∷ []))
one_more prefix last r h independent some = joined prefix last (r ∷ []) h (some_last prefix last h, independent, (some, tt, tt))

no_room : (run y : Run) (after : List Run) → run.count ≡ 4294967295 → 0 < y.count → run.count + length (spread (y ∷ after)) ≤ 4294967295 → ⊥
no_room run y after full some fits =
    let e : length (spread (y ∷ after)) ≡ length (columns_of y) + length (spread after) = length-append (columns_of y) (spread after) in
    let f : length (columns_of y) ≡ y.count = length_columns y in
    omega arith

-- the first run with another count, where one run could count all columns
pub other_first : (r s : Run) (after : List Run) → r.attributes ≡ s.attributes → 0 < s.count → r.count + length (spread after) ≤ 4294967295 → AreMaximal (r ∷ after) → AreMaximal (s ∷ after)
other_first r s [] same some fits h = (some, tt, tt)
other_first r s (y ∷ after) same some fits h = (some, (λ e. absurd (no_room r y after (h.1 (same ∙ e)) h.2.0 fits)), h.2)
