-- How many cells of a row pass a test, and how many more at most once the columns of one text are set in it.
use Rattle.std.proofs.Common.{◌≡◌, ℕ, zero, suc, ◌+◌, ◌<◌, ◌≤◌, ◌∙◌, inl, inr, Bool, true, false, List, [], ◌∷◌, ◌++◌, length, take, drop, refl, ap, arith, length-append}
use Rattle.std.specs.Prelude.{IsTrue, filter, if◌then◌else◌, ◌&&◌}
use Rattle.std.specs.List.{list_all}
use Rattle.std.proofs.lemmas.Bool.{false≢true, cases_lt}
use Rattle.std.proofs.lemmas.List.{drop_all, length-take-le}
use Rattle.std.proofs.lemmas.List.Folds.{list_all-append}
use Rattle.cell_base.specs.Attributes.{Attributes}
use Rattle.cell_base.specs.Row.{Column, Narrow, LeftHalf, RightHalf, Row, columns_of, left_alone, right_alone, closed_end, closed_start, set_columns}
use Rattle.cell_base.specs.WholeRow.{IsWhole}
use Rattle.cell_base.proofs.RowLemmas.{length-closed_end, whole_ends, whole_starts}
use Rattle.cell_edits.specs.VisibleCells.{VisibleCell, visible_at, visible_from}
use Rattle.terminal_table.specs.Bounds.{is_narrow}

-- ---- cells that pass a test

abbrev one : Bool → ℕ
one true = 1
one false = 0

-- how many cells that begin in a column do: one at most, and none in a right half
abbrev pub passing_at : (VisibleCell → Bool) → ℕ → Column → ℕ
passing_at test at (Narrow text attributes) = one (test (visible_at at text 1 attributes))
passing_at test at (LeftHalf text attributes) = one (test (visible_at at text 2 attributes))
passing_at test at (RightHalf attributes) = 0

-- how many cells of columns do, the first of which has a number
abbrev pub passing : (VisibleCell → Bool) → ℕ → Row → ℕ
passing test at [] = 0
passing test at (column ∷ row) = passing_at test at column + passing test (at + 1) row

counted : (b : Bool) (v : VisibleCell) (vs : List VisibleCell) → length (if b then v ∷ vs else vs) ≡ one b + length vs
counted true v vs = omega arith
counted false v vs = omega arith

pub passing_is : (test : VisibleCell → Bool) (at : ℕ) (row : Row) → length (filter test (visible_from at row)) ≡ passing test at row
passing_is test at [] = refl
passing_is test at (Narrow t a ∷ row) =
    let v : VisibleCell = visible_at at t 1 a in
    counted (test v) v (filter test (visible_from (at + 1) row)) ∙ ap (λ n. one (test v) + n) (passing_is test (at + 1) row)
passing_is test at (LeftHalf t a ∷ row) =
    let v : VisibleCell = visible_at at t 2 a in
    counted (test v) v (filter test (visible_from (at + 1) row)) ∙ ap (λ n. one (test v) + n) (passing_is test (at + 1) row)
passing_is test at (RightHalf a ∷ row) = let rest = passing_is test (at + 1) row in omega arith

one_most : (b : Bool) → one b ≤ 1
one_most true = omega arith
one_most false = omega arith

column_most : (test : VisibleCell → Bool) (at : ℕ) (column : Column) → passing_at test at column ≤ 1
column_most test at (Narrow t a) = one_most (test (visible_at at t 1 a))
column_most test at (LeftHalf t a) = one_most (test (visible_at at t 2 a))
column_most test at (RightHalf a) = omega arith

-- the columns of one text have one cell
pub text_most : (test : VisibleCell → Bool) (text : List ℕ) (wide : Bool) (attributes : Attributes) (at : ℕ) → passing test at (columns_of text wide attributes) ≤ 1
text_most test text true attributes at = let own = one_most (test (visible_at at text 2 attributes)) in omega arith
text_most test text false attributes at = let own = one_most (test (visible_at at text 1 attributes)) in omega arith

-- ---- columns in two parts

pub passing-append : (test : VisibleCell → Bool) (at : ℕ) (a b : Row) → passing test at (a ++ b) ≡ passing test at a + passing test (at + length a) b
passing-append test at [] b =
    let position : at ≡ at + 0 = omega arith in
    let same : passing test at b ≡ passing test (at + 0) b = ap (λ n. passing test n b) position in
    omega arith
passing-append test at (x ∷ a) b =
    let position : at + 1 + length a ≡ at + suc (length a) = omega arith in
    let same : passing test (at + 1 + length a) b ≡ passing test (at + suc (length a)) b = ap (λ n. passing test n b) position in
    let rest = passing-append test (at + 1) a b in
    omega arith

-- a half that is left alone is one cell more
ends_grow : (test : VisibleCell → Bool) (at : ℕ) (row : Row) → passing test at (closed_end row) ≤ passing test at row + 1
ends_grow test at [] = omega arith
ends_grow test at (x ∷ []) = let last = column_most test at (left_alone x) in omega arith
ends_grow test at (x ∷ y ∷ row) = let rest = ends_grow test (at + 1) (y ∷ row) in omega arith

starts_grow : (test : VisibleCell → Bool) (at : ℕ) (row : Row) → passing test at (closed_start row) ≤ passing test at row + 1
starts_grow test at [] = omega arith
starts_grow test at (x ∷ row) = let first = column_most test at (right_alone x) in omega arith

after_bound : (test : VisibleCell → Bool) (n at : ℕ) (row : Row) → passing test (at + n) (drop n row) ≤ passing test at row
after_bound test zero at row =
    let position : at + 0 ≡ at = omega arith in
    let same : passing test (at + 0) row ≡ passing test at row = ap (λ n. passing test n row) position in
    omega arith
after_bound test (suc n) at [] = omega arith
after_bound test (suc n) at (x ∷ row) =
    let position : at + 1 + n ≡ at + suc n = omega arith in
    let same : passing test (at + 1 + n) (drop n row) ≡ passing test (at + suc n) (drop n row) = ap (λ k. passing test k (drop n row)) position in
    let rest = after_bound test n (at + 1) row in
    omega arith

-- the cells that pass before a position and from a later one on are no more than those of the row
parts_bound : (test : VisibleCell → Bool) (k m at : ℕ) (row : Row) → k ≤ m → passing test at (take k row) + passing test (at + m) (drop m row) ≤ passing test at row
parts_bound test zero m at row h = let after = after_bound test m at row in omega arith
parts_bound test (suc k) zero at row h = absurd (omega arith)
parts_bound test (suc k) (suc m) at [] h = omega arith
parts_bound test (suc k) (suc m) at (x ∷ row) h =
    let position : at + 1 + m ≡ at + suc m = omega arith in
    let same : passing test (at + 1 + m) (drop m row) ≡ passing test (at + suc m) (drop m row) = ap (λ n. passing test n (drop m row)) position in
    let rest = parts_bound test k m (at + 1) row (omega arith) in
    omega arith

-- ---- columns that are set

-- columns with at most one cell are set between two parts, each of which gets at most `more` cells when it is closed
set_grows : (test : VisibleCell → Bool) (row : Row) (k : ℕ) (columns : Row) (more : ℕ) → ((at : ℕ) → passing test at columns ≤ 1)
    → ((at : ℕ) → passing test at (closed_end (take k row)) ≤ passing test at (take k row) + more)
    → ((at : ℕ) → passing test at (closed_start (drop (k + length columns) row)) ≤ passing test at (drop (k + length columns) row) + more)
    → passing test 0 (set_columns row k columns) ≤ passing test 0 row + (more + more + 1)
set_grows test row k columns more own prefix_grows back_grows = elim (cases_lt (length row) k) [ inl after ↦ outside after | inr within ↦ inside within ]
  where
    m : ℕ
    m = k + length columns

    prefix : Row
    prefix = closed_end (take k row)

    back : Row
    back = closed_start (drop m row)

    parts : passing test 0 (set_columns row k columns) ≡ passing test 0 prefix + passing test (0 + length prefix) columns + passing test (0 + length (prefix ++ columns)) back
    parts =
        let whole = passing-append test 0 (prefix ++ columns) back in
        let two = passing-append test 0 prefix columns in
        omega arith

    kept : passing test 0 (take k row) + passing test (0 + m) (drop m row) ≤ passing test 0 row
    kept = parts_bound test k m 0 row (omega arith)

    inside : k ≤ length row → passing test 0 (set_columns row k columns) ≤ passing test 0 row + (more + more + 1)
    inside h =
        let count : length prefix ≡ k = length-closed_end (take k row) ∙ length-take-le k row h in
        let position : 0 + length (prefix ++ columns) ≡ 0 + m = omega (arith, length-append prefix columns) in
        let same : passing test (0 + length (prefix ++ columns)) back ≡ passing test (0 + m) back = ap (λ n. passing test n back) position in
        let before = prefix_grows 0 in
        let between = own (0 + length prefix) in
        let after = back_grows (0 + m) in
        omega (arith, parts, kept)

    outside : length row < k → passing test 0 (set_columns row k columns) ≤ passing test 0 row + (more + more + 1)
    outside h =
        let none : drop m row ≡ [] = drop_all m row (omega arith) in
        let same : passing test (0 + length (prefix ++ columns)) back ≡ 0 = ap (λ (r : Row). passing test (0 + length (prefix ++ columns)) (closed_start r)) none in
        let before = prefix_grows 0 in
        let between = own (0 + length prefix) in
        omega (arith, parts, kept)

-- by a text's columns: its own cell, and a blank on each side
pub text_grows : (test : VisibleCell → Bool) (row : Row) (k : ℕ) (text : List ℕ) (wide : Bool) (attributes : Attributes)
    → passing test 0 (set_columns row k (columns_of text wide attributes)) ≤ passing test 0 row + 3
text_grows test row k text wide attributes =
    set_grows test row k (columns_of text wide attributes) 1 (text_most test text wide attributes) (λ at. ends_grow test at (take k row))
    (λ at. starts_grow test at (drop (k + length (columns_of text wide attributes)) row))

-- ---- rows without wide texts

abbrev pub IsNarrowRow : Row → Type 0
IsNarrowRow row = IsTrue (list_all is_narrow row)

narrow_whole : (row : Row) → IsNarrowRow row → IsWhole row
narrow_whole [] h = tt
narrow_whole (Narrow t a ∷ row) h = narrow_whole row h
narrow_whole (LeftHalf t a ∷ row) h = absurd (false≢true h)
narrow_whole (RightHalf a ∷ row) h = absurd (false≢true h)

narrow_take : (n : ℕ) (row : Row) → IsNarrowRow row → IsNarrowRow (take n row)
narrow_take zero row h = refl
narrow_take (suc n) [] h = refl
narrow_take (suc n) (Narrow t a ∷ row) h = narrow_take n row h
narrow_take (suc n) (LeftHalf t a ∷ row) h = absurd (false≢true h)
narrow_take (suc n) (RightHalf a ∷ row) h = absurd (false≢true h)

narrow_drop : (n : ℕ) (row : Row) → IsNarrowRow row → IsNarrowRow (drop n row)
narrow_drop zero row h = h
narrow_drop (suc n) [] h = refl
narrow_drop (suc n) (Narrow t a ∷ row) h = narrow_drop n row h
narrow_drop (suc n) (LeftHalf t a ∷ row) h = absurd (false≢true h)
narrow_drop (suc n) (RightHalf a ∷ row) h = absurd (false≢true h)

narrow-append : (a b : Row) → IsNarrowRow a → IsNarrowRow b → IsNarrowRow (a ++ b)
narrow-append a b h k = list_all-append is_narrow a b ∙ (λ i. h i && k i)

-- no half is left alone in them
narrow_ends : (row : Row) → IsNarrowRow row → closed_end row ≡ row
narrow_ends row h = whole_ends row (narrow_whole row h)

narrow_starts : (row : Row) → IsNarrowRow row → closed_start row ≡ row
narrow_starts row h = whole_starts row (narrow_whole row h)

pub narrow_set : (row : Row) (k : ℕ) (columns : Row) → IsNarrowRow row → IsNarrowRow columns → IsNarrowRow (set_columns row k columns)
narrow_set row k columns h c =
    let prefix = narrow_take k row h in
    let back = narrow_drop (k + length columns) row h in
    ap (λ (r : Row). list_all is_narrow ((r ++ columns) ++ closed_start (drop (k + length columns) row))) (narrow_ends (take k row) prefix)
    ∙ ap (λ (r : Row). list_all is_narrow ((take k row ++ columns) ++ r)) (narrow_starts (drop (k + length columns) row) back)
    ∙ narrow-append (take k row ++ columns) (drop (k + length columns) row) (narrow-append (take k row) columns prefix c) back

-- the text's own cell is all that comes
pub narrow_grows : (test : VisibleCell → Bool) (row : Row) (k : ℕ) (text : List ℕ) (wide : Bool) (attributes : Attributes) → IsNarrowRow row
    → passing test 0 (set_columns row k (columns_of text wide attributes)) ≤ passing test 0 row + 1
narrow_grows test row k text wide attributes h =
    let n : ℕ = k + length (columns_of text wide attributes) in
    set_grows test row k (columns_of text wide attributes) 0 (text_most test text wide attributes)
    (λ at. let same : passing test at (closed_end (take k row)) ≡ passing test at (take k row) = ap (passing test at) (narrow_ends (take k row) (narrow_take k row h)) in omega arith)
    (λ at. let same : passing test at (closed_start (drop n row)) ≡ passing test at (drop n row) = ap (passing test at) (narrow_starts (drop n row) (narrow_drop n row h)) in omega arith)
