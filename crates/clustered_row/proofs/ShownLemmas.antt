-- The row that is shown by the written columns and the blanks after them.
use Rattle.std.proofs.Common.{◌≡◌, ℕ, suc, ◌+◌, ◌-◌, ◌≤◌, ◌<◌, List, [], ◌++◌, length, take, replicate, refl, sym, ap, subst, ◌∙◌, append_assoc, append-nil, length-append, arith, inl, inr}
use Rattle.std.specs.Prelude.{if◌then◌else◌}
use Rattle.std.proofs.lemmas.Bool.Decides.{leb_tells}
use Rattle.std.proofs.lemmas.List.{length-replicate, length-take-le, replicate-append-replicate, take_at}
use Rattle.cell_base.specs.Attributes.{Attributes, plain}
use Rattle.cell_base.specs.Row.{Row, blank, closed_end, plain_row, set_columns}
use Rattle.cell_base.specs.WholeRow.{IsWhole}
use Rattle.cell_base.proofs.RowLemmas.{length-closed_end, length-set_columns, whole-append, whole-blanks, whole_ends}
use Rattle.cell_edits.specs.RowEdits.{cut, padded, resized}
use Rattle.clustered_row.specs.Ends.{EndsAt}
use Rattle.clustered_row.specs.Faces.{Face, row_of}
use Rattle.clustered_row.proofs.RowLemmas.{length-row_of}
use Rattle.clustered_row.proofs.BlankLemmas.{blanks_stored, set_before, set_over, take_within}
use Rattle.clustered_row.proofs.ColumnLemmas.{ends_there}

abbrev pub shown : Row → ℕ → Attributes → Row
shown columns width rest = columns ++ replicate (width - length columns) (blank rest)

pub length-shown : (columns : Row) (width : ℕ) (rest : Attributes) → length columns ≤ width → length (shown columns width rest) ≡ width
length-shown columns width rest h = omega (arith, h, length-append columns (replicate (width - length columns) (blank rest)), length-replicate (width - length columns) (blank rest))

-- the row keeps its columns
pub same_length : (new columns : Row) (width : ℕ) (r s : Attributes) (row : Row) → length new ≤ width → length columns ≤ width → shown columns width s ≡ row → length (shown new width r) ≡ length row
same_length new columns width r s row h k e = length-shown new width r h ∙ sym (length-shown columns width s k) ∙ ap length e

-- the result of a change: at most `width` columns, which with the blanks after them show this row
pub record Shows (columns : Row) (width : ℕ) (rest : Attributes) (row : Row) : Type 0 where
  pub within : length columns ≤ width
  pub is : shown columns width rest ≡ row

module _ (columns : Row) (width : ℕ) (rest : Attributes) (most : length columns ≤ width) where
  -- columns are set among those that were written
  pub set_within_shows : (new g : Row) (at : ℕ) → new ≡ set_columns columns at g → at + length g ≤ length columns → Shows new width rest (set_columns (shown columns width rest) at g)
  set_within_shows new g at e h =
      let same = ap length e ∙ length-set_columns columns at g h in
      record {
        within = omega (arith, same, most);
        is = (λ i. e i ++ replicate (width - same i) (blank rest)) ∙ sym (set_before columns g at (width - length columns) rest h);
      }

  -- columns are set over the end of the written columns
  pub set_over_shows : (first new g : Row) (at : ℕ) → first ≡ closed_end (take at columns) → new ≡ first ++ g → at ≤ length columns → length columns ≤ at + length g → at + length g ≤ width
      → Shows new width rest (set_columns (shown columns width rest) at g)
  set_over_shows first new g at e f o h w =
      let prefix = ap length e ∙ length-closed_end (take at columns) ∙ length-take-le at columns o in
      let all = ap length f ∙ length-append first g in
      let left : width - length new ≡ length columns + (width - length columns) - (at + length g) = omega (arith, prefix, all, h, w, most) in
      record {
        within = omega (arith, prefix, all, w);
        is = (λ i. (f ∙ ap (λ (r : Row). r ++ g) e) i ++ replicate (left i) (blank rest)) ∙ sym (set_over columns g at (width - length columns) rest o h (omega (arith, w, most)));
      }

  module _ (whole : IsWhole columns) where
    -- columns are set after the written columns, with blanks written between them
    pub set_after_shows : (first new g : Row) (at : ℕ) → first ≡ columns ++ replicate (at - length columns) (blank rest) → new ≡ first ++ g → length columns ≤ at → at + length g ≤ width
        → Shows new width rest (set_columns (shown columns width rest) at g)
    set_after_shows first new g at e f o w =
        let count = ap length e ∙ length-append columns (replicate (at - length columns) (blank rest)) in
        let blanks = length-replicate (at - length columns) (blank rest) in
        let prefix : length first ≡ at = omega (arith, count, blanks, o) in
        let closed : closed_end (take at first) ≡ first
        = ap closed_end (take_first first at prefix)
        ∙ whole_ends first (subst IsWhole (sym e) (whole-append columns (replicate (at - length columns) (blank rest)) whole (whole-blanks (at - length columns) rest))) in
        let s = over first new g at (sym closed) f prefix w in
        record {
          within = s.within;
          is = s.is ∙ ap (λ (r : Row). set_columns r at g) ((λ i. e i ++ replicate (width - length (e i)) (blank rest)) ∙ blanks_stored columns at width rest o (omega (arith, w)));
        }
      where
        take_first : (r : Row) (n : ℕ) → length r ≡ n → take n r ≡ r
        take_first r n e = ap (take n) (sym (append-nil r)) ∙ take_at r [] n e

        over : (first new g : Row) (at : ℕ) → first ≡ closed_end (take at first) → new ≡ first ++ g → length first ≡ at → at + length g ≤ width → Shows new width rest (set_columns (shown first width rest) at g)
        over first new g at c f prefix w =
            let all = ap length f ∙ length-append first g in
            let left : width - length new ≡ length first + (width - length first) - (at + length g) = omega (arith, prefix, all, w) in
            record {
              within = omega (arith, prefix, all, w);
              is = (λ i. (f ∙ ap (λ (r : Row). r ++ g) c) i ++ replicate (left i) (blank rest)) ∙ sym (set_over first g at (width - length first) rest (omega (arith, prefix)) (omega (arith, prefix)) (omega (arith, prefix, w)));
            }

-- columns that are set where those that were written were made to end
pub set_end_shows : (columns first new g : Row) (at width : ℕ) (rest : Attributes) → IsWhole columns → length columns ≤ width → EndsAt columns first at rest → new ≡ first ++ g → length columns ≤ at + length g → at + length g ≤ width
    → Shows new width rest (set_columns (shown columns width rest) at g)
set_end_shows columns first new g at width rest whole most ends e h w = elim (leb_tells at (length columns)) [
  | inl p ↦ set_over_shows columns width rest most first new g at (ends.cut p.1) e p.1 h w
  | inr p ↦ set_after_shows columns width rest most whole first new g at (ends.padded (omega (arith, p.1))) e (omega (arith, p.1)) w
]

pub length-ended : (columns first : Row) (at : ℕ) (rest : Attributes) → EndsAt columns first at rest → length first ≡ at
length-ended columns first at rest ends = elim (leb_tells at (length columns)) [
  | inl p ↦ ap length (ends.cut p.1) ∙ length-closed_end (take at columns) ∙ length-take-le at columns p.1
  | inr p ↦ ap length (ends.padded (omega (arith, p.1))) ∙ omega (arith, p.1, length-append columns (replicate (at - length columns) (blank rest)), length-replicate (at - length columns) (blank rest))
]

-- ---- blanks to the end

-- the columns that were written end at a column, and blanks with other attributes follow it
pub blanks_show : (columns first : Row) (at width : ℕ) (rest a : Attributes) → IsWhole columns → length columns ≤ width → EndsAt columns first at rest → at ≤ width → Shows first width a (set_columns (shown columns width rest) at (replicate (width - at) (blank a)))
blanks_show columns first at width rest a whole most ends h =
    let g = replicate (width - at) (blank a) in
    let count = length-replicate (width - at) (blank a) in
    let prefix = length-ended columns first at rest ends in
    let k = set_end_shows columns first (first ++ g) g at width rest whole most ends refl (omega (arith, count, h, most)) (omega (arith, count, h)) in
    let none : width - length (first ++ g) ≡ 0 = omega (arith, prefix, h, length-append first g, count) in
    record {
      within = omega (arith, prefix, h);
      is = (λ i. first ++ replicate (width - prefix i) (blank a)) ∙ sym (append-nil (first ++ g)) ∙ ap (λ n. (first ++ g) ++ replicate n (blank rest)) (sym none) ∙ k.is;
    }

-- the columns from a column on are those blanks already
pub blanks_already : (columns : Row) (at width : ℕ) (rest : Attributes) → IsWhole columns → length columns ≤ width → length columns ≤ at → at ≤ width → shown columns width rest ≡ set_columns (shown columns width rest) at (replicate (width - at) (blank rest))
blanks_already columns at width rest whole most past h =
    let first = columns ++ replicate (at - length columns) (blank rest) in
    sym (blanks_stored columns at width rest past h) ∙ (blanks_show columns first at width rest rest whole most (record { cut = λ k. ends_there columns first at rest whole k past refl; padded = λ k. refl }) h).is

-- ---- another width

pub length-cut : (columns new : Row) (to : ℕ) → new ≡ closed_end (take to columns) → to ≤ length columns → length new ≡ to
length-cut columns new to e h = ap length e ∙ length-closed_end (take to columns) ∙ length-take-le to columns h

by_width : (width : ℕ) (row now : Row) → (width < length row → now ≡ cut width row) → (length row ≤ width → now ≡ padded width row) → now ≡ resized width row
by_width width row now less more = elim (leb_tells (suc width) (length row)) [
  | inl p ↦ less (omega (arith, p.1)) ∙ sym (ap (λ b. if b then cut width row else padded width row) p.0)
  | inr p ↦ more (omega (arith, p.1)) ∙ sym (ap (λ b. if b then cut width row else padded width row) p.0)
]

module _ (columns : Row) (width : ℕ) (rest : Attributes) (most : length columns ≤ width) where
  -- a column that was written goes
  pub resize_cut : (new : Row) (to : ℕ) → new ≡ closed_end (take to columns) → to < length columns → shown new to rest ≡ resized to (shown columns width rest)
  resize_cut new to e h =
      let long = length-shown columns width rest most in
      let count = ap length e ∙ length-closed_end (take to columns) ∙ length-take-le to columns (omega (arith, h)) in
      let none : to - length new ≡ 0 = omega (arith, count) in
      by_width to (shown columns width rest) (shown new to rest)
      (λ less. ap (λ n. new ++ replicate n (blank rest)) none ∙ append-nil new ∙ e ∙ ap closed_end (sym (take_within columns (replicate (width - length columns) (blank rest)) to (omega (arith, h)))))
      (λ more. absurd (omega (arith, more, long, h, most)))

  -- blanks after the written columns are dropped
  pub resize_less : (to : ℕ) → IsWhole columns → length columns ≤ to → to ≤ width → shown columns to rest ≡ resized to (shown columns width rest)
  resize_less to whole h w =
      let long = length-shown columns width rest most in
      let blanks = replicate (to - length columns) (blank rest) in
      let rest_is : width - length columns ≡ to - length columns + (width - to) = omega (arith, h, w) in
      let whole_row : shown columns width rest ≡ (columns ++ blanks) ++ replicate (width - to) (blank rest)
      = ap (λ n. columns ++ replicate n (blank rest)) rest_is ∙ ap (λ (r : Row). columns ++ r) (sym (replicate-append-replicate (to - length columns) (width - to) (blank rest))) ∙ sym (append_assoc columns blanks (replicate (width - to) (blank rest))) in
      let count : length (columns ++ blanks) ≡ to = omega (arith, h, length-append columns blanks, length-replicate (to - length columns) (blank rest)) in
      let closed : closed_end (columns ++ blanks) ≡ columns ++ blanks = whole_ends (columns ++ blanks) (whole-append columns blanks whole (whole-blanks (to - length columns) rest)) in
      by_width to (shown columns width rest) (shown columns to rest)
      (λ less. sym closed ∙ ap closed_end (sym (take_at (columns ++ blanks) (replicate (width - to) (blank rest)) to count) ∙ ap (take to) (sym whole_row)))
      (λ more.
      let same : to ≡ width = omega (arith, more, long, w) in
      let none : to - length (shown columns width rest) ≡ 0 = omega (arith, long, w) in
      ap (λ n. shown columns n rest) same ∙ sym (append-nil (shown columns width rest)) ∙ ap (λ n. shown columns width rest ++ plain_row n) (sym none))

  -- plain blanks follow
  pub resize_more : (new : Row) (to : ℕ) → new ≡ columns ++ replicate (width - length columns) (blank rest) → width < to → shown new to plain ≡ resized to (shown columns width rest)
  resize_more new to e h =
      let long = length-shown columns width rest most in
      by_width to (shown columns width rest) (shown new to plain)
      (λ less. absurd (omega (arith, less, long, h)))
      (λ more. (λ i. e i ++ replicate (to - length (e i)) (blank plain)))

-- ---- a row and its width

pub width_of_row : (columns : Row) (width : ℕ) (rest : Attributes) (row : Row) → length columns ≤ width → shown columns width rest ≡ row → width ≡ length row
width_of_row columns width rest row h e = sym (length-shown columns width rest h) ∙ ap length e

-- ---- cells that are set

-- the result of setting columns: the row keeps its width and has the columns `g` at `at`
pub record Sets (new : Row) (width : ℕ) (rest : Attributes) (row : Row) (at : ℕ) (g : Row) : Type 0 where
  pub within : length new ≤ width
  pub len : length (shown new width rest) ≡ length row
  pub done : shown new width rest ≡ set_columns row at g

sets : (columns new : Row) (width : ℕ) (rest : Attributes) (row : Row) (at : ℕ) (g : Row) → length columns ≤ width → shown columns width rest ≡ row → Shows new width rest (set_columns (shown columns width rest) at g) → Sets new width rest row at g
sets columns new width rest row at g most e s = record {
  within = s.within;
  len = same_length new columns width rest rest row s.within most e;
  done = s.is ∙ ap (λ (x : Row). set_columns x at g) e;
}

length-faced : (faces : List Face) (n : ℕ) (a : Attributes) → length faces ≡ n → length (row_of faces (replicate n a)) ≡ n
length-faced faces n a e = length-row_of faces (replicate n a) (e ∙ sym (length-replicate n a)) ∙ e

module _ (columns new : Row) (width : ℕ) (rest : Attributes) (row : Row) (at n : ℕ) (faces : List Face) (a : Attributes) (most : length columns ≤ width) (e : shown columns width rest ≡ row) (count : length faces ≡ n) where
  pub sets_within : new ≡ set_columns columns at (row_of faces (replicate n a)) → at + n ≤ length columns → Sets new width rest row at (row_of faces (replicate n a))
  sets_within f h =
      let long = length-faced faces n a count in
      sets columns new width rest row at (row_of faces (replicate n a)) most e (set_within_shows columns width rest most new (row_of faces (replicate n a)) at f (omega (arith, long, h)))

  pub sets_end : (first : Row) → IsWhole columns → EndsAt columns first at rest → new ≡ first ++ row_of faces (replicate n a) → length columns ≤ at + n → at + n ≤ length row → Sets new width rest row at (row_of faces (replicate n a))
  sets_end first whole ends f h w =
      let long = length-faced faces n a count in
      let wide = width_of_row columns width rest row most e in
      sets columns new width rest row at (row_of faces (replicate n a)) most e
      (set_end_shows columns first new (row_of faces (replicate n a)) at width rest whole most ends f (omega (arith, long, h)) (omega (arith, long, w, wide)))
