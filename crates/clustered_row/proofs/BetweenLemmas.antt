-- Cells between two columns at which none is cut.
use Rattle.std.proofs.Common.{◌≡◌, ℕ, zero, suc, ◌+◌, ◌-◌, ◌<◌, ◌≤◌, true, false, List, [], ◌∷◌, ◌++◌, length, take, drop, replicate, refl, sym, ap, subst, ◌∙◌, append-nil, min, arith, inl, inr}
use Rattle.std.specs.List.{list_all}
use Rattle.std.proofs.lemmas.Bool.{and_parts, cases_lt, false≢true}
use Rattle.std.proofs.lemmas.List.{take_all, drop_all, drop_at, take-take, take-append-drop, take-append-le, take-replicate, drop-append-le, drop-replicate, drop-take, length-drop, length-take-le}
use Rattle.std.proofs.Math.Seq.{take-append-add, drop-append-add}
use Rattle.text_clusters.specs.Plain.{is_printable}
use Rattle.cell_base.specs.Attributes.{Attributes}
use Rattle.cell_base.specs.Row.{Column, Row}
use Rattle.clustered_row.specs.declared.cell_size.CellSize.{CellSize}
use Rattle.clustered_row.specs.declared.position.Position.{Position}
use Rattle.clustered_row.specs.Faces.{Face, column, plain_faces, row_of, starts_right}
use Rattle.clustered_row.specs.Position.{IsPosition, IsSplit, IsBefore}
use Rattle.clustered_row.specs.Sizes.{bytes_of, columns_of, faces_of, is_cut}
use Rattle.clustered_row.specs.VisibleColumns.{starts_split, is_split}
use Rattle.clustered_row.proofs.AskedLemmas.{lent_none, split_before}
use Rattle.clustered_row.proofs.RowLemmas.{row_of-take, row_of-drop}
use Rattle.clustered_row.proofs.SizeLemmas.{bytes_split, cut_more}
use Rattle.clustered_row.proofs.TextLemmas.{Placed, IsAfter, take_prefix, drop_prefix, cut_parts, after_prefix, after_parted, after_taken}
use Rattle.clustered_row.proofs.StepLemmas.{IsSized, fits, a_size, lent_right, sized_columns_within}

-- ---- positions before cells

pub before_sized : (t : List ℕ) (s : List CellSize) (sb sc : ℕ) (p : Position) → IsSized t s sb sc → IsPosition s p → IsBefore t s p
before_sized t s sb sc p h q =
    let bytes = q.bytes in
    let columns = q.columns in
    let all = bytes_split p.index s in
    let most = fits t s sb sc h in
    record {
      index = q.within;
      sized = λ _. q.bytes;
      bytes = omega (arith, bytes);
      within = omega (arith, bytes, all, most);
      columns = omega (arith, bytes, columns);
    }

pub position_of_before : (t : List ℕ) (s : List CellSize) (sb sc : ℕ) (p : Position) → IsSized t s sb sc → IsBefore t s p → p.columns < sc → IsPosition s p
position_of_before t s sb sc p h q less = elim (cases_lt p.index (length s)) [
  | inl in_prefix ↦ (
      let bytes = q.sized in_prefix in
      let columns = q.columns in
      record { within = q.index; bytes = bytes; columns = omega (arith, bytes, columns) })
  | inr after ↦ (
      let all : take p.index s ≡ s = take_all p.index s after in
      let bytes = ap bytes_of all in
      let columns = ap columns_of all in
      let most = q.bytes in
      let sum = q.columns in
      let one = h.bytes_are in
      let two = h.columns_are in
      absurd (omega (arith, bytes, columns, most, sum, one, two, less)))
]

pub bytes_before : (t : List ℕ) (s : List CellSize) (sb sc : ℕ) (p : Position) (m at : ℕ) → IsSized t s sb sc → IsBefore t s p → p.columns ≤ at → sb ≤ m → m + sc ≡ sb + at → p.bytes ≤ m
bytes_before t s sb sc p m at h q order b e = elim (cases_lt p.index (length s)) [
  | inl in_prefix ↦ (
      let bytes = q.sized in_prefix in
      let sum = bytes_split p.index s in
      let one = h.bytes_are in
      omega (arith, bytes, sum, one, b))
  | inr after ↦ (
      let all : take p.index s ≡ s = take_all p.index s after in
      let bytes = ap bytes_of all in
      let columns = ap columns_of all in
      let sum = q.columns in
      let one = h.bytes_are in
      let two = h.columns_are in
      omega (arith, bytes, columns, sum, one, two, order, e))
]

-- where no cell is cut the cell that was found begins
pub found_whole : (t : List ℕ) (s : List CellSize) (sb sc : ℕ) (p : Position) (at : ℕ) → IsSized t s sb sc → IsPosition s p → p.columns ≤ at → at < sc
    → ((d : CellSize) → p.columns < at → IsSplit s p at d) → starts_right (drop at (faces_of t s)) ≡ false → p.columns ≡ at
found_whole t s sb sc p at h q order less half whole = elim (cases_lt p.columns at) [
  | inl cut ↦ (
      let many = sized_columns_within t s sb sc h in
      absurd (false≢true (sym whole ∙ lent_none (faces_of t s) at (omega (arith, many, less)) (lent_right t s sb sc p at a_size h q (half a_size cut)))))
  | inr there ↦ omega (arith, order, there)
]

-- ---- cells before a position, and after it

pub record IsText (t : List ℕ) (s : List CellSize) : Type 0 where
  pub bytes : bytes_of s ≤ length t
  pub parts : is_cut t s ≡ true

pub record IsParted (t : List ℕ) (s : List CellSize) (p : Position) : Type 0 where
  pub prefix : take p.columns (faces_of t s) ≡ faces_of (take p.bytes t) (take p.index s)
  pub rest : drop p.columns (faces_of t s) ≡ faces_of (drop p.bytes t) (drop p.index s)
  pub prefix_text : IsText (take p.bytes t) (take p.index s)
  pub rest_text : IsText (drop p.bytes t) (drop p.index s)

parted_in : (t : List ℕ) (s : List CellSize) (p : Position) → IsText t s → IsBefore t s p → p.index < length s → IsParted t s p
parted_in t s p h q less =
    let bytes = q.sized less in
    let columns = q.columns in
    let most = h.bytes in
    let at : Placed t s p.index p.bytes p.columns = record { bytes = bytes; columns = omega (arith, bytes, columns); within = h.bytes } in
    let cuts = cut_parts t s p.index p.bytes p.columns at h.parts in
    let n = length-take-le p.bytes t q.within in
    let m = length-drop p.bytes t in
    let all = bytes_split p.index s in
    record {
      prefix = take_prefix t s p.index p.bytes p.columns at;
      rest = drop_prefix t s p.index p.bytes p.columns at;
      prefix_text = record { bytes = omega (arith, n, bytes); parts = cuts.0 };
      rest_text = record { bytes = omega (arith, m, all, bytes, most); parts = cuts.1 };
    }

parted_after : (t : List ℕ) (s : List CellSize) (p : Position) → IsText t s → IsBefore t s p → length s ≤ p.index → IsParted t s p
parted_after t s p h q past =
    let all : take p.index s ≡ s = take_all p.index s past in
    let none : drop p.index s ≡ [] = drop_all p.index s past in
    let bytes = ap bytes_of all in
    let columns = ap columns_of all in
    let some = q.bytes in
    let sum = q.columns in
    let at : IsAfter t s p.bytes p.columns = record { sized = omega (arith, bytes, some); within = q.within; column = omega (arith, bytes, columns, sum) } in
    let n = length-take-le p.bytes t q.within in
    let sized = at.sized in
    let both = and_parts (is_cut (take p.bytes t) s) (list_all is_printable (drop p.bytes t))
    (sym (ap (λ (text : List ℕ). is_cut text s) (sym (take-append-drop p.bytes t)) ∙ cut_more (take p.bytes t) (drop p.bytes t) s (omega (arith, n, sized))) ∙ h.parts) in
    record {
      prefix = after_taken t s p.bytes p.columns at ∙ ap (faces_of (take p.bytes t)) (sym all);
      rest = ap (drop p.columns) (after_parted t s p.bytes p.columns at)
          ∙ drop_at (faces_of (take p.bytes t) s) (plain_faces (drop p.bytes t)) p.columns (after_prefix t s p.bytes p.columns at)
          ∙ ap (faces_of (drop p.bytes t)) (sym none);
      prefix_text = record { bytes = omega (arith, n, bytes, some); parts = ap (is_cut (take p.bytes t)) all ∙ both.0 };
      rest_text = record { bytes = (let no_bytes = ap bytes_of none in omega (arith, no_bytes)); parts = ap (is_cut (drop p.bytes t)) none ∙ both.1 };
    }

pub parted_before : (t : List ℕ) (s : List CellSize) (p : Position) → IsText t s → IsBefore t s p → IsParted t s p
parted_before t s p h q = elim (cases_lt p.index (length s)) [ inl less ↦ parted_in t s p h q less | inr past ↦ parted_after t s p h q past ]

-- a position before another
before_in_prefix : (t : List ℕ) (s : List CellSize) (p q : Position) → IsBefore t s p → IsBefore t s q → p.index ≤ q.index → p.bytes ≤ q.bytes → IsBefore (take q.bytes t) (take q.index s) p
before_in_prefix t s p q a b i k =
    let same : take p.index (take q.index s) ≡ take p.index s = take-take p.index q.index s i in
    let n = length-take-le q.index s b.index in
    let m = length-take-le q.bytes t b.within in
    let most = b.index in
    let bytes = ap bytes_of same in
    let columns = ap columns_of same in
    let some = a.bytes in
    let sum = a.columns in
    record {
      index = omega (arith, n, i);
      sized = λ less. a.sized (omega (arith, n, less, most)) ∙ sym bytes;
      bytes = omega (arith, bytes, some);
      within = omega (arith, m, k);
      columns = omega (arith, bytes, columns, sum);
    }

pub part_is : {X : Type 0} (xs : List X) (i j : ℕ) → i ≤ j → drop i (take j xs) ≡ take (j - i) (drop i xs)
part_is {X} xs i j h =
    let on : j ≡ i + (j - i) = omega arith in
    ap (λ n. drop i (take n xs)) on ∙ drop-take i (j - i) xs

-- the cells between two positions, in lists that are those of the text
pub record AreBetween (t u : List ℕ) (s v : List CellSize) (from to : ℕ) : Type 0 where
  pub bytes : bytes_of v ≤ length u
  pub parts : is_cut u v ≡ true
  pub shown : faces_of u v ≡ drop from (take to (faces_of t s))

pub between_positions : (t x : List ℕ) (s v : List CellSize) (sb sc : ℕ) (p q : Position) (from to : ℕ) → IsSized t s sb sc → x ≡ t → v ≡ s → IsBefore t s p → IsBefore t s q
    → p.index ≤ q.index → p.bytes ≤ q.bytes → p.columns ≡ from → q.columns ≡ to
    → AreBetween t (take (q.bytes - p.bytes) (drop p.bytes x)) s (take (q.index - p.index) (drop p.index v)) from to
between_positions t x s v sb sc p q from to h e f a b i k c d =
    let first = parted_before t s q (record { bytes = fits t s sb sc h; parts = h.parts }) b in
    let then = parted_before (take q.bytes t) (take q.index s) p first.prefix_text (before_in_prefix t s p q a b i k) in
    let text : drop p.bytes (take q.bytes t) ≡ take (q.bytes - p.bytes) (drop p.bytes x) = part_is t p.bytes q.bytes k ∙ ap (λ (z : List ℕ). take (q.bytes - p.bytes) (drop p.bytes z)) (sym e) in
    let sizes : drop p.index (take q.index s) ≡ take (q.index - p.index) (drop p.index v) = part_is s p.index q.index i ∙ ap (λ (z : List CellSize). take (q.index - p.index) (drop p.index z)) (sym f) in
    let is = subst (λ (z : List ℕ). IsText z (take (q.index - p.index) (drop p.index v))) text (subst (λ (z : List CellSize). IsText (drop p.bytes (take q.bytes t)) z) sizes then.rest_text) in
    record {
      bytes = is.bytes;
      parts = is.parts;
      shown = sym ((λ n. drop (sym c n) (take (sym d n) (faces_of t s))) ∙ ap (drop p.columns) first.prefix ∙ then.rest ∙ (λ n. faces_of (text n) (sizes n)));
    }

-- ---- columns between two columns

row_of-short : (n : ℕ) (fs : List Face) (ats : List Attributes) → row_of (take n fs) ats ≡ row_of (take n fs) (take n ats)
row_of-short zero fs ats = refl
row_of-short (suc n) [] ats = refl
row_of-short (suc n) (f ∷ fs) [] = refl
row_of-short (suc n) (f ∷ fs) (a ∷ ats) = ap (λ (r : Row). column f a ∷ r) (row_of-short n fs ats)

-- attributes after the last face are seen no more
pub row_between : (fs gs : List Face) (ats bs : List Attributes) (from to : ℕ) → gs ≡ drop from (take to fs) → bs ≡ drop from ats → row_of gs bs ≡ drop from (take to (row_of fs ats))
row_between fs gs ats bs from to e f =
    (λ i. row_of (e i) (f i)) ∙ sym (row_of-drop from (take to fs) ats) ∙ ap (drop from) (row_of-short to fs ats ∙ sym (row_of-take to fs ats))

pub length_between : {X : Type 0} (xs ys : List X) (from to : ℕ) → from ≤ to → to ≤ length xs → ys ≡ drop from (take to xs) → length ys + from ≡ to
length_between xs ys from to o w e =
    let n = ap length e ∙ length-drop from (take to xs) in
    let m = length-take-le to xs w in
    omega (arith, n, m, o)

pub not_after : (xs : Row) (at : ℕ) → length xs ≤ at → is_split at xs ≡ false
not_after xs at h = ap starts_split (drop_all at xs h)

-- a column of the row, or the end of the columns that were written
pub split_within : (xs ys : Row) (at k : ℕ) → k ≡ min at (length xs) → is_split at (xs ++ ys) ≡ false → is_split k xs ≡ false
split_within xs ys at k e h = elim (cases_lt at (length xs)) [
  | inl less ↦ ap (λ n. is_split n xs) (omega (arith, e, less)) ∙ sym (split_before xs ys at less) ∙ h
  | inr past ↦ not_after xs k (omega (arith, e, past))
]

written_prefix : (xs : Row) (n stop : ℕ) (b : Column) → length xs ≤ stop → stop ≤ length xs + n → take stop (xs ++ replicate n b) ≡ xs ++ replicate (stop - length xs) b
written_prefix xs n stop b past w =
    let on : stop ≡ length xs + (stop - length xs) = omega (arith, past) in
    ap (λ m. take m (xs ++ replicate n b)) on ∙ take-append-add xs (replicate n b) (stop - length xs) ∙ ap (λ (r : Row). xs ++ r) (take-replicate (stop - length xs) n b (omega (arith, w, past)))

pub written_after : (xs : Row) (n start : ℕ) (b : Column) → length xs ≤ start → drop start (xs ++ replicate n b) ≡ replicate (n - (start - length xs)) b
written_after xs n start b past =
    let on : start ≡ length xs + (start - length xs) = omega (arith, past) in
    ap (λ m. drop m (xs ++ replicate n b)) on ∙ drop-append-add xs (replicate n b) (start - length xs) ∙ drop-replicate (start - length xs) n b

all_before : (xs : Row) (from to : ℕ) → length xs ≤ to → length xs ≤ from → drop from (take to xs) ≡ []
all_before xs from to h k = ap (drop from) (take_all to xs h) ∙ drop_all from xs k

module _ (xs : Row) (n start stop from to k : ℕ) (b : Column) (o : start ≤ stop) (w : stop ≤ length xs + n) (e : from ≡ min start (length xs)) (f : to ≡ min stop (length xs)) (g : k ≡ (stop - to) - (start - from)) where
  within_written : stop < length xs → drop from (take to xs) ++ replicate k b ≡ drop start (take stop (xs ++ replicate n b))
  within_written less =
      let none : k ≡ 0 = omega (arith, o, e, f, g, less) in
      let first : from ≡ start = omega (arith, o, e, less) in
      let last : to ≡ stop = omega (arith, f, less) in
      (λ i. drop (first i) (take (last i) xs) ++ replicate (none i) b) ∙ append-nil (drop start (take stop xs)) ∙ ap (drop start) (sym (take-append-le stop xs (replicate n b) (omega (arith, less))))

  over_end : length xs ≤ stop → start < length xs → drop from (take to xs) ++ replicate k b ≡ drop start (take stop (xs ++ replicate n b))
  over_end past less =
      let first : from ≡ start = omega (arith, e, less) in
      let last : to ≡ length xs = omega (arith, f, past) in
      let count : k ≡ stop - length xs = omega (arith, e, f, g, less, past) in
      (λ i. drop (first i) (take (last i) xs) ++ replicate (count i) b)
      ∙ ap (λ (r : Row). drop start r ++ replicate (stop - length xs) b) (take_all (length xs) xs (omega arith))
      ∙ sym (ap (drop start) (written_prefix xs n stop b past w) ∙ drop-append-le start xs (replicate (stop - length xs) b) (omega (arith, less)))

  in_blanks : length xs ≤ stop → length xs ≤ start → drop from (take to xs) ++ replicate k b ≡ drop start (take stop (xs ++ replicate n b))
  in_blanks past after =
      let count : k ≡ (stop - length xs) - (start - length xs) = omega (arith, e, f, g, after, past) in
      (λ i. all_before xs from to (omega (arith, f, past)) (omega (arith, e, after)) i ++ replicate (count i) b)
      ∙ sym (ap (drop start) (written_prefix xs n stop b past w) ∙ written_after xs (stop - length xs) start b after)

  -- columns that were written, and blanks after them
  pub blanks_between : drop from (take to xs) ++ replicate k b ≡ drop start (take stop (xs ++ replicate n b))
  blanks_between = elim (cases_lt stop (length xs)) [
    | inl less ↦ within_written less
    | inr past ↦ elim (cases_lt start (length xs)) [ inl less ↦ over_end past less | inr after ↦ in_blanks past after ]
  ]
