-- The columns at the end in which two rows are equal.
use Rattle.std.proofs.Common.{◌≡◌, ℕ, ◌+◌, ◌-◌, ◌<◌, ◌≤◌, false, List, ◌∷◌, ◌++◌, length, take, drop, replicate, slice_index_or, refl, sym, ap, ◌∙◌, arith}
use Rattle.std.proofs.lemmas.List.{drop-drop, drop_all, drop_more, take_all}
use Rattle.cell_base.specs.Attributes.{Attributes}
use Rattle.clustered_row.specs.declared.cell_size.CellSize.{CellSize}
use Rattle.clustered_row.specs.declared.position.Position.{Position}
use Rattle.clustered_row.specs.declared.run.Run.{Run}
use Rattle.clustered_row.specs.Faces.{Face, plain_faces, row_of, starts_right}
use Rattle.clustered_row.specs.Position.{IsBefore}
use Rattle.clustered_row.specs.Runs.{spread}
use Rattle.clustered_row.specs.Sizes.{bytes_of, columns_of, faces_of}
use Rattle.clustered_row.proofs.BetweenLemmas.{parted_before}
use Rattle.clustered_row.proofs.EqualLemmas.{same_copies, starts_plain}
use Rattle.clustered_row.proofs.RowLemmas.{row_of-drop}
use Rattle.clustered_row.proofs.RunLists.{after_prefix, cut_run, drop_next, length_next, length_parts}
use Rattle.clustered_row.proofs.StepLemmas.{IsSized, column_count, fits}

-- lists that are equal in their last m items are equal in their last n, where n ≤ m
pub fewer_after : {X : Type 0} (xs ys : List X) (n m : ℕ) → n ≤ m → m ≤ length xs → m ≤ length ys → drop (length xs - m) xs ≡ drop (length ys - m) ys → drop (length xs - n) xs ≡ drop (length ys - n) ys
fewer_after xs ys n m h p q e =
    let one : length xs - n ≡ length xs - m + (m - n) = omega (arith, h, p) in
    let two : length ys - n ≡ length ys - m + (m - n) = omega (arith, h, q) in
    ap (λ k. drop k xs) one ∙ sym (drop-drop (m - n) (length xs - m) xs) ∙ ap (drop (m - n)) e ∙ drop-drop (m - n) (length ys - m) ys ∙ ap (λ k. drop k ys) (sym two)

-- the items after one that is found from the end, and that one
from_next : {X : Type 0} (xs : List X) (n : ℕ) (x : X) → n < length xs → x ≡ slice_index_or xs (length xs - 1 - n) x → drop (length xs - (n + 1)) xs ≡ x ∷ drop (length xs - n) xs
from_next xs n x h e =
    let here : length xs - (n + 1) ≡ length xs - 1 - n = omega arith in
    let next : length xs - 1 - n + 1 ≡ length xs - n = omega (arith, h) in
    ap (λ k. drop k xs) here ∙ drop_more xs (length xs - 1 - n) x (omega (arith, h)) ∙ (λ i. sym e i ∷ drop (next i) xs)

-- lists that are equal in their last n items, and in the item before those, are equal in their last n + 1
pub next_after : {X : Type 0} (xs ys : List X) (n : ℕ) (x y : X) → n < length xs → n < length ys → x ≡ slice_index_or xs (length xs - 1 - n) x → y ≡ slice_index_or ys (length ys - 1 - n) y → x ≡ y
    → drop (length xs - n) xs ≡ drop (length ys - n) ys → drop (length xs - (n + 1)) xs ≡ drop (length ys - (n + 1)) ys
next_after xs ys n x y h g e f s r = from_next xs n x h e ∙ (λ i. s i ∷ r i) ∙ sym (from_next ys n y g f)

-- ---- runs

-- whole runs at the end, and the last k columns of the run before them
run_columns_after : (xs : List Run) (i : ℕ) (run : Run) (k n : ℕ) → i < length xs → run ≡ slice_index_or xs i run → k ≤ run.count → n ≡ length (spread (drop (i + 1) xs))
    → drop (length (spread xs) - (n + k)) (spread xs) ≡ replicate k run.attributes ++ spread (drop (i + 1) xs)
run_columns_after xs i run k n h e f c =
    let next = length_next xs i run h e in
    let all = length_parts xs (i + 1) in
    let at : length (spread xs) - (n + k) ≡ length (spread (take i xs)) + (run.count - k) = omega (arith, next, all, c, f) in
    let count : run.count - (run.count - k) ≡ k = omega (arith, f) in
    ap (λ m. drop m (spread xs)) at
    ∙ after_prefix xs i (run.count - k)
    ∙ ap (λ (ys : List Run). drop (run.count - k) (spread ys)) (drop_next xs i run h e)
    ∙ cut_run run (drop (i + 1) xs) (run.count - k) (omega arith)
    ∙ ap (λ m. replicate m run.attributes ++ spread (drop (i + 1) xs)) count

-- the index after that of a run that is counted from the end
next_position : (xs : List Run) (m : ℕ) → m < length xs → length xs - 1 - m + 1 ≡ length xs - m
next_position xs m h = omega (arith, h)

module _ (xs ys : List Run) (m k n : ℕ) (x y : Run) (h : m < length xs) (g : m < length ys) (e : x ≡ slice_index_or xs (length xs - 1 - m) x) (f : y ≡ slice_index_or ys (length ys - 1 - m) y) (s : drop (length xs - m) xs ≡ drop (length ys - m) ys) (c : n ≡ length (spread (drop (length xs - m) xs))) where
  first : n ≡ length (spread (drop (length xs - 1 - m + 1) xs))
  first = c ∙ ap (λ i. length (spread (drop i xs))) (sym (next_position xs m h))

  second : n ≡ length (spread (drop (length ys - 1 - m + 1) ys))
  second = c ∙ ap (λ (zs : List Run). length (spread zs)) s ∙ ap (λ i. length (spread (drop i ys))) (sym (next_position ys m g))

  rest : drop (length xs - 1 - m + 1) xs ≡ drop (length ys - 1 - m + 1) ys
  rest = ap (λ i. drop i xs) (next_position xs m h) ∙ s ∙ ap (λ i. drop i ys) (sym (next_position ys m g))

  pub same_part_after : k ≤ x.count → k ≤ y.count → (0 < k → x.attributes ≡ y.attributes) → drop (length (spread xs) - (n + k)) (spread xs) ≡ drop (length (spread ys) - (n + k)) (spread ys)
  same_part_after p q a =
      run_columns_after xs (length xs - 1 - m) x k n (omega (arith, h)) e p first
      ∙ (λ j. same_copies k x.attributes y.attributes a j ++ spread (rest j))
      ∙ sym (run_columns_after ys (length ys - 1 - m) y k n (omega (arith, g)) f q second)

  pub part_within_after : k ≤ x.count → n + k ≤ length (spread xs)
  part_within_after p =
      let next = length_next xs (length xs - 1 - m) x (omega (arith, h)) e in
      let all = length_parts xs (length xs - 1 - m + 1) in
      omega (arith, next, all, first, p)

  pub part_within_other : k ≤ y.count → n + k ≤ length (spread ys)
  part_within_other p =
      let next = length_next ys (length ys - 1 - m) y (omega (arith, g)) f in
      let all = length_parts ys (length ys - 1 - m + 1) in
      omega (arith, next, all, second, p)

-- another run's columns are counted
pub counted_after : (xs : List Run) (m n : ℕ) (x : Run) → m < length xs → x ≡ slice_index_or xs (length xs - 1 - m) x → n ≡ length (spread (drop (length xs - m) xs)) → n + x.count ≡ length (spread (drop (length xs - (m + 1)) xs))
counted_after xs m n x h e c =
    let here : length xs - (m + 1) ≡ length xs - 1 - m = omega arith in
    let next = length_next xs (length xs - 1 - m) x (omega (arith, h)) e in
    let one = length_parts xs (length xs - 1 - m) in
    let two = length_parts xs (length xs - 1 - m + 1) in
    let more = c ∙ ap (λ i. length (spread (drop i xs))) (sym (next_position xs m h)) in
    let count : n + x.count ≡ length (spread (drop (length xs - 1 - m) xs)) = omega (arith, next, one, two, more) in
    count ∙ ap (λ i. length (spread (drop i xs))) (sym here)

whole_after : (xs : List Run) (i n : ℕ) → n ≡ length (spread (drop i xs)) → drop (length (spread xs) - n) (spread xs) ≡ spread (drop i xs)
whole_after xs i n c =
    let all = length_parts xs i in
    let at : length (spread xs) - n ≡ length (spread (take i xs)) + 0 = omega (arith, all, c) in
    ap (λ m. drop m (spread xs)) at ∙ after_prefix xs i 0

pub same_runs_after : (xs ys : List Run) (m n : ℕ) → drop (length xs - m) xs ≡ drop (length ys - m) ys → n ≡ length (spread (drop (length xs - m) xs)) → drop (length (spread xs) - n) (spread xs) ≡ drop (length (spread ys) - n) (spread ys)
same_runs_after xs ys m n s c =
    whole_after xs (length xs - m) n c ∙ ap spread s ∙ sym (whole_after ys (length ys - m) n (c ∙ ap (λ (zs : List Run). length (spread zs)) s))

pub runs_within_after : (xs : List Run) (i n : ℕ) → n ≡ length (spread (drop i xs)) → n ≤ length (spread xs)
runs_within_after xs i n c = let all = length_parts xs i in omega (arith, all, c)

-- ---- texts

-- plain cells at the end
pub plain_after : (t : List ℕ) (s : List CellSize) (sb sc n : ℕ) → IsSized t s sb sc → n ≤ length t - sb → drop (length (faces_of t s) - n) (faces_of t s) ≡ plain_faces (drop (length t - n) t)
plain_after t s sb sc n h k =
    let count = column_count t s sb sc (length t) h refl in
    let all : take (length s) s ≡ s = take_all (length s) s (omega arith) in
    let bytes = ap bytes_of all in
    let columns = ap columns_of all in
    let one = h.bytes_are in
    let two = h.columns_are in
    let within = h.within in
    let p : Position = record { index = length s; bytes = length t - n; columns = length (faces_of t s) - n } in
    let before : IsBefore t s p = record {
      index = omega arith;
      sized = λ less. absurd (omega (arith, less));
      bytes = omega (arith, bytes, one, within, k);
      within = omega arith;
      columns = omega (arith, bytes, columns, one, two, count, within, k);
    } in
    (parted_before t s p (record { bytes = fits t s sb sc h; parts = h.parts }) before).rest ∙ ap (faces_of (drop (length t - n) t)) (drop_all (length s) s (omega arith))

pub whole_after_plain : (t : List ℕ) (s : List CellSize) (sb sc n : ℕ) → IsSized t s sb sc → n ≤ length t - sb → starts_right (drop (length (faces_of t s) - n) (faces_of t s)) ≡ false
whole_after_plain t s sb sc n h k = ap starts_right (plain_after t s sb sc n h k) ∙ starts_plain (drop (length t - n) t)

pub same_plain_after : (t u : List ℕ) (s v : List CellSize) (sb sc ub uc n : ℕ) → IsSized t s sb sc → IsSized u v ub uc → n ≤ length t - sb → n ≤ length u - ub → drop (length t - n) t ≡ drop (length u - n) u
    → drop (length (faces_of t s) - n) (faces_of t s) ≡ drop (length (faces_of u v) - n) (faces_of u v)
same_plain_after t u s v sb sc ub uc n h g k l e = plain_after t s sb sc n h k ∙ ap plain_faces e ∙ sym (plain_after u v ub uc n g l)

-- ---- rows

pub same_columns_after : (fs gs : List Face) (ats bs : List Attributes) (n m : ℕ) → length ats ≡ length fs → length bs ≡ length gs → n ≤ m → m ≤ length ats → m ≤ length bs
    → drop (length fs - n) fs ≡ drop (length gs - n) gs → drop (length ats - m) ats ≡ drop (length bs - m) bs → drop (length fs - n) (row_of fs ats) ≡ drop (length gs - n) (row_of gs bs)
same_columns_after fs gs ats bs n m p q h j k e f =
    let attributes : drop (length fs - n) ats ≡ drop (length gs - n) bs = ap (λ l. drop (l - n) ats) (sym p) ∙ fewer_after ats bs n m h j k f ∙ ap (λ l. drop (l - n) bs) q in
    row_of-drop (length fs - n) fs ats ∙ (λ i. row_of (e i) (attributes i)) ∙ sym (row_of-drop (length gs - n) gs bs)
