-- The columns in which two rows are equal.
use Rattle.std.proofs.Common.{◌≡◌, ℕ, zero, suc, ◌+◌, ◌-◌, ◌<◌, ◌≤◌, Bool, true, false, List, [], ◌∷◌, ◌++◌, length, take, drop, replicate, slice_index_or, refl, sym, ap, ◌∙◌, inl, inr, arith}
use Rattle.std.proofs.lemmas.Bool.{cases_lt}
use Rattle.std.proofs.lemmas.List.{drop_all, drop-append-le, take-take, take-append-le, length-replicate, length-append}
use Rattle.cell_base.specs.Attributes.{Attributes}
use Rattle.cell_base.specs.Row.{Row, blank}
use Rattle.cell_base.specs.WholeRow.{IsWhole}
use Rattle.cell_base.proofs.RowLemmas.{whole-append, whole-blanks}
use Rattle.clustered_row.specs.declared.cell_size.CellSize.{CellSize}
use Rattle.clustered_row.specs.declared.cut_text.CutText.{CutText}
use Rattle.clustered_row.specs.declared.position.Position.{Position}
use Rattle.clustered_row.specs.declared.run.Run.{Run}
use Rattle.clustered_row.specs.EqualColumns.{AreEqualAround, IsWholeAt}
use Rattle.clustered_row.specs.Faces.{Face, cell_faces, plain_faces, row_of, starts_right}
use Rattle.clustered_row.specs.Position.{IsPosition, IsBefore}
use Rattle.clustered_row.specs.Runs.{spread}
use Rattle.clustered_row.specs.RunSteps.{counted}
use Rattle.clustered_row.specs.Sizes.{bytes_of, columns_of, faces_of}
use Rattle.clustered_row.specs.VisibleColumns.{is_split}
use Rattle.clustered_row.proofs.AskedLemmas.{split_before, split_after}
use Rattle.clustered_row.proofs.BetweenLemmas.{IsText, parted_before, written_after}
use Rattle.clustered_row.proofs.PartLemmas.{start_closed, end_closed}
use Rattle.clustered_row.proofs.RowLemmas.{row_of-take}
use Rattle.clustered_row.proofs.RunLists.{around, cut_prefix, length_next, length_parts, spread_last, whole_prefix}
use Rattle.clustered_row.proofs.ShownLemmas.{shown}
use Rattle.clustered_row.proofs.StepLemmas.{fits, sized_of}

-- lists that are equal in their first n items are equal in their first i, where i ≤ n
pub fewer : {X : Type 0} (xs ys : List X) (i n : ℕ) → i ≤ n → take n xs ≡ take n ys → take i xs ≡ take i ys
fewer xs ys i n h e = sym (take-take i n xs h) ∙ ap (take i) e ∙ take-take i n ys h

-- ---- runs

-- whole runs, and the first k columns of the next one
run_columns : (xs : List Run) (i : ℕ) (run : Run) (k : ℕ) → i < length xs → run ≡ slice_index_or xs i run → k ≤ run.count
    → take (length (spread (take i xs)) + k) (spread xs) ≡ spread (take i xs) ++ replicate k run.attributes
run_columns xs i run k h e f =
    ap (λ (ys : List Run). take (length (spread (take i xs)) + k) (spread ys)) (around xs i run h e) ∙ cut_prefix (take i xs) run (drop (i + 1) xs) k f ∙ spread_last (take i xs) (counted run k)

pub same_copies : (k : ℕ) (a b : Attributes) → (0 < k → a ≡ b) → replicate k a ≡ replicate k b
same_copies zero a b h = refl
same_copies (suc k) a b h = ap (replicate (suc k)) (h (omega arith))

pub same_part : (xs ys : List Run) (i k n : ℕ) (x y : Run) → i < length xs → i < length ys → x ≡ slice_index_or xs i x → y ≡ slice_index_or ys i y → take i xs ≡ take i ys
    → n ≡ length (spread (take i xs)) → k ≤ x.count → k ≤ y.count → (0 < k → x.attributes ≡ y.attributes) → take (n + k) (spread xs) ≡ take (n + k) (spread ys)
same_part xs ys i k n x y h g e f s c p q a =
    let d = c ∙ ap (λ (zs : List Run). length (spread zs)) s in
    ap (λ m. take (m + k) (spread xs)) c
    ∙ run_columns xs i x k h e p
    ∙ (λ j. spread (s j) ++ same_copies k x.attributes y.attributes a j)
    ∙ sym (run_columns ys i y k g f q)
    ∙ ap (λ m. take (m + k) (spread ys)) (sym d)

pub part_within : (xs : List Run) (i k n : ℕ) (x : Run) → i < length xs → x ≡ slice_index_or xs i x → n ≡ length (spread (take i xs)) → k ≤ x.count → n + k ≤ length (spread xs)
part_within xs i k n x h e c p =
    let next = length_next xs i x h e in
    let all = length_parts xs (i + 1) in
    omega (arith, next, all, c, p)

pub runs_within : (xs : List Run) (i n : ℕ) → n ≡ length (spread (take i xs)) → n ≤ length (spread xs)
runs_within xs i n c = let all = length_parts xs i in omega (arith, all, c)

pub same_runs_prefix : (xs ys : List Run) (i n : ℕ) → take i xs ≡ take i ys → n ≡ length (spread (take i xs)) → take n (spread xs) ≡ take n (spread ys)
same_runs_prefix xs ys i n s c =
    let d = c ∙ ap (λ (zs : List Run). length (spread zs)) s in
    ap (λ m. take m (spread xs)) c ∙ whole_prefix xs i ∙ ap spread s ∙ sym (whole_prefix ys i) ∙ ap (λ m. take m (spread ys)) (sym d)

-- ---- positions

pub same_position : (s v : List CellSize) (p : Position) → IsPosition s p → p.index ≤ length v → take p.index s ≡ take p.index v → IsPosition v p
same_position s v p k h e = record { within = h; bytes = k.bytes ∙ ap bytes_of e; columns = k.columns ∙ ap columns_of e }

-- n plain cells after a position that follows all sizes
pub plain_position : (t : List ℕ) (s : List CellSize) (p q : Position) (n : ℕ) → IsPosition s p → length s ≤ p.index → q.index ≡ p.index → q.bytes ≡ p.bytes + n → q.columns ≡ p.columns + n → q.bytes ≤ length t → IsBefore t s q
plain_position t s p q n k past i b c w =
    let same : take q.index s ≡ take p.index s = ap (λ m. take m s) i in
    let bytes : p.bytes ≡ bytes_of (take q.index s) = k.bytes ∙ ap bytes_of (sym same) in
    let columns : p.columns ≡ columns_of (take q.index s) = k.columns ∙ ap columns_of (sym same) in
    let within = k.within in
    record {
      index = omega (arith, i, within);
      sized = λ less. absurd (omega (arith, less, past, i));
      bytes = omega (arith, bytes, b);
      within = w;
      columns = omega (arith, bytes, columns, b, c);
    }

-- ---- faces

starts_cell : (wide : Bool) (text : List ℕ) (fs : List Face) → starts_right (cell_faces wide text ++ fs) ≡ false
starts_cell true text fs = refl
starts_cell false text fs = refl

pub starts_plain : (bytes : List ℕ) → starts_right (plain_faces bytes) ≡ false
starts_plain [] = refl
starts_plain (b ∷ bytes) = refl

starts_faces : (t : List ℕ) (s : List CellSize) → starts_right (faces_of t s) ≡ false
starts_faces t [] = starts_plain t
starts_faces t (z ∷ s) = starts_cell z.is_wide (take z.len t) (faces_of (drop z.len t) s)

-- no cell is cut at a position
pub whole_position : (t : List ℕ) (s : List CellSize) (p : Position) → IsText t s → IsBefore t s p → starts_right (drop p.columns (faces_of t s)) ≡ false
whole_position t s p h k = ap starts_right (parted_before t s p h k).rest ∙ starts_faces (drop p.bytes t) (drop p.index s)

-- texts that are equal up to a position show equal faces before it
pub same_faces : (t u : List ℕ) (s v : List CellSize) (p : Position) → IsText t s → IsText u v → IsBefore t s p → IsBefore u v p → take p.bytes t ≡ take p.bytes u → take p.index s ≡ take p.index v
    → take p.columns (faces_of t s) ≡ take p.columns (faces_of u v)
same_faces t u s v p h g a b e f = (parted_before t s p h a).prefix ∙ (λ i. faces_of (e i) (f i)) ∙ sym (parted_before u v p g b).prefix

-- ---- rows

pub same_columns : (fs gs : List Face) (ats bs : List Attributes) (n most : ℕ) → n ≤ most → take n fs ≡ take n gs → take most ats ≡ take most bs → take n (row_of fs ats) ≡ take n (row_of gs bs)
same_columns fs gs ats bs n most h e f =
    row_of-take n fs ats ∙ (λ i. row_of (e i) (fewer ats bs n most h f i)) ∙ sym (row_of-take n gs bs)

-- no cell is cut after columns where none is cut in the columns that were written
split_prefix : (c : Row) (n k : ℕ) (a : Attributes) → is_split n c ≡ false → is_split n (c ++ replicate k (blank a)) ≡ false
split_prefix c n k a h = elim (cases_lt n (length c)) [
  | inl less ↦ split_before c (replicate k (blank a)) n less ∙ h
  | inr past ↦ split_after c k n a past
]

-- no cell is cut there, then, in a row that is whole
whole_at : (n : ℕ) (row : Row) → IsWhole row → is_split n row ≡ false → IsWholeAt n row
whole_at n row w h = record { ending = end_closed n row w h; beginning = start_closed n row h }

-- columns that were written, and blanks after them
module _ (c d : Row) (n m w v : ℕ) (a b : Attributes) (whole : IsWhole c) (other_whole : IsWhole d) where
  all_whole : IsWhole (shown c w a)
  all_whole = whole-append c (replicate (w - length c) (blank a)) whole (whole-blanks (w - length c) a)

  other_all_whole : IsWhole (shown d v b)
  other_all_whole = whole-append d (replicate (v - length d) (blank b)) other_whole (whole-blanks (v - length d) b)

  pub around_columns : n ≤ length c → n ≤ length d → take n c ≡ take n d → is_split n c ≡ false → is_split n d ≡ false → length c ≤ m → length d ≤ m
      → drop m (shown c w a) ≡ drop m (shown d v b) → AreEqualAround n m (shown c w a) (shown d v b)
  around_columns i j e h k p q back =
      record {
        order = omega (arith, i, p);
        prefix = take-append-le n c (replicate (w - length c) (blank a)) i ∙ e ∙ sym (take-append-le n d (replicate (v - length d) (blank b)) j);
        suffix = back;
        first = whole_at n (shown c w a) all_whole (split_prefix c n (w - length c) a h);
        other_first = whole_at n (shown d v b) other_all_whole (split_prefix d n (v - length d) b k);
        last = whole_at m (shown c w a) all_whole (split_after c (w - length c) m a p);
        other_last = whole_at m (shown d v b) other_all_whole (split_after d (v - length d) m b q);
      }

  -- the written columns are equal from m on, and so are the blanks after them
  pub around_parts : n ≤ m → n ≤ length d → take n c ≡ take n d → is_split n c ≡ false → is_split n d ≡ false → m ≤ length c → length c ≡ length d → drop m c ≡ drop m d
      → is_split m c ≡ false → is_split m d ≡ false → w ≡ v → a ≡ b → AreEqualAround n m (shown c w a) (shown d v b)
  around_parts i j e h k p q back f g x y =
      record {
        order = i;
        prefix = take-append-le n c (replicate (w - length c) (blank a)) (omega (arith, i, p)) ∙ e ∙ sym (take-append-le n d (replicate (v - length d) (blank b)) j);
        suffix = drop-append-le m c (replicate (w - length c) (blank a)) p ∙ (λ i. back i ++ replicate (x i - q i) (blank (y i))) ∙ sym (drop-append-le m d (replicate (v - length d) (blank b)) (omega (arith, p, q)));
        first = whole_at n (shown c w a) all_whole (split_prefix c n (w - length c) a h);
        other_first = whole_at n (shown d v b) other_all_whole (split_prefix d n (v - length d) b k);
        last = whole_at m (shown c w a) all_whole (split_prefix c m (w - length c) a f);
        other_last = whole_at m (shown d v b) other_all_whole (split_prefix d m (v - length d) b g);
      }

-- blanks alone are left all columns that were written
pub same_after : (c d : Row) (m w v : ℕ) (a b : Attributes) → length c ≤ m → length d ≤ m → w ≡ v → a ≡ b → drop m (shown c w a) ≡ drop m (shown d v b)
same_after c d m w v a b p q e f =
    let count : w - length c - (m - length c) ≡ v - length d - (m - length d) = omega (arith, p, q, e) in
    written_after c (w - length c) m (blank a) p ∙ (λ i. replicate (count i) (blank (f i))) ∙ sym (written_after d (v - length d) m (blank b) q)

-- nothing is left after both rows
pub none_after : (c d : Row) (m w v : ℕ) (a b : Attributes) → length c ≤ w → length d ≤ v → w ≤ m → v ≤ m → drop m (shown c w a) ≡ drop m (shown d v b)
none_after c d m w v a b p q h k =
    let one = length-append c (replicate (w - length c) (blank a)) in
    let two = length-append d (replicate (v - length d) (blank b)) in
    let more = length-replicate (w - length c) (blank a) in
    let less = length-replicate (v - length d) (blank b) in
    drop_all m (shown c w a) (omega (arith, one, more, p, h)) ∙ sym (drop_all m (shown d v b) (omega (arith, two, less, q, k)))

-- ---- texts and columns that are kept

pub text_of_cut : (cut : CutText) → IsText cut.text.items cut.sizes.items
text_of_cut cut = record { bytes = fits cut.text.items cut.sizes.items cut.sized_bytes cut.sized_columns (sized_of cut); parts = cut.parts }
