-- Fresh cells of rows that are walked from the left.
use Rattle.std.proofs.Common.{◌≡◌, ℕ, zero, suc, ◌+◌, ◌-◌, ◌<◌, ◌≤◌, ◌^◌, ◌∙◌, ◌⊎◌, Bool, true, false, List, [], ◌∷◌, ◌++◌, append_assoc, length, take, drop, refl, sym, ap, subst, inl, inr, arith}
use Rattle.std.specs.Prelude.{◌&&◌, ◌||◌, ◌==◌, not, nat_lt, min, if◌then◌else◌}
use Rattle.std.specs.Cmp.{unsigned_Decides}
use Rattle.std.proofs.lemmas.Bool.{ltb-true, ltb-false}
use Rattle.std.proofs.lemmas.List.{length-take-le, length-drop, take_min}
use Rattle.cell_base.specs.Row.{Row, closed_start}
use Rattle.cell_base.specs.SameCell.{same_cell, same_cell_decides}
use Rattle.screen_change.proofs.TextLemmas.{by_test}
use Rattle.cell_line.specs.LineContent.{LineContent}
use Rattle.cell_views.specs.Region.{region}
use Rattle.cell_edits.specs.RowEdits.{cut, cut_prefix}
use Rattle.cell_edits.specs.VisibleCells.{VisibleCell, visible_from}
use Rattle.cell_views.proofs.KeptLemmas.{AreInOrder, in_order}
use Rattle.cell_base.specs.WholeRow.{IsWhole}
use Rattle.cell_base.proofs.RowLemmas.{length-closed_end, length-closed_start, whole-prefix, whole-after}
use Rattle.screen_difference.specs.FreshCells.{columns_from, fresh, is_shown, row_fresh, rows_fresh, rows_of, shared_width}
use Rattle.screen_difference.specs.ShownCells.{begins_with, from_column, passed_fresh, side_by_side, HaveRoom}
use Rattle.screen_difference.proofs.SideLemmas.{differs, room_visible, side_visible}

-- ---- old cells that are passed

pub or_false : (b : Bool) → (b || false) ≡ b
or_false true = refl
or_false false = refl

pub not_here : (o : VisibleCell) (olds : List VisibleCell) (v : VisibleCell) → (o.column < v.column) ⊎ (v.column < o.column) → is_shown (o ∷ olds) v ≡ is_shown olds v
not_here o olds v h = ap (λ t. (t && same_cell o.cell v.cell) || is_shown olds v) (differs o.column v.column h)

-- passing the cells before a column passes no cell at this column or after it
shown_from : (column : ℕ) (olds : List VisibleCell) (v : VisibleCell) → column ≤ v.column → is_shown (from_column column olds) v ≡ is_shown olds v
shown_from column [] v h = refl
shown_from column (o ∷ olds) v h =
    by_test (nat_lt o.column column)
    (λ e.
    let less = ltb-true o.column column e in
    ap (λ t. is_shown (if t then from_column column olds else o ∷ olds) v) e ∙ shown_from column olds v h ∙ sym (not_here o olds v (inl (omega arith))))
    (λ e. ap (λ t. is_shown (if t then from_column column olds else o ∷ olds) v) e)

pub none_later : (at : ℕ) (olds : List VisibleCell) (v : VisibleCell) → v.column < at → AreInOrder at olds → is_shown olds v ≡ false
none_later at [] v h p = refl
none_later at (o ∷ olds) v h p = let q = p.0 in not_here o olds v (inr (omega arith)) ∙ none_later (o.column + 1) olds v (omega arith) p.1

-- of the cells from a column on only the first can be at this column
first_shown : (at : ℕ) (olds : List VisibleCell) (v : VisibleCell) → AreInOrder at olds → is_shown (from_column v.column olds) v ≡ begins_with (from_column v.column olds) v.column v.cell
first_shown at [] v p = refl
first_shown at (o ∷ olds) v p =
    by_test (nat_lt o.column v.column)
    (λ e.
    ap (λ t. is_shown (if t then from_column v.column olds else o ∷ olds) v) e
    ∙ first_shown (o.column + 1) olds v p.1
    ∙ sym (ap (λ t. begins_with (if t then from_column v.column olds else o ∷ olds) v.column v.cell) e))
    (λ e.
    let more = ltb-false o.column v.column e in
    ap (λ t. is_shown (if t then from_column v.column olds else o ∷ olds) v) e
    ∙ ap (λ t. (o.column == v.column && same_cell o.cell v.cell) || t) (none_later (o.column + 1) olds v (omega arith) p.1)
    ∙ or_false (o.column == v.column && same_cell o.cell v.cell)
    ∙ sym (ap (λ t. begins_with (if t then from_column v.column olds else o ∷ olds) v.column v.cell) e))

pub from_lower : (at bt : ℕ) (cells : List VisibleCell) → at ≤ bt → AreInOrder bt cells → AreInOrder at cells
from_lower at bt [] h p = tt
from_lower at bt (v ∷ cells) h p = let q = p.0 in (omega arith, p.1)

rest_in_order : (at column : ℕ) (olds : List VisibleCell) → AreInOrder at olds → AreInOrder at (from_column column olds)
rest_in_order at column [] p = tt
rest_in_order at column (o ∷ olds) p =
    let q = p.0 in
    by_test (nat_lt o.column column)
    (λ e. let rest : AreInOrder at (from_column column olds) = from_lower at (o.column + 1) (from_column column olds) (omega arith) (rest_in_order (o.column + 1) column olds p.1) in rw e rest)
    (λ e. let rest : AreInOrder at (o ∷ olds) = p in rw e rest)

same_fresh : (column : ℕ) (olds news : List VisibleCell) → AreInOrder column news → fresh (from_column column olds) news ≡ fresh olds news
same_fresh column olds [] p = refl
same_fresh column olds (v ∷ news) p =
    let q = p.0 in
    let later : fresh (from_column column olds) news ≡ fresh olds news = same_fresh column olds news (from_lower column (v.column + 1) news (omega arith) p.1) in
    (λ i. if not (shown_from column olds v q i) then v ∷ later i else later i)

pub passed_is_fresh : (at bt : ℕ) (olds news : List VisibleCell) → AreInOrder at olds → AreInOrder bt news → passed_fresh olds news ≡ fresh olds news
passed_is_fresh at bt olds [] p q = refl
passed_is_fresh at bt olds (v ∷ news) p q =
    let rest : List VisibleCell = from_column v.column olds in
    let same : begins_with rest v.column v.cell ≡ is_shown olds v = sym (first_shown at olds v p) ∙ shown_from v.column olds v (omega arith) in
    let remaining : passed_fresh rest news ≡ fresh olds news =
    passed_is_fresh at (v.column + 1) rest news (rest_in_order at v.column olds p) q.1
    ∙ same_fresh v.column olds news (from_lower v.column (v.column + 1) news (omega arith) q.1) in
    by_test (is_shown olds v)
    (λ e. ap (λ t. if t then passed_fresh rest news else v ∷ passed_fresh rest news) (same ∙ e) ∙ remaining ∙ sym (ap (λ t. if not t then v ∷ fresh olds news else fresh olds news) e))
    (λ e.
    ap (λ t. if t then passed_fresh rest news else v ∷ passed_fresh rest news) (same ∙ e)
    ∙ ap (λ (vs : List VisibleCell). v ∷ vs) remaining
    ∙ sym (ap (λ t. if not t then v ∷ fresh olds news else fresh olds news) e))

-- ---- columns of the new side, at the columns of the old side

pub whole_part : (x n : ℕ) (r : Row) → IsWhole r → IsWhole (columns_from x n r)
whole_part x n r p = whole-prefix n (closed_start (drop x r)) (whole-after x r p)

region_is : (start count : ℕ) (row : Row) → region start (start + count) row ≡ visible_from start (columns_from start count row)
region_is start count row = let e : start + count - start ≡ count = omega arith in ap (λ n. visible_from start (cut n (cut_prefix start row))) e

-- the cells of a region have room from a column on
pub region_room : (x other_x count : ℕ) (row : Row) → IsWhole row → other_x + count ≤ length row → x + count < 2 ^ 64 → HaveRoom x (region other_x (other_x + count) row)
region_room x other_x count row w h l =
    let part : Row = columns_from other_x count row in
    let after = length-drop other_x row in
    let prefix = length-closed_start (drop other_x row) in
    let taken = length-take-le count (closed_start (drop other_x row)) (omega arith) in
    let all = length-closed_end (take count (closed_start (drop other_x row))) in
    subst (HaveRoom x) (sym (region_is other_x count row)) (room_visible other_x x part (whole_part other_x count row w) (omega arith))

-- those that a region has, side by side from a column on
region_side : (x other_x count : ℕ) (row : Row) → IsWhole row → side_by_side x (region other_x (other_x + count) row) ≡ visible_from x (columns_from other_x count row)
region_side x other_x count row w = ap (side_by_side x) (region_is other_x count row) ∙ side_visible other_x x (columns_from other_x count row) (whole_part other_x count row w)

-- a walk over both regions finds the fresh cells
pub row_is_fresh : (x other_x count : ℕ) (old new : Row) → IsWhole old → IsWhole new → passed_fresh (side_by_side x (region x (x + count) old)) (side_by_side x (region other_x (other_x + count) new)) ≡ fresh (visible_from x (columns_from x count old)) (visible_from x (columns_from other_x count new))
row_is_fresh x other_x count old new o w =
    (λ i. passed_fresh (region_side x x count old o i) (region_side x other_x count new w i))
    ∙ passed_is_fresh x x (visible_from x (columns_from x count old)) (visible_from x (columns_from other_x count new)) (in_order x (columns_from x count old)) (in_order x (columns_from other_x count new))

pub none_fresh : (x other_x width : ℕ) (old new : Row) → shared_width width x old other_x new ≡ 0 → row_fresh x other_x width old new ≡ []
none_fresh x other_x width old new e = ap (λ count. fresh (visible_from x (columns_from x count old)) (visible_from x (columns_from other_x count new))) e

-- each of some cells is shown by them
shown_there : (done rest : List VisibleCell) (v : VisibleCell) → is_shown (done ++ v ∷ rest) v ≡ true
shown_there [] rest v =
    let position : (v.column == v.column) ≡ true = (unsigned_Decides v.column v.column).1 refl in
    let cell : same_cell v.cell v.cell ≡ true = (same_cell_decides v.cell v.cell).1 refl in
    λ i. (position i && cell i) || is_shown rest v
shown_there (old ∷ done) rest v = ap (λ b. (old.column == v.column && same_cell old.cell v.cell) || b) (shown_there done rest v) ∙ or_true (old.column == v.column && same_cell old.cell v.cell)
  where
    or_true : (b : Bool) → (b || true) ≡ true
    or_true true = refl
    or_true false = refl

pub all_shown : (done news rest : List VisibleCell) → fresh (done ++ (news ++ rest)) news ≡ []
all_shown done [] rest = refl
all_shown done (v ∷ news) rest =
    ap (λ b. if not b then v ∷ fresh (done ++ v ∷ (news ++ rest)) news else fresh (done ++ v ∷ (news ++ rest)) news) (shown_there done (news ++ rest) v)
    ∙ ap (λ olds. fresh olds news) (sym (append_assoc done (v ∷ []) (news ++ rest))) ∙ all_shown (done ++ v ∷ []) news rest

-- ---- rows in turn

pub rows_end : (compare : Row → Row → List VisibleCell) (number : ℕ) (olds news : List Row) → min (length olds) (length news) ≡ 0 → rows_fresh compare number olds news ≡ []
rows_end compare number [] news e = refl
rows_end compare number (old ∷ olds) [] e = refl
rows_end compare number (old ∷ olds) (new ∷ news) e = absurd (omega arith)

-- columns of the lines from one on, and of the first ones
pub columns_after : (n : ℕ) (lines : List LineContent) → rows_of (drop n lines) ≡ drop n (rows_of lines)
columns_after zero lines = refl
columns_after (suc n) [] = refl
columns_after (suc n) (line ∷ lines) = columns_after n lines

columns_before : (n : ℕ) (lines : List LineContent) → rows_of (take n lines) ≡ take n (rows_of lines)
columns_before zero lines = refl
columns_before (suc n) [] = refl
columns_before (suc n) (line ∷ lines) = ap (λ (rows : List Row). line.columns ∷ rows) (columns_before n lines)

-- the columns of the first n lines from line y on
pub columns_within : (y n m : ℕ) (lines olds : List LineContent) → olds ≡ drop y lines → m ≡ min n (length olds) → rows_of (take m olds) ≡ take n (drop y (rows_of lines))
columns_within y n m lines olds e f = ap rows_of (ap (λ k. take k olds) f ∙ take_min n olds) ∙ columns_before n olds ∙ ap (take n) (ap rows_of e ∙ columns_after y lines)
