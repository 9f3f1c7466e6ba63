-- Cells read from the left as they are stored, and as visible cells.
use Rattle.std.proofs.Common.{◌≡◌, ℕ, ◌+◌, ◌<◌, ◌≤◌, Bool, true, false, List, [], ◌∷◌, ◌++◌, drop, refl, sym, ap, ◌∙◌, arith}
use Rattle.std.specs.Prelude.{nat_le, map, filter, if◌then◌else◌}
use Rattle.cell_base.specs.CellContent.{CellContent, row_of_cells}
use Rattle.cell_edits.specs.CellList.{ends_split, cell_columns}
use Rattle.cell_views.specs.CellRefView.{one_or_two}
use Rattle.cell_edits.specs.VisibleCells.{VisibleCell, visible_at, visible_from, visible_cells, row_of_visible}
use Rattle.cell_views.specs.ReadCells.{read_from}
use Rattle.cell_edits.proofs.CellLemmas.{by_test, wide_is, narrow_is, row_wide, row_narrow, split_wide, split_narrow}

-- a stored cell as it is seen
abbrev pub seen : VisibleCell → VisibleCell
seen v = visible_at v.column v.cell.text (one_or_two v.cell.width) v.cell.attributes

pub seen_columns : (v : VisibleCell) → cell_columns (seen v).cell ≡ cell_columns v.cell
seen_columns v = by_test (nat_le 2 v.cell.width) (λ e. rw e refl) (λ e. rw e refl)

pub row_of_seen : (cells : List VisibleCell) → row_of_visible (map seen cells) ≡ row_of_visible cells
row_of_seen [] = refl
row_of_seen (v ∷ cells) = λ i. seen_columns v i ++ row_of_seen cells i

-- the cells that are read are the visible ones, where the last cell isn't split
pub read_is_visible : (i : ℕ) (cells : List CellContent) → ends_split cells ≡ false → map seen (read_from i cells) ≡ visible_from i (row_of_cells cells)
read_is_visible i [] h = refl
read_is_visible i (c ∷ []) h = rw h refl
read_is_visible i (c ∷ n ∷ cs) h = by_test (nat_le 2 c.width)
    (λ e.
    let on : i + 1 + 1 ≡ i + 2 = omega arith in
    ap (λ t. map seen (if t then record { column = i; cell = c } ∷ read_from (i + 2) cs else record { column = i; cell = c } ∷ read_from (i + 1) (n ∷ cs))) e
    ∙ (λ j. visible_at i c.text (if e j then 2 else 1) c.attributes ∷ read_is_visible (i + 2) cs (sym (split_wide c n cs e) ∙ h) j)
    ∙ ap (λ m. visible_at i c.text 2 c.attributes ∷ visible_from m (row_of_cells cs)) (sym on)
    ∙ sym (ap (visible_from i) (row_wide c n cs e)))
    (λ e.
    ap (λ t. map seen (if t then record { column = i; cell = c } ∷ read_from (i + 2) cs else record { column = i; cell = c } ∷ read_from (i + 1) (n ∷ cs))) e
    ∙ (λ j. visible_at i c.text (if e j then 2 else 1) c.attributes ∷ read_is_visible (i + 1) (n ∷ cs) (sym (split_narrow c n cs e) ∙ h) j)
    ∙ sym (ap (visible_from i) (row_narrow c n cs e)))

-- a test of columns picks the same cells on both sides
filter_if : {X Y : Type 0} (f : X → Y) (b : Bool) (x : X) (xs : List X) (ys : List Y) → map f xs ≡ ys → map f (if b then x ∷ xs else xs) ≡ (if b then f x ∷ ys else ys)
filter_if {X} {Y} f true x xs ys e = ap (λ (zs : List Y). f x ∷ zs) e
filter_if f false x xs ys e = e

pub picked : (p : ℕ → Bool) (cells : List VisibleCell) → map seen (filter (λ v. p v.column) cells) ≡ filter (λ v. p v.column) (map seen cells)
picked p [] = refl
picked p (v ∷ cells) = filter_if seen (p v.column) v (filter (λ w. p w.column) cells) _ (picked p cells)

-- the row of the picked cells
pub row_picked : (p : ℕ → Bool) (cells : List CellContent) → ends_split cells ≡ false → row_of_visible (filter (λ v. p v.column) (read_from 0 cells)) ≡ row_of_visible (filter (λ v. p v.column) (visible_cells (row_of_cells cells)))
row_picked p cells h =
    sym (row_of_seen (filter (λ v. p v.column) (read_from 0 cells))) ∙ ap row_of_visible (picked p (read_from 0 cells) ∙ ap (filter (λ v. p v.column)) (read_is_visible 0 cells h))

pub read_narrow : (i : ℕ) (c : CellContent) (cs : List CellContent) → c.width < 2 → read_from i (c ∷ cs) ≡ record { column = i; cell = c } ∷ read_from (i + 1) cs
read_narrow i c [] h = refl
read_narrow i c (n ∷ cs) h = ap (λ t. if t then record { column = i; cell = c } ∷ read_from (i + 2) cs else record { column = i; cell = c } ∷ read_from (i + 1) (n ∷ cs)) (narrow_is c.width h)

pub read_wide : (i : ℕ) (c n : CellContent) (cs : List CellContent) → 2 ≤ c.width → read_from i (c ∷ n ∷ cs) ≡ record { column = i; cell = c } ∷ read_from (i + 2) cs
read_wide i c n cs h = ap (λ t. if t then record { column = i; cell = c } ∷ read_from (i + 2) cs else record { column = i; cell = c } ∷ read_from (i + 1) (n ∷ cs)) (wide_is c.width h)

pub read_wide_any : (i : ℕ) (c : CellContent) (cs : List CellContent) → 2 ≤ c.width → read_from i (c ∷ cs) ≡ record { column = i; cell = c } ∷ read_from (i + 2) (drop 1 cs)
read_wide_any i c [] h = refl
read_wide_any i c (n ∷ cs) h = ap (λ t. if t then record { column = i; cell = c } ∷ read_from (i + 2) cs else record { column = i; cell = c } ∷ read_from (i + 1) (n ∷ cs)) (wide_is c.width h)
