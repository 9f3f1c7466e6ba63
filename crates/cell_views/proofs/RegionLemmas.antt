-- Parts of a row, and the text after some of its clusters.
use Rattle.std.proofs.Common.{◌≡◌, ℕ, zero, suc, ◌+◌, ◌-◌, ◌<◌, ◌≤◌, true, false, List, [], ◌∷◌, length, get_or, take, drop, map, IsUtf8, refl, sym, ap, ◌∙◌, arith}
use Rattle.std.specs.Prelude.{nat_le}
use Rattle.unicode_segmentation.specs.Grapheme.{graphemes}
use Rattle.text_clusters.proofs.TextLemmas.{clusters_after}
use Rattle.cell_base.specs.CellContent.{CellContent, blank_cell, row_of_cells}
use Rattle.cell_base.specs.Cluster.{read_cluster, clusters}
use Rattle.cell_base.specs.Row.{Narrow, LeftHalf, RightHalf, Row, space, blank, closed_end}
use Rattle.cell_edits.specs.CellList.{ends_split}
use Rattle.cell_edits.specs.RowEdits.{cut, cut_prefix}
use Rattle.cell_views.specs.Region.{region}
use Rattle.cell_edits.specs.TextRuns.{text_after}
use Rattle.cell_edits.specs.VisibleCells.{visible_at, visible_from}
use Rattle.cell_edits.proofs.CellLemmas.{by_test, row_wide, row_narrow, closed_end-wide, closed_end-narrow, after_clean, after_cut}
use Rattle.cell_edits.proofs.CutLemmas.{row_narrow_any}

-- the first cells, read as a row
pub row_taken : (cells : List CellContent) (n : ℕ) → row_of_cells (take n cells) ≡ closed_end (take n (row_of_cells cells))
row_taken [] zero = refl
row_taken [] (suc m) = refl
row_taken (c ∷ []) zero = refl
row_taken (c ∷ []) (suc zero) = by_test (nat_le 2 c.width) (λ e. rw e refl) (λ e. rw e refl)
row_taken (c ∷ []) (suc (suc m)) = by_test (nat_le 2 c.width) (λ e. rw e refl) (λ e. rw e refl)
row_taken (c ∷ n ∷ cs) zero = refl
row_taken (c ∷ n ∷ cs) (suc zero) = by_test (nat_le 2 c.width) (λ e. rw e refl) (λ e. rw e refl)
row_taken (c ∷ n ∷ cs) (suc (suc m)) = by_test (nat_le 2 c.width)
    (λ e. row_wide c n (take m cs) e ∙ ap (λ (r : Row). LeftHalf c.text c.attributes ∷ RightHalf c.attributes ∷ r) (row_taken cs m)
    ∙ sym (closed_end-wide c.text c.attributes (take m (row_of_cells cs))) ∙ sym (ap (λ (r : Row). closed_end (take (suc (suc m)) r)) (row_wide c n cs e)))
    (λ e. row_narrow c n (take m cs) e ∙ ap (λ (r : Row). Narrow c.text c.attributes ∷ r) (row_taken (n ∷ cs) (suc m))
    ∙ sym (closed_end-narrow c.text c.attributes (take (suc m) (row_of_cells (n ∷ cs)))) ∙ sym (ap (λ (r : Row). closed_end (take (suc (suc m)) r)) (row_narrow c n cs e)))

pub region_clean : (cells : List CellContent) (start end : ℕ) → ends_split (take start cells) ≡ false
    → visible_from start (row_of_cells (take (end - start) (drop start cells))) ≡ region start end (row_of_cells cells)
region_clean cells start end h = ap (visible_from start) (row_taken (drop start cells) (end - start) ∙ ap (λ (r : Row). closed_end (take (end - start) r)) (after_clean cells start h))

pub region_none : (cells : List CellContent) (start end : ℕ) → end ≤ start → visible_from start (row_of_cells (take (end - start) (drop start cells))) ≡ region start end (row_of_cells cells)
region_none cells start end h =
    let none : end - start ≡ 0 = omega arith in
    ap (λ n. visible_from start (row_of_cells (take n (drop start cells)))) none ∙ sym (ap (λ n. visible_from start (cut n (cut_prefix start (row_of_cells cells)))) none)

pub region_split : (cells : List CellContent) (start end : ℕ) (d : CellContent) → 0 < start → start < end → end ≤ length cells → ends_split (take start cells) ≡ true
    → visible_at start space 1 (get_or cells (start - 1) d).attributes ∷ visible_from (start + 1) (row_of_cells (take (end - (start + 1)) (drop (start + 1) cells))) ≡ region start end (row_of_cells cells)
region_split cells zero end d some o l h = absurd (omega arith)
region_split cells (suc p) end d some o l h =
    let a = (get_or cells p d).attributes in
    let after : List CellContent = drop (suc (suc p)) cells in
    let m = end - suc (suc p) in
    let at : suc p - 1 ≡ p = omega arith in
    let next : suc p + 1 ≡ suc (suc p) = omega arith in
    let count : end - suc p ≡ suc m = omega arith in
    let prefix : blank a ∷ row_of_cells after ≡ cut_prefix (suc p) (row_of_cells cells) = sym (row_narrow_any (blank_cell a) after refl) ∙ after_cut cells p d h (omega arith) in
    (λ i. visible_at (suc p) space 1 (get_or cells (at i) d).attributes ∷ visible_from (suc p + 1) (row_of_cells (take (end - next i) (drop (next i) cells))))
    ∙ ap (λ (r : Row). visible_from (suc p) (blank a ∷ r)) (row_taken after m)
    ∙ ap (visible_from (suc p)) (sym (closed_end-narrow space a (take m (row_of_cells after))) ∙ ap (λ n. closed_end (take n (blank a ∷ row_of_cells after))) (sym count) ∙ ap (cut (end - suc p)) prefix)

-- ---- texts

drop_mapped : (f : List ℕ → List ℕ) (n : ℕ) (xs : List (List ℕ)) → map f (drop n xs) ≡ drop n (map f xs)
drop_mapped f zero xs = refl
drop_mapped f (suc n) [] = refl
drop_mapped f (suc n) (x ∷ xs) = drop_mapped f n xs

-- the clusters of the text after its first n clusters
pub clusters_left : (n : ℕ) (text left : List ℕ) → IsUtf8 text → left ≡ text_after n text → clusters left ≡ drop n (clusters text)
clusters_left n text left u e =
    ap clusters e ∙ ap (map read_cluster) (clusters_after n text u) ∙ drop_mapped read_cluster n (graphemes true text)
