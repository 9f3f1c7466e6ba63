-- Queries of a row's columns, answered from its faces and attributes and from the blanks after these.
use Rattle.std.proofs.Common.{◌≡◌, ℕ, zero, suc, ◌+◌, ◌-◌, ◌<◌, ◌≤◌, Bool, true, false, List, [], ◌∷◌, ◌++◌, length, drop, replicate, get_or, Option, Some, None, refl, sym, ap, ◌∙◌, append-nil, length-append, arith}
use Rattle.std.specs.Prelude.{find, fold, is_some, not, ◌==◌, if◌then◌else◌}
use Rattle.std.proofs.lemmas.Bool.{ne_eqb, eq-eqb}
use Rattle.std.proofs.lemmas.List.{drop_more, drop_all, length-drop, length-replicate, drop-append-le, get_or-append-add}
use Rattle.std.proofs.Math.Seq.{drop-append-add}
use Rattle.cell_base.specs.Attributes.{Attributes}
use Rattle.cell_base.specs.Row.{Column, Narrow, LeftHalf, RightHalf, Row, space, blank}
use Rattle.cell_base.specs.WholeRow.{IsWhole}
use Rattle.cell_base.proofs.RowLemmas.{whole-append, whole-blanks}
use Rattle.cell_edits.specs.VisibleCells.{VisibleCell, visible_at, visible_from, visible_cells, cell_at, ends_wrapped}
use Rattle.clustered_row.specs.declared.lent_text.LentText.{LentText}
use Rattle.clustered_row.specs.Faces.{Face, Own, Left, Right, column, first_face, row_of, starts_right}
use Rattle.clustered_row.specs.LentTexts.{IsLentAt}
use Rattle.clustered_row.specs.Sizes.{width_of}
use Rattle.clustered_row.specs.VisibleColumns.{starts_split, is_split, column_attributes}
use Rattle.clustered_row.proofs.RowLemmas.{row_of-drop}

-- ---- the second column of a wide text

first_starts : (wide : Bool) (text : List ℕ) (fs : List Face) → starts_right (first_face wide text ∷ fs) ≡ false
first_starts true text fs = refl
first_starts false text fs = refl

pub lent_none : (fs : List Face) (at : ℕ) → at < length fs → get_or fs at Right ≡ Right → starts_right (drop at fs) ≡ true
lent_none fs at h e = ap starts_right (drop_more fs at Right h) ∙ ap (λ (f : Face). starts_right (f ∷ drop (at + 1) fs)) e

pub lent_some : (fs : List Face) (at : ℕ) (wide : Bool) (text : List ℕ) → at < length fs → get_or fs at Right ≡ first_face wide text → starts_right (drop at fs) ≡ false
lent_some fs at wide text h e = ap starts_right (drop_more fs at Right h) ∙ ap (λ (f : Face). starts_right (f ∷ drop (at + 1) fs)) e ∙ first_starts wide text (drop (at + 1) fs)

pub lent_starts : (fs : List Face) (at : ℕ) (lent : Option LentText) (b : Bool) → at < length fs → IsLentAt fs at lent → is_some lent ≡ not b → b ≡ starts_right (drop at fs)
lent_starts fs at None true h e s = sym (lent_none fs at h e)
lent_starts fs at None false h e s = absurd (cc)
lent_starts fs at (Some cell) false h e s = sym (lent_some fs at cell.is_wide cell.text.now h e)
lent_starts fs at (Some cell) true h e s = absurd (cc)

starts_split-row_of : (fs : List Face) (ats : List Attributes) → length fs ≡ length ats → starts_split (row_of fs ats) ≡ starts_right fs
starts_split-row_of [] ats e = refl
starts_split-row_of (f ∷ fs) [] e = absurd (omega arith)
starts_split-row_of (Own text ∷ fs) (a ∷ ats) e = refl
starts_split-row_of (Left text ∷ fs) (a ∷ ats) e = refl
starts_split-row_of (Right ∷ fs) (a ∷ ats) e = refl

pub split_face : (fs : List Face) (ats : List Attributes) (at : ℕ) → length fs ≡ length ats → is_split at (row_of fs ats) ≡ starts_right (drop at fs)
split_face fs ats at e =
    ap starts_split (row_of-drop at fs ats) ∙ starts_split-row_of (drop at fs) (drop at ats) (let n = length-drop at fs in let m = length-drop at ats in omega (arith, n, m, e))

starts_before : (xs ys : Row) → 0 < length xs → starts_split (xs ++ ys) ≡ starts_split xs
starts_before [] ys h = absurd (omega arith)
starts_before (Narrow text a ∷ xs) ys h = refl
starts_before (LeftHalf text a ∷ xs) ys h = refl
starts_before (RightHalf a ∷ xs) ys h = refl

pub split_before : (xs ys : Row) (at : ℕ) → at < length xs → is_split at (xs ++ ys) ≡ is_split at xs
split_before xs ys at h =
    ap starts_split (drop-append-le at xs ys (omega arith)) ∙ starts_before (drop at xs) ys (let n = length-drop at xs in omega (arith, n, h))

blanks_start : (n k : ℕ) (a : Attributes) → is_split k (replicate n (blank a)) ≡ false
blanks_start zero zero a = refl
blanks_start zero (suc k) a = refl
blanks_start (suc n) zero a = refl
blanks_start (suc n) (suc k) a = blanks_start n k a

pub split_after : (xs : Row) (n at : ℕ) (a : Attributes) → length xs ≤ at → is_split at (xs ++ replicate n (blank a)) ≡ false
split_after xs n at a h =
    let k = at - length xs in
    let on : at ≡ length xs + k = omega arith in
    ap (λ m. is_split m (xs ++ replicate n (blank a))) on ∙ ap starts_split (drop-append-add xs (replicate n (blank a)) k) ∙ blanks_start n k a

-- ---- attributes

attributes-column : (f : Face) (a : Attributes) → column_attributes (column f a) ≡ a
attributes-column (Own text) a = refl
attributes-column (Left text) a = refl
attributes-column Right a = refl

pub attributes_face : (fs : List Face) (ats : List Attributes) (at : ℕ) (d : Column) (x : Attributes) → length fs ≡ length ats → at < length fs
    → column_attributes (get_or (row_of fs ats) at d) ≡ get_or ats at x
attributes_face [] ats at d x e h = absurd (omega arith)
attributes_face (f ∷ fs) [] at d x e h = absurd (omega arith)
attributes_face (f ∷ fs) (a ∷ ats) zero d x e h = attributes-column f a
attributes_face (f ∷ fs) (a ∷ ats) (suc at) d x e h = attributes_face fs ats at d x (omega arith) (omega arith)

-- ---- the cell that begins at a column

-- the one that a row begins with
abbrev pub first_at : ℕ → Row → Option VisibleCell
first_at at [] = None
first_at at (Narrow text a ∷ row) = Some (visible_at at text 1 a)
first_at at (LeftHalf text a ∷ row) = Some (visible_at at text 2 a)
first_at at (RightHalf a ∷ row) = None

hit : (v : VisibleCell) (cells : List VisibleCell) (at : ℕ) → v.column ≡ at → find (λ w. w.column == at) (v ∷ cells) ≡ Some v
hit v cells at e = ap (λ b. if b then Some v else find (λ w. w.column == at) cells) (eq-eqb v.column at e)

miss : (v : VisibleCell) (cells : List VisibleCell) (at : ℕ) → (v.column ≡ at → ⊥) → find (λ w. w.column == at) (v ∷ cells) ≡ find (λ w. w.column == at) cells
miss v cells at e = ap (λ b. if b then Some v else find (λ w. w.column == at) cells) (ne_eqb v.column at e)

none_below : (row : Row) (from at : ℕ) → at < from → find (λ v. v.column == at) (visible_from from row) ≡ None
none_below [] from at h = refl
none_below (Narrow text a ∷ row) from at h = miss (visible_at from text 1 a) (visible_from (from + 1) row) at (λ e. absurd (omega (arith, e, h))) ∙ none_below row (from + 1) at (omega (arith, h))
none_below (LeftHalf text a ∷ row) from at h = miss (visible_at from text 2 a) (visible_from (from + 1) row) at (λ e. absurd (omega (arith, e, h))) ∙ none_below row (from + 1) at (omega (arith, h))
none_below (RightHalf a ∷ row) from at h = none_below row (from + 1) at (omega (arith, h))

find_at : (row : Row) (from n at : ℕ) → at ≡ from + n → find (λ v. v.column == at) (visible_from from row) ≡ first_at at (drop n row)
find_at [] from zero at e = refl
find_at [] from (suc n) at e = refl
find_at (Narrow text a ∷ row) from zero at e =
    let same : from ≡ at = omega (arith, e) in
    hit (visible_at from text 1 a) (visible_from (from + 1) row) at same ∙ ap (λ k. Some (visible_at k text 1 a)) same
find_at (LeftHalf text a ∷ row) from zero at e =
    let same : from ≡ at = omega (arith, e) in
    hit (visible_at from text 2 a) (visible_from (from + 1) row) at same ∙ ap (λ k. Some (visible_at k text 2 a)) same
find_at (RightHalf a ∷ row) from zero at e = none_below row (from + 1) at (omega (arith, e))
find_at (Narrow text a ∷ row) from (suc n) at e =
    miss (visible_at from text 1 a) (visible_from (from + 1) row) at (λ f. absurd (omega (arith, e, f))) ∙ find_at row (from + 1) n at (omega (arith, e))
find_at (LeftHalf text a ∷ row) from (suc n) at e =
    miss (visible_at from text 2 a) (visible_from (from + 1) row) at (λ f. absurd (omega (arith, e, f))) ∙ find_at row (from + 1) n at (omega (arith, e))
find_at (RightHalf a ∷ row) from (suc n) at e = find_at row (from + 1) n at (omega (arith, e))

-- the cell that begins at a column is the first cell of the row from there on
pub cell_at-first : (row : Row) (at : ℕ) → cell_at at row ≡ first_at at (drop at row)
cell_at-first row at = find_at row 0 at at (omega arith)

first_before : (xs ys : Row) (at : ℕ) → 0 < length xs → first_at at (xs ++ ys) ≡ first_at at xs
first_before [] ys at h = absurd (omega arith)
first_before (Narrow text a ∷ xs) ys at h = refl
first_before (LeftHalf text a ∷ xs) ys at h = refl
first_before (RightHalf a ∷ xs) ys at h = refl

pub cell_before : (xs ys : Row) (at : ℕ) → at < length xs → cell_at at xs ≡ cell_at at (xs ++ ys)
cell_before xs ys at h =
    cell_at-first xs at ∙ sym (cell_at-first (xs ++ ys) at ∙ ap (first_at at) (drop-append-le at xs ys (omega arith)) ∙ first_before (drop at xs) ys at (let n = length-drop at xs in omega (arith, n, h)))

first_face_at : (fs : List Face) (ats : List Attributes) (at : ℕ) (wide : Bool) (text : List ℕ) (gs : List Face) → length fs ≡ length ats → fs ≡ first_face wide text ∷ gs
    → (x : Attributes) → first_at at (row_of fs ats) ≡ Some (visible_at at text (width_of wide) (get_or ats 0 x))
first_face_at fs [] at wide text gs e f x = let n = ap length f in absurd (omega (arith, n, e))
first_face_at fs (a ∷ ats) at true text gs e f x = ap (λ (hs : List Face). first_at at (row_of hs (a ∷ ats))) f
first_face_at fs (a ∷ ats) at false text gs e f x = ap (λ (hs : List Face). first_at at (row_of hs (a ∷ ats))) f

first_right : (fs : List Face) (ats : List Attributes) (at : ℕ) (gs : List Face) → length fs ≡ length ats → fs ≡ Right ∷ gs → first_at at (row_of fs ats) ≡ None
first_right fs [] at gs e f = let n = ap length f in absurd (omega (arith, n, e))
first_right fs (a ∷ ats) at gs e f = ap (λ (hs : List Face). first_at at (row_of hs (a ∷ ats))) f

get_first : {X : Type 0} (xs : List X) (at : ℕ) (x : X) → get_or (drop at xs) 0 x ≡ get_or xs at x
get_first xs zero x = refl
get_first [] (suc at) x = refl
get_first (y ∷ xs) (suc at) x = get_first xs at x

pub cell_of_face : (fs : List Face) (ats : List Attributes) (at : ℕ) (wide : Bool) (text : List ℕ) (x : Attributes) → length fs ≡ length ats → at < length fs → get_or fs at Right ≡ first_face wide text → x ≡ get_or ats at x
    → Some (visible_at at text (width_of wide) x) ≡ cell_at at (row_of fs ats)
cell_of_face fs ats at wide text x e h f g =
    let n = length-drop at fs in
    let m = length-drop at ats in
    let starts : drop at fs ≡ first_face wide text ∷ drop (at + 1) fs = drop_more fs at Right h ∙ ap (λ (y : Face). y ∷ drop (at + 1) fs) f in
    sym (cell_at-first (row_of fs ats) at ∙ ap (first_at at) (row_of-drop at fs ats)
    ∙ first_face_at (drop at fs) (drop at ats) at wide text (drop (at + 1) fs) (omega (arith, n, m, e)) starts x
    ∙ ap (λ (y : Attributes). Some (visible_at at text (width_of wide) y)) (get_first ats at x ∙ sym g))

pub none_of_face : (fs : List Face) (ats : List Attributes) (at : ℕ) → length fs ≡ length ats → at < length fs → get_or fs at Right ≡ Right → None ≡ cell_at at (row_of fs ats)
none_of_face fs ats at e h f =
    let n = length-drop at fs in
    let m = length-drop at ats in
    let starts : drop at fs ≡ Right ∷ drop (at + 1) fs = drop_more fs at Right h ∙ ap (λ (y : Face). y ∷ drop (at + 1) fs) f in
    sym (cell_at-first (row_of fs ats) at ∙ ap (first_at at) (row_of-drop at fs ats) ∙ first_right (drop at fs) (drop at ats) at (drop (at + 1) fs) (omega (arith, n, m, e)) starts)

first_blank : (n k at : ℕ) (a : Attributes) → k < n → first_at at (drop k (replicate n (blank a))) ≡ Some (visible_at at space 1 a)
first_blank zero k at a h = absurd (omega arith)
first_blank (suc n) zero at a h = refl
first_blank (suc n) (suc k) at a h = first_blank n k at a (omega arith)

pub blank_after : (xs : Row) (n at : ℕ) (a : Attributes) → length xs ≤ at → at < length xs + n → Some (visible_at at space 1 a) ≡ cell_at at (xs ++ replicate n (blank a))
blank_after xs n at a h k =
    let j = at - length xs in
    let on : at ≡ length xs + j = omega arith in
    sym (cell_at-first (xs ++ replicate n (blank a)) at ∙ ap (λ m. first_at at (drop m (xs ++ replicate n (blank a)))) on ∙ ap (first_at at) (drop-append-add xs (replicate n (blank a)) j)
    ∙ first_blank n j at a (omega arith))

pub none_after : (row : Row) (at : ℕ) → length row ≤ at → None ≡ cell_at at row
none_after row at h = sym (cell_at-first row at ∙ ap (first_at at) (drop_all at row h))

-- ---- the last cell

last_wrapped : (row : Row) (k at : ℕ) (before : Bool) (d : Column) → IsWhole row → length row ≡ k + 1
    → (column_attributes (get_or row k d)).wrapped ≡ fold (λ _ v. v.cell.attributes.wrapped) before (visible_from at row)
last_wrapped [] k at before d w h = absurd (omega arith)
last_wrapped (RightHalf a ∷ row) k at before d w h = absurd w
last_wrapped (Narrow text a ∷ []) zero at before d w h = refl
last_wrapped (Narrow text a ∷ []) (suc k) at before d w h = absurd (omega arith)
last_wrapped (Narrow text a ∷ c ∷ row) zero at before d w h = absurd (omega arith)
last_wrapped (Narrow text a ∷ c ∷ row) (suc k) at before d w h = last_wrapped (c ∷ row) k (at + 1) a.wrapped d w (omega arith)
last_wrapped (LeftHalf text a ∷ []) k at before d w h = absurd w
last_wrapped (LeftHalf text a ∷ Narrow t b ∷ row) k at before d w h = absurd w
last_wrapped (LeftHalf text a ∷ LeftHalf t b ∷ row) k at before d w h = absurd w
last_wrapped (LeftHalf text a ∷ RightHalf b ∷ row) zero at before d w h = absurd (omega arith)
last_wrapped (LeftHalf text a ∷ RightHalf b ∷ []) (suc zero) at before d w h = ap (λ (x : Attributes). x.wrapped) w.0
last_wrapped (LeftHalf text a ∷ RightHalf b ∷ []) (suc (suc k)) at before d w h = absurd (omega arith)
last_wrapped (LeftHalf text a ∷ RightHalf b ∷ c ∷ row) (suc zero) at before d w h = absurd (omega arith)
last_wrapped (LeftHalf text a ∷ RightHalf b ∷ c ∷ row) (suc (suc k)) at before d w h = last_wrapped (c ∷ row) k (at + 1 + 1) a.wrapped d w.1 (omega arith)

copy_at : {X : Type 0} (n k : ℕ) (x d : X) → k < n → get_or (replicate n x) k d ≡ x
copy_at zero k x d h = absurd (omega arith)
copy_at (suc n) zero x d h = refl
copy_at (suc n) (suc k) x d h = copy_at n k x d (omega arith)

-- whether the row's last cell is wrapped: the flag of the blanks after the written columns
pub blank_wrapped : (xs : Row) (n : ℕ) (a : Attributes) → IsWhole xs → 0 < n → a.wrapped ≡ ends_wrapped (visible_cells (xs ++ replicate n (blank a)))
blank_wrapped xs n a w h =
    let blanks = replicate n (blank a) in
    let count = length-append xs blanks in
    let many = length-replicate n (blank a) in
    let last : get_or (xs ++ blanks) (length xs + (n - 1)) (blank a) ≡ blank a = get_or-append-add xs blanks (n - 1) (blank a) ∙ copy_at n (n - 1) (blank a) (blank a) (omega (arith, h)) in
    ap (λ (c : Column). (column_attributes c).wrapped) (sym last)
    ∙ last_wrapped (xs ++ blanks) (length xs + (n - 1)) 0 false (blank a) (whole-append xs blanks w (whole-blanks n a)) (omega (arith, count, many, h))

-- without blanks, the flag of the last written column
pub column_wrapped : (xs : Row) (n : ℕ) (a x : Attributes) (k : ℕ) → IsWhole xs → n ≡ 0 → length xs ≡ k + 1 → x ≡ column_attributes (get_or xs k (blank x))
    → x.wrapped ≡ ends_wrapped (visible_cells (xs ++ replicate n (blank a)))
column_wrapped xs n a x k w none h e =
    ap (λ (y : Attributes). y.wrapped) e ∙ last_wrapped xs k 0 false (blank x) w h
    ∙ ap (λ (r : Row). ends_wrapped (visible_cells r)) (sym (ap (λ m. xs ++ replicate m (blank a)) none ∙ append-nil xs))
