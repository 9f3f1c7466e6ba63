-- Rows of faces with attributes: an operation on the faces and on the attributes is the operation on the row.
use Rattle.std.proofs.Common.{◌≡◌, ℕ, zero, suc, ◌+◌, List, [], ◌∷◌, ◌++◌, length, take, drop, replicate, refl, sym, ap, ◌∙◌, arith, length-append}
use Rattle.std.proofs.lemmas.List.{length-take}
use Rattle.cell_base.specs.Attributes.{Attributes}
use Rattle.cell_base.specs.Row as rows
use Rattle.clustered_row.proofs.FaceLemmas.{length-closed_end}
use Rattle.clustered_row.specs.Faces.{Face, Own, Left, Right, column, row_of, left_alone, right_alone, closed_end, closed_start, set_faces}

pub length-row_of : (fs : List Face) (attrs : List Attributes) → length fs ≡ length attrs → length (row_of fs attrs) ≡ length fs
length-row_of [] attrs h = refl
length-row_of (f ∷ fs) [] h = absurd (omega arith)
length-row_of (f ∷ fs) (a ∷ attrs) h = ap suc (length-row_of fs attrs (omega arith))

pub row_of-append : (fs gs : List Face) (attrs bs : List Attributes) → length fs ≡ length attrs → row_of (fs ++ gs) (attrs ++ bs) ≡ row_of fs attrs ++ row_of gs bs
row_of-append [] gs [] bs h = refl
row_of-append [] gs (a ∷ attrs) bs h = absurd (omega arith)
row_of-append (f ∷ fs) gs [] bs h = absurd (omega arith)
row_of-append (f ∷ fs) gs (a ∷ attrs) bs h = ap (λ row. column f a ∷ row) (row_of-append fs gs attrs bs (omega arith))

pub row_of-take : (n : ℕ) (fs : List Face) (attrs : List Attributes) → take n (row_of fs attrs) ≡ row_of (take n fs) (take n attrs)
row_of-take zero fs attrs = refl
row_of-take (suc n) [] attrs = refl
row_of-take (suc n) (f ∷ fs) [] = refl
row_of-take (suc n) (f ∷ fs) (a ∷ attrs) = ap (λ row. column f a ∷ row) (row_of-take n fs attrs)

row_of-none : (fs : List Face) → row_of fs [] ≡ []
row_of-none [] = refl
row_of-none (f ∷ fs) = refl

pub row_of-drop : (n : ℕ) (fs : List Face) (attrs : List Attributes) → drop n (row_of fs attrs) ≡ row_of (drop n fs) (drop n attrs)
row_of-drop zero fs attrs = refl
row_of-drop (suc n) [] attrs = refl
row_of-drop (suc n) (f ∷ fs) [] = sym (row_of-none (drop n fs))
row_of-drop (suc n) (f ∷ fs) (a ∷ attrs) = row_of-drop n fs attrs

pub row_of-replicate : (n : ℕ) (f : Face) (a : Attributes) → row_of (replicate n f) (replicate n a) ≡ replicate n (column f a)
row_of-replicate zero f a = refl
row_of-replicate (suc n) f a = ap (λ row. column f a ∷ row) (row_of-replicate n f a)

column-left_alone : (f : Face) (a : Attributes) → rows.left_alone (column f a) ≡ column (left_alone f) a
column-left_alone (Own text) a = refl
column-left_alone (Left text) a = refl
column-left_alone Right a = refl

column-right_alone : (f : Face) (a : Attributes) → rows.right_alone (column f a) ≡ column (right_alone f) a
column-right_alone (Own text) a = refl
column-right_alone (Left text) a = refl
column-right_alone Right a = refl

pub row_of-closed_end : (fs : List Face) (attrs : List Attributes) → length fs ≡ length attrs → rows.closed_end (row_of fs attrs) ≡ row_of (closed_end fs) attrs
row_of-closed_end [] attrs h = refl
row_of-closed_end (f ∷ fs) [] h = absurd (omega arith)
row_of-closed_end (f ∷ []) (a ∷ attrs) h = ap (λ c. c ∷ []) (column-left_alone f a)
row_of-closed_end (f ∷ g ∷ fs) (a ∷ []) h = absurd (omega arith)
row_of-closed_end (f ∷ g ∷ fs) (a ∷ b ∷ attrs) h = ap (λ row. column f a ∷ row) (row_of-closed_end (g ∷ fs) (b ∷ attrs) (omega arith))

pub row_of-closed_start : (fs : List Face) (attrs : List Attributes) → rows.closed_start (row_of fs attrs) ≡ row_of (closed_start fs) attrs
row_of-closed_start [] attrs = refl
row_of-closed_start (f ∷ fs) [] = refl
row_of-closed_start (f ∷ fs) (a ∷ attrs) = ap (λ c. c ∷ row_of fs attrs) (column-right_alone f a)

pub row_of-cut : (fs : List Face) (attrs : List Attributes) (at : ℕ) → length fs ≡ length attrs → rows.closed_end (take at (row_of fs attrs)) ≡ row_of (closed_end (take at fs)) (take at attrs)
row_of-cut fs attrs at h =
    ap rows.closed_end (row_of-take at fs attrs) ∙ row_of-closed_end (take at fs) (take at attrs) (omega (arith, length-take at fs, length-take at attrs))

pub row_of-prefix : (fs : List Face) (attrs : List Attributes) (at : ℕ) → rows.closed_start (drop at (row_of fs attrs)) ≡ row_of (closed_start (drop at fs)) (drop at attrs)
row_of-prefix fs attrs at = ap rows.closed_start (row_of-drop at fs attrs) ∙ row_of-closed_start (drop at fs) (drop at attrs)

-- the columns of faces and attributes set side by side
pub row_of-set : (fs gs : List Face) (attrs bs : List Attributes) (at : ℕ) → length fs ≡ length attrs → length gs ≡ length bs
    → rows.set_columns (row_of fs attrs) at (row_of gs bs) ≡ row_of (set_faces fs at gs) (take at attrs ++ bs ++ drop (at + length bs) attrs)
row_of-set fs gs attrs bs at h k =
    let count : length (row_of gs bs) ≡ length gs = length-row_of gs bs k in
    let one : length (closed_end (take at fs)) ≡ length (take at attrs) =
    omega (arith, length-closed_end (take at fs), length-take at fs, length-take at attrs) in
    let prefix = row_of-cut fs attrs at h in
    let after : rows.closed_start (drop (at + length (row_of gs bs)) (row_of fs attrs)) ≡ row_of (closed_start (drop (at + length gs) fs)) (drop (at + length bs) attrs) =
    ap (λ n. rows.closed_start (drop (at + n) (row_of fs attrs))) count
    ∙ row_of-prefix fs attrs (at + length gs)
    ∙ ap (λ n. row_of (closed_start (drop (at + length gs) fs)) (drop (at + n) attrs)) k in
    (λ i. prefix i ++ row_of gs bs ++ after i)
    ∙ ap (λ row. row ++ row_of (closed_start (drop (at + length gs) fs)) (drop (at + length bs) attrs)) (sym (row_of-append (closed_end (take at fs)) gs (take at attrs) bs one))
    ∙ sym (row_of-append (closed_end (take at fs) ++ gs) (closed_start (drop (at + length gs) fs)) (take at attrs ++ bs) (drop (at + length bs) attrs)
    (omega (arith, one, k, length-append (closed_end (take at fs)) gs, length-append (take at attrs) bs)))
