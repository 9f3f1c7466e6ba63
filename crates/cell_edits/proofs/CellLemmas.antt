-- Cells that are read from the left, cut at a position and joined.
use Rattle.std.proofs.Common.{◌≡◌, ℕ, zero, suc, ◌<◌, ◌≤◌, Bool, true, false, List, [], ◌∷◌, ◌++◌, length, get_or, take, drop, refl, sym, ap, subst, ◌∙◌, ◌-◌, arith, inl, inr}
use Rattle.std.proofs.lemmas.Bool.{false≢true, le-leb}
use Rattle.std.proofs.lemmas.Bool.Decides.{leb_tells}
use Rattle.std.specs.Prelude.{nat_le, not, if◌then◌else◌}
use Rattle.cell_base.specs.Attributes.{Attributes}
use Rattle.cell_base.specs.CellContent.{CellContent, blank_cell, row_of_cells}
use Rattle.cell_base.specs.Row.{Narrow, LeftHalf, RightHalf, Row, blank, closed_end, closed_start}
use Rattle.cell_edits.specs.CellList.{ends_split}

-- both answers of a test
pub by_test : {P : Type 0} (b : Bool) → (b ≡ true → P) → (b ≡ false → P) → P
by_test {P} b is not_is = (elim b as (λ w. b ≡ w → P) [ true ↦ is | false ↦ not_is ]) refl

pub wide_is : (width : ℕ) → 2 ≤ width → nat_le 2 width ≡ true
wide_is width h = le-leb 2 width h

pub narrow_is : (width : ℕ) → width < 2 → nat_le 2 width ≡ false
narrow_is width h = elim (leb_tells 2 width) [ inl p ↦ absurd (omega arith) | inr p ↦ p.0 ]

-- the default of a position that is there does not matter
pub get_or-default : {X : Type 0} (xs : List X) (i : ℕ) (d e : X) → i < length xs → get_or xs i d ≡ get_or xs i e
get_or-default [] i d e h = absurd (omega arith)
get_or-default (x ∷ xs) zero d e h = refl
get_or-default (x ∷ xs) (suc i) d e h = get_or-default xs i d e (omega arith)

pub row_wide : (c n : CellContent) (cs : List CellContent) → nat_le 2 c.width ≡ true → row_of_cells (c ∷ n ∷ cs) ≡ LeftHalf c.text c.attributes ∷ RightHalf c.attributes ∷ row_of_cells cs
row_wide c n cs e = rw e refl

pub row_narrow : (c n : CellContent) (cs : List CellContent) → nat_le 2 c.width ≡ false → row_of_cells (c ∷ n ∷ cs) ≡ Narrow c.text c.attributes ∷ row_of_cells (n ∷ cs)
row_narrow c n cs e = rw e refl

pub split_wide : (c n : CellContent) (cs : List CellContent) → nat_le 2 c.width ≡ true → ends_split (c ∷ n ∷ cs) ≡ ends_split cs
split_wide c n cs e = rw e refl

pub split_narrow : (c n : CellContent) (cs : List CellContent) → nat_le 2 c.width ≡ false → ends_split (c ∷ n ∷ cs) ≡ ends_split (n ∷ cs)
split_narrow c n cs e = rw e refl

-- a line has a column for each cell
pub length-row : (cells : List CellContent) → length (row_of_cells cells) ≡ length cells
length-row [] = refl
length-row (c ∷ []) = refl
length-row (c ∷ n ∷ cs) = by_test (nat_le 2 c.width)
    (λ e. ap length (row_wide c n cs e) ∙ ap (λ m. suc (suc m)) (length-row cs))
    (λ e. ap length (row_narrow c n cs e) ∙ ap suc (length-row (n ∷ cs)))

pub closed_end-wide : (t : List ℕ) (a : Attributes) (r : Row) → closed_end (LeftHalf t a ∷ RightHalf a ∷ r) ≡ LeftHalf t a ∷ RightHalf a ∷ closed_end r
closed_end-wide t a [] = refl
closed_end-wide t a (x ∷ r) = refl

pub closed_end-narrow : (t : List ℕ) (a : Attributes) (r : Row) → closed_end (Narrow t a ∷ r) ≡ Narrow t a ∷ closed_end r
closed_end-narrow t a [] = refl
closed_end-narrow t a (x ∷ r) = refl

-- no line begins with a right half
pub starts_closed : (cells : List CellContent) → row_of_cells cells ≡ closed_start (row_of_cells cells)
starts_closed [] = refl
starts_closed (c ∷ []) = by_test (nat_le 2 c.width) (λ e. rw e refl) (λ e. rw e refl)
starts_closed (c ∷ n ∷ cs) = by_test (nat_le 2 c.width) (λ e. rw e refl) (λ e. rw e refl)

-- ---- a cut between two cells

pub before_clean : (cells : List CellContent) (at : ℕ) → ends_split (take at cells) ≡ false → row_of_cells (take at cells) ≡ closed_end (take at (row_of_cells cells))
before_clean [] zero h = refl
before_clean [] (suc m) h = refl
before_clean (c ∷ []) zero h = refl
before_clean (c ∷ []) (suc zero) h = rw h refl
before_clean (c ∷ []) (suc (suc m)) h = rw h refl
before_clean (c ∷ n ∷ cs) zero h = refl
before_clean (c ∷ n ∷ cs) (suc zero) h = rw h refl
before_clean (c ∷ n ∷ cs) (suc (suc m)) h = by_test (nat_le 2 c.width)
    (λ e. row_wide c n (take m cs) e
    ∙ ap (λ (r : Row). LeftHalf c.text c.attributes ∷ RightHalf c.attributes ∷ r) (before_clean cs m (sym (split_wide c n (take m cs) e) ∙ h))
    ∙ sym (closed_end-wide c.text c.attributes (take m (row_of_cells cs)))
    ∙ sym (ap (λ (r : Row). closed_end (take (suc (suc m)) r)) (row_wide c n cs e)))
    (λ e. row_narrow c n (take m cs) e
    ∙ ap (λ (r : Row). Narrow c.text c.attributes ∷ r) (before_clean (n ∷ cs) (suc m) (sym (split_narrow c n (take m cs) e) ∙ h))
    ∙ sym (closed_end-narrow c.text c.attributes (take (suc m) (row_of_cells (n ∷ cs))))
    ∙ sym (ap (λ (r : Row). closed_end (take (suc (suc m)) r)) (row_narrow c n cs e)))

pub after_clean : (cells : List CellContent) (at : ℕ) → ends_split (take at cells) ≡ false → row_of_cells (drop at cells) ≡ closed_start (drop at (row_of_cells cells))
after_clean cells zero h = starts_closed cells
after_clean [] (suc m) h = refl
after_clean (c ∷ []) (suc zero) h = refl
after_clean (c ∷ []) (suc (suc m)) h = refl
after_clean (c ∷ n ∷ cs) (suc zero) h = starts_closed (n ∷ cs) ∙ sym (ap (λ (r : Row). closed_start (drop 1 r)) (row_narrow c n cs h))
after_clean (c ∷ n ∷ cs) (suc (suc m)) h = by_test (nat_le 2 c.width)
    (λ e. after_clean cs m (sym (split_wide c n (take m cs) e) ∙ h) ∙ sym (ap (λ (r : Row). closed_start (drop (suc (suc m)) r)) (row_wide c n cs e)))
    (λ e. after_clean (n ∷ cs) (suc m) (sym (split_narrow c n (take m cs) e) ∙ h) ∙ sym (ap (λ (r : Row). closed_start (drop (suc (suc m)) r)) (row_narrow c n cs e)))

-- ---- a cut through a wide cell, whose two cells become blanks

blank_row : (a : Attributes) (cs : List CellContent) → row_of_cells (blank_cell a ∷ cs) ≡ blank a ∷ row_of_cells cs
blank_row a [] = refl
blank_row a (x ∷ cs) = refl

pub before_cut : (cells : List CellContent) (p : ℕ) (d : CellContent) → ends_split (take (suc p) cells) ≡ true → p < length cells
    → row_of_cells (take p cells ++ blank_cell (get_or cells p d).attributes ∷ []) ≡ closed_end (take (suc p) (row_of_cells cells))
before_cut [] p d h l = absurd (omega arith)
before_cut (c ∷ []) zero d h l = rw h refl
before_cut (c ∷ []) (suc p) d h l = absurd (omega arith)
before_cut (c ∷ n ∷ cs) zero d h l = rw h refl
before_cut (c ∷ n ∷ cs) (suc zero) d h l = by_test (nat_le 2 c.width)
    (λ e. absurd (false≢true (sym (split_wide c n [] e) ∙ h)))
    (λ e. row_narrow c (blank_cell n.attributes) [] e
    ∙ ap (λ (r : Row). Narrow c.text c.attributes ∷ r) (before_cut (n ∷ cs) zero d (sym (split_narrow c n [] e) ∙ h) (omega arith))
    ∙ sym (closed_end-narrow c.text c.attributes (take 1 (row_of_cells (n ∷ cs))))
    ∙ sym (ap (λ (r : Row). closed_end (take 2 r)) (row_narrow c n cs e)))
before_cut (c ∷ n ∷ cs) (suc (suc p)) d h l = by_test (nat_le 2 c.width)
    (λ e. row_wide c n (take p cs ++ blank_cell (get_or cs p d).attributes ∷ []) e
    ∙ ap (λ (r : Row). LeftHalf c.text c.attributes ∷ RightHalf c.attributes ∷ r) (before_cut cs p d (sym (split_wide c n (take (suc p) cs) e) ∙ h) (omega arith))
    ∙ sym (closed_end-wide c.text c.attributes (take (suc p) (row_of_cells cs)))
    ∙ sym (ap (λ (r : Row). closed_end (take (suc (suc (suc p))) r)) (row_wide c n cs e)))
    (λ e. row_narrow c n (take p cs ++ blank_cell (get_or cs p d).attributes ∷ []) e
    ∙ ap (λ (r : Row). Narrow c.text c.attributes ∷ r) (before_cut (n ∷ cs) (suc p) d (sym (split_narrow c n (take (suc p) cs) e) ∙ h) (omega arith))
    ∙ sym (closed_end-narrow c.text c.attributes (take (suc (suc p)) (row_of_cells (n ∷ cs))))
    ∙ sym (ap (λ (r : Row). closed_end (take (suc (suc (suc p))) r)) (row_narrow c n cs e)))

pub after_cut : (cells : List CellContent) (p : ℕ) (d : CellContent) → ends_split (take (suc p) cells) ≡ true → suc p < length cells
    → row_of_cells (blank_cell (get_or cells p d).attributes ∷ drop (suc (suc p)) cells) ≡ closed_start (drop (suc p) (row_of_cells cells))
after_cut [] p d h l = absurd (omega arith)
after_cut (c ∷ []) p d h l = absurd (omega arith)
after_cut (c ∷ n ∷ cs) zero d h l = blank_row c.attributes cs ∙ sym (ap (λ (r : Row). closed_start (drop 1 r)) (row_wide c n cs h))
after_cut (c ∷ n ∷ cs) (suc zero) d h l = by_test (nat_le 2 c.width)
    (λ e. absurd (false≢true (sym (split_wide c n [] e) ∙ h)))
    (λ e. after_cut (n ∷ cs) zero d (sym (split_narrow c n [] e) ∙ h) (omega arith) ∙ sym (ap (λ (r : Row). closed_start (drop 2 r)) (row_narrow c n cs e)))
after_cut (c ∷ n ∷ cs) (suc (suc p)) d h l = by_test (nat_le 2 c.width)
    (λ e. after_cut cs p d (sym (split_wide c n (take (suc p) cs) e) ∙ h) (omega arith) ∙ sym (ap (λ (r : Row). closed_start (drop (suc (suc (suc p))) r)) (row_wide c n cs e)))
    (λ e. after_cut (n ∷ cs) (suc p) d (sym (split_narrow c n (take (suc p) cs) e) ∙ h) (omega arith) ∙ sym (ap (λ (r : Row). closed_start (drop (suc (suc (suc p))) r)) (row_narrow c n cs e)))

-- where a wide cell is split at the end, the cells with a blank in place of it are not split
pub cut_whole : (cells : List CellContent) (p : ℕ) (a : Attributes) → ends_split (take (suc p) cells) ≡ true → p < length cells → ends_split (take p cells ++ blank_cell a ∷ []) ≡ false
cut_whole [] p a h l = absurd (omega arith)
cut_whole (c ∷ []) zero a h l = refl
cut_whole (c ∷ []) (suc p) a h l = absurd (omega arith)
cut_whole (c ∷ n ∷ cs) zero a h l = refl
cut_whole (c ∷ n ∷ cs) (suc zero) a h l = by_test (nat_le 2 c.width)
    (λ e. absurd (false≢true (sym (split_wide c n [] e) ∙ h)))
    (λ e. split_narrow c (blank_cell a) [] e ∙ cut_whole (n ∷ cs) zero a (sym (split_narrow c n [] e) ∙ h) (omega arith))
cut_whole (c ∷ n ∷ cs) (suc (suc p)) a h l = by_test (nat_le 2 c.width)
    (λ e. split_wide c n (take p cs ++ blank_cell a ∷ []) e ∙ cut_whole cs p a (sym (split_wide c n (take (suc p) cs) e) ∙ h) (omega arith))
    (λ e. split_narrow c n (take p cs ++ blank_cell a ∷ []) e ∙ cut_whole (n ∷ cs) (suc p) a (sym (split_narrow c n (take (suc p) cs) e) ∙ h) (omega arith))

-- ---- one more cell

pub split_more : (cells : List CellContent) (k : ℕ) (d : CellContent) → k < length cells → ends_split (take (suc k) cells) ≡ (if nat_le 2 (get_or cells k d).width then not (ends_split (take k cells)) else false)
split_more [] k d l = absurd (omega arith)
split_more (c ∷ []) zero d l = by_test (nat_le 2 c.width) (λ e. rw e refl) (λ e. rw e refl)
split_more (c ∷ []) (suc k) d l = absurd (omega arith)
split_more (c ∷ n ∷ cs) zero d l = by_test (nat_le 2 c.width) (λ e. rw e refl) (λ e. rw e refl)
split_more (c ∷ n ∷ cs) (suc zero) d l = by_test (nat_le 2 c.width)
    (λ e. by_test (nat_le 2 n.width) (λ f. rw (e, f) refl) (λ f. rw (e, f) refl))
    (λ e. by_test (nat_le 2 n.width) (λ f. rw (e, f) refl) (λ f. rw (e, f) refl))
split_more (c ∷ n ∷ cs) (suc (suc k)) d l = by_test (nat_le 2 c.width)
    (λ e. split_wide c n (take (suc k) cs) e ∙ split_more cs k d (omega arith) ∙ ap (λ h. if nat_le 2 (get_or cs k d).width then not h else false) (sym (split_wide c n (take k cs) e)))
    (λ e. split_narrow c n (take (suc k) cs) e ∙ split_more (n ∷ cs) (suc k) d (omega arith) ∙ ap (λ h. if nat_le 2 (get_or cs k d).width then not h else false) (sym (split_narrow c n (take k cs) e)))

-- the answer turns round at each wide cell
pub turned_on : (was_split now before answer : Bool) → (if was_split then not now else now) ≡ answer → now ≡ not before → (if not was_split then not before else before) ≡ answer
turned_on true now true answer h e = ap not (sym e) ∙ h
turned_on true now false answer h e = ap not (sym e) ∙ h
turned_on false now before answer h e = sym e ∙ h

pub turned_last : (was_split now answer : Bool) → (if was_split then not now else now) ≡ answer → now ≡ false → was_split ≡ answer
turned_last true now answer h e = ap not (sym e) ∙ h
turned_last false now answer h e = sym e ∙ h

pub split_at_wide : (cells : List CellContent) (n : ℕ) (d : CellContent) → 0 < n → n ≤ length cells → 2 ≤ (get_or cells (n - 1) d).width → ends_split (take n cells) ≡ not (ends_split (take (n - 1) cells))
split_at_wide cells zero d some l w = absurd (omega arith)
split_at_wide cells (suc k) d some l w =
    let on : suc k - 1 ≡ k = omega arith in
    let w' : 2 ≤ (get_or cells k d).width = subst (λ (m : ℕ). 2 ≤ (get_or cells m d).width) on w in
    split_more cells k d (omega arith) ∙ ap (λ t. if t then not (ends_split (take k cells)) else false) (wide_is _ w') ∙ ap (λ (m : ℕ). not (ends_split (take m cells))) (sym on)

pub split_at_narrow : (cells : List CellContent) (n : ℕ) (d : CellContent) → 0 < n → n ≤ length cells → (get_or cells (n - 1) d).width < 2 → ends_split (take n cells) ≡ false
split_at_narrow cells zero d some l w = absurd (omega arith)
split_at_narrow cells (suc k) d some l w =
    let on : suc k - 1 ≡ k = omega arith in
    let w' : (get_or cells k d).width < 2 = subst (λ (m : ℕ). (get_or cells m d).width < 2) on w in
    split_more cells k d (omega arith) ∙ ap (λ t. if t then not (ends_split (take k cells)) else false) (narrow_is _ w')

-- ---- joined

pub row_joined : (xs ys : List CellContent) → ends_split xs ≡ false → row_of_cells (xs ++ ys) ≡ row_of_cells xs ++ row_of_cells ys
row_joined [] ys h = refl
row_joined (c ∷ []) [] h = refl
row_joined (c ∷ []) (y ∷ ys) h = rw h refl
row_joined (c ∷ n ∷ cs) ys h = by_test (nat_le 2 c.width)
    (λ e. row_wide c n (cs ++ ys) e ∙ ap (λ (r : Row). LeftHalf c.text c.attributes ∷ RightHalf c.attributes ∷ r) (row_joined cs ys (sym (split_wide c n cs e) ∙ h)) ∙ ap (λ (r : Row). r ++ row_of_cells ys) (sym (row_wide c n cs e)))
    (λ e. row_narrow c n (cs ++ ys) e ∙ ap (λ (r : Row). Narrow c.text c.attributes ∷ r) (row_joined (n ∷ cs) ys (sym (split_narrow c n cs e) ∙ h)) ∙ ap (λ (r : Row). r ++ row_of_cells ys) (sym (row_narrow c n cs e)))

pub split_joined : (xs ys : List CellContent) → ends_split xs ≡ false → ends_split (xs ++ ys) ≡ ends_split ys
split_joined [] ys h = refl
split_joined (c ∷ []) [] h = h
split_joined (c ∷ []) (y ∷ ys) h = rw h refl
split_joined (c ∷ n ∷ cs) ys h = by_test (nat_le 2 c.width)
    (λ e. split_wide c n (cs ++ ys) e ∙ split_joined cs ys (sym (split_wide c n cs e) ∙ h))
    (λ e. split_narrow c n (cs ++ ys) e ∙ split_joined (n ∷ cs) ys (sym (split_narrow c n cs e) ∙ h))
