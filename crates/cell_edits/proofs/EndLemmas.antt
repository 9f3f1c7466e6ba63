-- The end of a row: plain blanks, and the last cell.
use Rattle.std.proofs.Common.{◌≡◌, ℕ, zero, suc, ◌+◌, ◌-◌, ◌<◌, ◌≤◌, Bool, true, false, List, [], ◌∷◌, ◌++◌, length, get_or, take, set, refl, sym, ap, subst, ◌∙◌, arith}
use Rattle.std.specs.Prelude.{nat_le, not, ◌||◌, fold, if◌then◌else◌}
use Rattle.std.specs.List.{list_any}
use Rattle.std.proofs.lemmas.Bool.{false≢true}
use Rattle.std.proofs.lemmas.List.{take_more}
use Rattle.cell_base.specs.Attributes.{Attributes}
use Rattle.cell_base.specs.CellContent.{CellContent, row_of_cells}
use Rattle.cell_base.specs.Row.{Column, Narrow, LeftHalf, RightHalf, Row, blank}
use Rattle.cell_edits.specs.CellList.{ends_split, last_read}
use Rattle.cell_base.specs.UpToLast.{up_to_last}
use Rattle.cell_edits.specs.RowEdits.{is_plain_blank, pruned_row}
use Rattle.cell_edits.specs.VisibleCells.{mark_cell, VisibleCell, visible_at, visible_from, visible_cells, ends_wrapped, row_of_visible, with_end_wrapped, row_end_wrapped}
use Rattle.cell_edits.proofs.CutLemmas.{row_narrow_any}
use Rattle.cell_edits.proofs.CellLemmas.{by_test, row_wide, row_narrow, split_wide, split_narrow, split_more, row_joined}

-- ---- a list up to its last element that passes a test

module _ {A : Type 0} (p : A → Bool) where
  any_last : (xs : List A) (x : A) → list_any p (xs ++ x ∷ []) ≡ (list_any p xs || p x)
  any_last [] x = by_test (p x) (λ e. rw e refl) (λ e. rw e refl)
  any_last (y ∷ xs) x = by_test (p y) (λ e. rw e refl) (λ e. rw e (any_last xs x))

  pub up_to_failing : (xs : List A) (x : A) → p x ≡ false → up_to_last p (xs ++ x ∷ []) ≡ up_to_last p xs
  up_to_failing [] x e = rw e refl
  up_to_failing (y ∷ xs) x e =
      let same : list_any p (xs ++ x ∷ []) ≡ list_any p xs = any_last xs x ∙ ap (λ t. list_any p xs || t) e ∙ or_false (list_any p xs) in
      ap (λ t. if p y || t then y ∷ up_to_last p (xs ++ x ∷ []) else []) same
      ∙ ap (λ (zs : List A). if p y || list_any p xs then y ∷ zs else []) (up_to_failing xs x e)
    where
      or_false : (b : Bool) → (b || false) ≡ b
      or_false true = refl
      or_false false = refl

  pub up_to_passing : (xs : List A) (x : A) → p x ≡ true → up_to_last p (xs ++ x ∷ []) ≡ xs ++ x ∷ []
  up_to_passing [] x e = rw e refl
  up_to_passing (y ∷ xs) x e =
      let some : list_any p (xs ++ x ∷ []) ≡ true = any_last xs x ∙ ap (λ t. list_any p xs || t) e ∙ or_true (list_any p xs) in
      ap (λ t. if p y || t then y ∷ up_to_last p (xs ++ x ∷ []) else []) some
      ∙ ap (λ t. if t then y ∷ up_to_last p (xs ++ x ∷ []) else []) (or_true (p y))
      ∙ ap (λ (zs : List A). y ∷ zs) (up_to_passing xs x e)
    where
      or_true : (b : Bool) → (b || true) ≡ true
      or_true true = refl
      or_true false = refl

-- ---- the last column

pub last_narrow : (cells : List CellContent) (k : ℕ) (d : CellContent) → k < length cells → ends_split (take (k + 1) cells) ≡ false → ends_split (take k cells) ≡ false
    → row_of_cells (take (k + 1) cells) ≡ row_of_cells (take k cells) ++ Narrow (get_or cells k d).text (get_or cells k d).attributes ∷ []
last_narrow cells k d l w v =
    let on : k + 1 ≡ suc k = omega arith in
    let narrow : nat_le 2 (get_or cells k d).width ≡ false = one (nat_le 2 (get_or cells k d).width) (sym (ap (λ h. if nat_le 2 (get_or cells k d).width then not h else false) v) ∙ sym (split_more cells k d l) ∙ ap (λ n. ends_split (take n cells)) (sym on) ∙ w) in
    ap row_of_cells (take_more cells k d l) ∙ row_joined (take k cells) (get_or cells k d ∷ []) v
    ∙ ap (λ t. row_of_cells (take k cells) ++ (if t then blank (get_or cells k d).attributes else Narrow (get_or cells k d).text (get_or cells k d).attributes) ∷ []) narrow
  where
    one : (b : Bool) → (if b then true else false) ≡ false → b ≡ false
    one true e = e
    one false e = e

-- a column after a left half
pub record EndsRight (r : Row) : Type 0 where
  pub prefix : Row
  pub attributes : Attributes
  pub is : r ≡ prefix ++ RightHalf attributes ∷ []

ends_right : (xs : List CellContent) (c : CellContent) → ends_split xs ≡ true → EndsRight (row_of_cells (xs ++ c ∷ []))
ends_right [] c h = absurd (false≢true h)
ends_right (x ∷ []) c h = record { prefix = LeftHalf x.text x.attributes ∷ []; attributes = x.attributes; is = row_wide x c [] h }
ends_right (x ∷ y ∷ ys) c h = by_test (nat_le 2 x.width)
    (λ e.
    let rest = ends_right ys c (sym (split_wide x y ys e) ∙ h) in
    record { prefix = LeftHalf x.text x.attributes ∷ RightHalf x.attributes ∷ rest.prefix; attributes = rest.attributes; is = row_wide x y (ys ++ c ∷ []) e ∙ ap (λ (r : Row). LeftHalf x.text x.attributes ∷ RightHalf x.attributes ∷ r) rest.is })
    (λ e.
    let rest = ends_right (y ∷ ys) c (sym (split_narrow x y ys e) ∙ h) in
    record { prefix = Narrow x.text x.attributes ∷ rest.prefix; attributes = rest.attributes; is = row_narrow x y (ys ++ c ∷ []) e ∙ ap (λ (r : Row). Narrow x.text x.attributes ∷ r) rest.is })

pub last_right : (cells : List CellContent) (k : ℕ) (d : CellContent) → k < length cells → ends_split (take k cells) ≡ true → EndsRight (row_of_cells (take (k + 1) cells))
last_right cells k d l h = subst (λ (xs : List CellContent). EndsRight (row_of_cells xs)) (sym (take_more cells k d l)) (ends_right (take k cells) (get_or cells k d) h)

-- ---- pruned blanks at the end

abbrev is_kept : Column → Bool
is_kept column = not (is_plain_blank column)

pub prune_on : (cells : List CellContent) (k : ℕ) (d : CellContent) → k < length cells → ends_split (take (k + 1) cells) ≡ false → ends_split (take k cells) ≡ false
    → is_plain_blank (Narrow (get_or cells k d).text (get_or cells k d).attributes) ≡ true
    → pruned_row (row_of_cells (take (k + 1) cells)) ≡ pruned_row (row_of_cells (take k cells))
prune_on cells k d l w v b =
    ap pruned_row (last_narrow cells k d l w v) ∙ up_to_failing is_kept (row_of_cells (take k cells)) _ (ap not b)

pub prune_stops : (cells : List CellContent) (k : ℕ) (d : CellContent) → k < length cells → ends_split (take (k + 1) cells) ≡ false → ends_split (take k cells) ≡ false
    → is_plain_blank (Narrow (get_or cells k d).text (get_or cells k d).attributes) ≡ false
    → pruned_row (row_of_cells (take (k + 1) cells)) ≡ row_of_cells (take (k + 1) cells)
prune_stops cells k d l w v b =
    let e = last_narrow cells k d l w v in
    ap pruned_row e ∙ up_to_passing is_kept (row_of_cells (take k cells)) _ (ap not b) ∙ sym e

pub prune_stops_wide : (cells : List CellContent) (k : ℕ) (d : CellContent) → k < length cells → ends_split (take k cells) ≡ true
    → pruned_row (row_of_cells (take (k + 1) cells)) ≡ row_of_cells (take (k + 1) cells)
prune_stops_wide cells k d l h =
    let e = last_right cells k d l h in
    ap pruned_row e.is ∙ up_to_passing is_kept e.prefix (RightHalf e.attributes) refl ∙ sym e.is

pub prune_step : (cells : List CellContent) (w : ℕ) (d : CellContent) → 0 < w → w ≤ length cells → ends_split (take w cells) ≡ false → ends_split (take (w - 1) cells) ≡ false
    → is_plain_blank (Narrow (get_or cells (w - 1) d).text (get_or cells (w - 1) d).attributes) ≡ true
    → pruned_row (row_of_cells (take (w - 1) cells)) ≡ pruned_row (row_of_cells (take w cells))
prune_step cells w d s l h v b =
    let is : w - 1 + 1 ≡ w = omega arith in
    sym (prune_on cells (w - 1) d (omega arith) (ap (λ n. ends_split (take n cells)) is ∙ h) v b) ∙ ap (λ n. pruned_row (row_of_cells (take n cells))) is

pub prune_end : (cells : List CellContent) (w : ℕ) (d : CellContent) → 0 < w → w ≤ length cells → ends_split (take w cells) ≡ false → ends_split (take (w - 1) cells) ≡ false
    → is_plain_blank (Narrow (get_or cells (w - 1) d).text (get_or cells (w - 1) d).attributes) ≡ false
    → row_of_cells (take w cells) ≡ pruned_row (row_of_cells (take w cells))
prune_end cells w d s l h v b =
    let is : w - 1 + 1 ≡ w = omega arith in
    sym (subst (λ n. pruned_row (row_of_cells (take n cells)) ≡ row_of_cells (take n cells)) is (prune_stops cells (w - 1) d (omega arith) (ap (λ n. ends_split (take n cells)) is ∙ h) v b))

pub prune_end_wide : (cells : List CellContent) (w : ℕ) (d : CellContent) → 0 < w → w ≤ length cells → ends_split (take (w - 1) cells) ≡ true
    → row_of_cells (take w cells) ≡ pruned_row (row_of_cells (take w cells))
prune_end_wide cells w d s l h =
    let is : w - 1 + 1 ≡ w = omega arith in
    sym (subst (λ n. pruned_row (row_of_cells (take n cells)) ≡ row_of_cells (take n cells)) is (prune_stops_wide cells (w - 1) d (omega arith) h))

-- ---- the last cell

-- it is the last one, or the one before it, after which the last one is not looked at
pub end_is : (cells : List CellContent) (k : ℕ) → length cells ≡ suc k → last_read cells ≡ (if ends_split (take k cells) then k - 1 else k)
end_is [] k e = absurd (omega arith)
end_is (c ∷ []) zero e = refl
end_is (c ∷ []) (suc k) e = absurd (omega arith)
end_is (c ∷ n ∷ []) zero e = absurd (omega arith)
end_is (c ∷ n ∷ []) (suc zero) e = by_test (nat_le 2 c.width) (λ t. rw t refl) (λ t. rw t refl)
end_is (c ∷ n ∷ []) (suc (suc k)) e = absurd (omega arith)
end_is (c ∷ n ∷ m ∷ cs) zero e = absurd (omega arith)
end_is (c ∷ n ∷ m ∷ cs) (suc zero) e = absurd (omega arith)
end_is (c ∷ n ∷ m ∷ cs) (suc (suc k)) e = by_test (nat_le 2 c.width)
    (λ t.
    ap (λ b. if b then suc (suc (last_read (m ∷ cs))) else suc (last_read (n ∷ m ∷ cs))) t
    ∙ ap (λ x. suc (suc x)) (end_is (m ∷ cs) k (omega arith))
    ∙ two (ends_split (take k (m ∷ cs))) k (some k (m ∷ cs))
    ∙ ap (λ b. if b then suc (suc k) - 1 else suc (suc k)) (sym (split_wide c n (take k (m ∷ cs)) t)))
    (λ t.
    ap (λ b. if b then suc (suc (last_read (m ∷ cs))) else suc (last_read (n ∷ m ∷ cs))) t
    ∙ ap suc (end_is (n ∷ m ∷ cs) (suc k) (omega arith))
    ∙ one (ends_split (n ∷ take k (m ∷ cs))) k
    ∙ ap (λ b. if b then suc (suc k) - 1 else suc (suc k)) (sym (split_narrow c n (take k (m ∷ cs)) t)))
  where
    two : (b : Bool) (j : ℕ) → (b ≡ true → 0 < j) → suc (suc (if b then j - 1 else j)) ≡ (if b then suc (suc j) - 1 else suc (suc j))
    two true j h = let p : 0 < j = h refl in omega arith
    two false j h = refl

    one : (b : Bool) (j : ℕ) → suc (if b then suc j - 1 else suc j) ≡ (if b then suc (suc j) - 1 else suc (suc j))
    one true j = omega arith
    one false j = refl

    some : (j : ℕ) (xs : List CellContent) → ends_split (take j xs) ≡ true → 0 < j
    some zero xs h = absurd (false≢true h)
    some (suc j) xs h = omega arith

ends_later : (b : Bool) (v : VisibleCell) (i : ℕ) (m : CellContent) (cs : List CellContent) → with_end_wrapped b (v ∷ visible_from i (row_of_cells (m ∷ cs))) ≡ v ∷ with_end_wrapped b (visible_from i (row_of_cells (m ∷ cs)))
ends_later b v i m [] = by_test (nat_le 2 m.width) (λ e. rw e refl) (λ e. rw e refl)
ends_later b v i m (k ∷ cs) = by_test (nat_le 2 m.width) (λ e. rw e refl) (λ e. rw e refl)

pub set_end : (i : ℕ) (b : Bool) (c : CellContent) (cs : List CellContent) (d : CellContent)
    → row_of_cells (set (c ∷ cs) (last_read (c ∷ cs)) (mark_cell b (get_or (c ∷ cs) (last_read (c ∷ cs)) d))) ≡ row_of_visible (with_end_wrapped b (visible_from i (row_of_cells (c ∷ cs))))
set_end i b c [] d = by_test (nat_le 2 c.width) (λ e. rw e refl) (λ e. rw e refl)
set_end i b c (n ∷ []) d = by_test (nat_le 2 c.width)
    (λ e.
    ap (λ t. let at = (if t then 0 else 1) in row_of_cells (set (c ∷ n ∷ []) at (mark_cell b (get_or (c ∷ n ∷ []) at d)))) e
    ∙ row_wide (mark_cell b c) n [] e
    ∙ sym (ap (λ (r : Row). row_of_visible (with_end_wrapped b (visible_from i r))) (row_wide c n [] e)))
    (λ e.
    ap (λ t. let at = (if t then 0 else 1) in row_of_cells (set (c ∷ n ∷ []) at (mark_cell b (get_or (c ∷ n ∷ []) at d)))) e
    ∙ row_narrow c (mark_cell b n) [] e
    ∙ ap (λ (r : Row). Narrow c.text c.attributes ∷ r) (set_end (i + 1) b n [] d)
    ∙ ap row_of_visible (sym (ends_later b (visible_at i c.text 1 c.attributes) (i + 1) n []))
    ∙ sym (ap (λ (r : Row). row_of_visible (with_end_wrapped b (visible_from i r))) (row_narrow c n [] e)))
set_end i b c (n ∷ m ∷ cs) d = by_test (nat_le 2 c.width)
    (λ e.
    ap (λ t. let at = (if t then suc (suc (last_read (m ∷ cs))) else suc (last_read (n ∷ m ∷ cs))) in row_of_cells (set (c ∷ n ∷ m ∷ cs) at (mark_cell b (get_or (c ∷ n ∷ m ∷ cs) at d)))) e
    ∙ row_wide c n (set (m ∷ cs) (last_read (m ∷ cs)) (mark_cell b (get_or (m ∷ cs) (last_read (m ∷ cs)) d))) e
    ∙ ap (λ (r : Row). LeftHalf c.text c.attributes ∷ RightHalf c.attributes ∷ r) (set_end (i + 1 + 1) b m cs d)
    ∙ ap row_of_visible (sym (ends_later b (visible_at i c.text 2 c.attributes) (i + 1 + 1) m cs))
    ∙ sym (ap (λ (r : Row). row_of_visible (with_end_wrapped b (visible_from i r))) (row_wide c n (m ∷ cs) e)))
    (λ e.
    ap (λ t. let at = (if t then suc (suc (last_read (m ∷ cs))) else suc (last_read (n ∷ m ∷ cs))) in row_of_cells (set (c ∷ n ∷ m ∷ cs) at (mark_cell b (get_or (c ∷ n ∷ m ∷ cs) at d)))) e
    ∙ row_narrow_any c (set (n ∷ m ∷ cs) (last_read (n ∷ m ∷ cs)) (mark_cell b (get_or (n ∷ m ∷ cs) (last_read (n ∷ m ∷ cs)) d))) e
    ∙ ap (λ (r : Row). Narrow c.text c.attributes ∷ r) (set_end (i + 1) b n (m ∷ cs) d)
    ∙ ap row_of_visible (sym (ends_later b (visible_at i c.text 1 c.attributes) (i + 1) n (m ∷ cs)))
    ∙ sym (ap (λ (r : Row). row_of_visible (with_end_wrapped b (visible_from i r))) (row_narrow c n (m ∷ cs) e)))

-- setting the wrapped mark of the last cell that is read sets it at the end of the row
pub end_set : (cells : List CellContent) (at : ℕ) (b : Bool) (d : CellContent) (new : CellContent) → 0 < length cells → at ≡ last_read cells → new ≡ mark_cell b (get_or cells at d)
    → row_of_cells (set cells at new) ≡ row_end_wrapped b (row_of_cells cells)
end_set [] at b d new l e n = absurd (omega arith)
end_set (c ∷ cs) at b d new l e n = (λ i. row_of_cells (set (c ∷ cs) (e i) ((n ∙ ap (λ m. mark_cell b (get_or (c ∷ cs) m d)) e) i))) ∙ set_end 0 b c cs d

-- whether the line goes on after the last cell
wrapped_end : (i : ℕ) (b : Bool) (c : CellContent) (cs : List CellContent) (d : CellContent)
    → (get_or (c ∷ cs) (last_read (c ∷ cs)) d).attributes.wrapped ≡ fold (λ _ (v : VisibleCell). v.cell.attributes.wrapped) b (visible_from i (row_of_cells (c ∷ cs)))
wrapped_end i b c [] d = by_test (nat_le 2 c.width) (λ e. rw e refl) (λ e. rw e refl)
wrapped_end i b c (n ∷ []) d = by_test (nat_le 2 c.width)
    (λ e.
    ap (λ t. (get_or (c ∷ n ∷ []) (if t then 0 else 1) d).attributes.wrapped) e
    ∙ sym (ap (λ (r : Row). fold (λ _ (v : VisibleCell). v.cell.attributes.wrapped) b (visible_from i r)) (row_wide c n [] e)))
    (λ e.
    ap (λ t. (get_or (c ∷ n ∷ []) (if t then 0 else 1) d).attributes.wrapped) e
    ∙ wrapped_end (i + 1) c.attributes.wrapped n [] d
    ∙ sym (ap (λ (r : Row). fold (λ _ (v : VisibleCell). v.cell.attributes.wrapped) b (visible_from i r)) (row_narrow c n [] e)))
wrapped_end i b c (n ∷ m ∷ cs) d = by_test (nat_le 2 c.width)
    (λ e.
    ap (λ t. (get_or (c ∷ n ∷ m ∷ cs) (if t then suc (suc (last_read (m ∷ cs))) else suc (last_read (n ∷ m ∷ cs))) d).attributes.wrapped) e
    ∙ wrapped_end (i + 1 + 1) c.attributes.wrapped m cs d
    ∙ sym (ap (λ (r : Row). fold (λ _ (v : VisibleCell). v.cell.attributes.wrapped) b (visible_from i r)) (row_wide c n (m ∷ cs) e)))
    (λ e.
    ap (λ t. (get_or (c ∷ n ∷ m ∷ cs) (if t then suc (suc (last_read (m ∷ cs))) else suc (last_read (n ∷ m ∷ cs))) d).attributes.wrapped) e
    ∙ wrapped_end (i + 1) c.attributes.wrapped n (m ∷ cs) d
    ∙ sym (ap (λ (r : Row). fold (λ _ (v : VisibleCell). v.cell.attributes.wrapped) b (visible_from i r)) (row_narrow c n (m ∷ cs) e)))

pub wrapped_last : (cells : List CellContent) (at : ℕ) (d : CellContent) → 0 < length cells → at ≡ last_read cells → (get_or cells at d).attributes.wrapped ≡ ends_wrapped (visible_cells (row_of_cells cells))
wrapped_last [] at d l e = absurd (omega arith)
wrapped_last (c ∷ cs) at d l e = ap (λ n. (get_or (c ∷ cs) n d).attributes.wrapped) e ∙ wrapped_end 0 false c cs d
