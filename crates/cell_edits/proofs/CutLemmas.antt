-- Cells that were written or cut in a vector, and the row that they are read as.
use Rattle.std.proofs.Common.{◌≡◌, ℕ, zero, suc, ◌+◌, ◌-◌, ◌<◌, ◌≤◌, true, false, List, [], ◌∷◌, ◌++◌, length, take, drop, set, replicate, refl, sym, ap, ◌∙◌, arith, append_assoc, length-append, inl, inr}
use Rattle.std.specs.Prelude.{◌⊎◌, nat_lt, nat_le, if◌then◌else◌, insert}
use Rattle.std.proofs.lemmas.Bool.{ltb-true, ltb-false, lt-ltb, le-ltb, le-leb}
use Rattle.std.proofs.lemmas.Bool.Decides.{leb_tells}
use Rattle.std.proofs.lemmas.Grind.{common_steps}
use Rattle.std.proofs.lemmas.List.{take-set-le, take_more_set, drop-set, drop-set-lt, drop_all, drop-drop, set_split, length-set, length-take-le, take-append-drop, take_all, take_at, drop_at, append-nil}
use Rattle.std.proofs.Math.Seq.{drop-append-add}
use Rattle.cell_base.specs.Attributes.{Attributes, plain}
use Rattle.cell_base.specs.CellContent.{CellContent, blank_cell, row_of_cells}
use Rattle.cell_base.specs.Row.{Narrow, LeftHalf, RightHalf, Row, blank, plain_row, closed_end, closed_start}
use Rattle.cell_edits.specs.CellList.{ends_split, blank_for, cell_columns}
use Rattle.cell_edits.specs.RowEdits.{cut, cut_prefix, padded, resized, removed, inserted}
use Rattle.cell_edits.proofs.CellLemmas.{by_test, row_wide, row_narrow, length-row, closed_end-wide, closed_end-narrow, before_cut, after_cut, cut_whole, row_joined, split_joined, split_wide}

leb_false : (m n : ℕ) → n < m → nat_le m n ≡ false
leb_false m n h = elim (leb_tells m n) [ inl p ↦ absurd (omega arith) | inr p ↦ p.0 ]

-- ---- one or two positions written

pub take_less : {X : Type 0} (n m : ℕ) (xs : List X) → n ≤ m → take n (take m xs) ≡ take n xs
take_less zero m xs h = refl
take_less (suc n) zero xs h = absurd (omega arith)
take_less (suc n) (suc m) [] h = refl
take_less (suc n) (suc m) (x ∷ xs) h = ap (λ ys. x ∷ ys) (take_less n m xs (omega arith))

pub split_before : {X : Type 0} (cells joined : List X) (at : ℕ) (l r : X) → at < length cells → (joined ≡ set cells (at + 1) r) ⊎ (joined ≡ cells)
    → take (at + 1) (set joined at l) ≡ take at cells ++ l ∷ []
split_before {X} cells joined at l r h (inl e) =
    let n : length joined ≡ length cells = ap length e ∙ length-set cells (at + 1) r in
    take_more_set joined at l (omega arith) ∙ ap (λ (xs : List X). take at xs ++ l ∷ []) e ∙ ap (λ (xs : List X). xs ++ l ∷ []) (take-set-le at cells (at + 1) r (omega arith))
split_before {X} cells joined at l r h (inr e) =
    let n : length joined ≡ length cells = ap length e in
    take_more_set joined at l (omega arith) ∙ ap (λ (xs : List X). take at xs ++ l ∷ []) e

pub split_after : {X : Type 0} (cells joined : List X) (at : ℕ) (l r : X) → at + 1 < length cells → joined ≡ set cells (at + 1) r
    → drop (at + 1) (set joined at l) ≡ r ∷ drop (at + 2) cells
split_after {X} cells joined at l r h e =
    let on : at + 1 + 1 ≡ at + 2 = omega arith in
    drop-set-lt (at + 1) joined at l (omega arith) ∙ ap (drop (at + 1)) e ∙ drop-set cells (at + 1) r h ∙ ap (λ n. r ∷ drop n cells) on

-- ---- a cut at a position

pub cut_before : (cells new : List CellContent) (p at : ℕ) → at ≡ p + 1 → ends_split (take at cells) ≡ true → p < length cells
    → take (p + 1) new ≡ take p cells ++ blank_for cells p ∷ [] → row_of_cells (take at new) ≡ cut at (row_of_cells cells)
cut_before cells new p at e h l k =
    let on : at ≡ suc p = omega arith in
    ap (λ n. row_of_cells (take n new)) e ∙ ap row_of_cells k
    ∙ before_cut cells p (blank_cell plain) (ap (λ n. ends_split (take n cells)) (sym on) ∙ h) l
    ∙ ap (λ n. closed_end (take n (row_of_cells cells))) (sym on)

pub cut_is_whole : (cells new : List CellContent) (p at : ℕ) → at ≡ p + 1 → ends_split (take at cells) ≡ true → p < length cells
    → take (p + 1) new ≡ take p cells ++ blank_for cells p ∷ [] → ends_split (take at new) ≡ false
cut_is_whole cells new p at e h l k =
    let on : at ≡ suc p = omega arith in
    ap (λ n. ends_split (take n new)) e ∙ ap ends_split k
    ∙ cut_whole cells p _ (ap (λ n. ends_split (take n cells)) (sym on) ∙ h) l

pub cut_after : (cells new : List CellContent) (p at : ℕ) → at ≡ p + 1 → ends_split (take at cells) ≡ true → at ≤ length cells → length new ≡ length cells
    → (p + 1 < length cells → drop (p + 1) new ≡ blank_for cells p ∷ drop (p + 2) cells) → row_of_cells (drop at new) ≡ cut_prefix at (row_of_cells cells)
cut_after cells new p at e h l n k = by_test (nat_lt at (length cells))
    (λ t.
    let inside : at < length cells = ltb-true at (length cells) t in
    let on : at ≡ suc p = omega arith in
    let two : p + 2 ≡ suc (suc p) = omega arith in
    ap (λ m. row_of_cells (drop m new)) e ∙ ap row_of_cells (k (omega arith)) ∙ ap (λ m. row_of_cells (blank_for cells p ∷ drop m cells)) two
    ∙ after_cut cells p (blank_cell plain) (ap (λ m. ends_split (take m cells)) (sym on) ∙ h) (omega arith)
    ∙ ap (λ m. closed_start (drop m (row_of_cells cells))) (sym on))
    (λ t.
    let all : length cells ≤ at = ltb-false at (length cells) t in
    let r = length-row cells in
    ap row_of_cells (drop_all at new (omega arith)) ∙ sym (ap closed_start (drop_all at (row_of_cells cells) (omega arith))))

pub cut_earlier : {X : Type 0} (cells new : List X) (p : ℕ) (l : X) → p < length cells → take (p + 1) new ≡ take p cells ++ l ∷ [] → take p new ≡ take p cells
cut_earlier cells new p l h k =
    sym (take_less p (p + 1) new (omega arith)) ∙ ap (take p) k ∙ grind (arith, common_steps)

-- ---- two cuts

pub length-closed_end : (r : Row) → length (closed_end r) ≡ length r
length-closed_end [] = refl
length-closed_end (x ∷ []) = refl
length-closed_end (x ∷ y ∷ r) = ap suc (length-closed_end (y ∷ r))

pub length-cut : (at : ℕ) (r : Row) → at ≤ length r → length (cut at r) ≡ at
length-cut at r h = length-closed_end (take at r) ∙ length-take-le at r h

drop-closed_start : (j : ℕ) (r : Row) → drop (suc j) (closed_start r) ≡ drop (suc j) r
drop-closed_start j [] = refl
drop-closed_start j (x ∷ r) = refl

-- the row of cells that were cut
pub row_cut : (new : List CellContent) (at : ℕ) (before after : Row) → ends_split (take at new) ≡ false → row_of_cells (take at new) ≡ before → row_of_cells (drop at new) ≡ after
    → row_of_cells new ≡ before ++ after
row_cut new at before after w b d =
    ap row_of_cells (sym (take-append-drop at new)) ∙ row_joined (take at new) (drop at new) w ∙ (λ i. b i ++ d i)

prefix_of_joined : (r : Row) (s j : ℕ) → s ≤ length r → closed_start (drop (s + suc j) (cut s r ++ cut_prefix s r)) ≡ cut_prefix (s + suc j) r
prefix_of_joined r s j h =
    let n = length-cut s r h in
    ap (λ m. closed_start (drop (m + suc j) (cut s r ++ cut_prefix s r))) (sym n)
    ∙ ap closed_start (drop-append-add (cut s r) (cut_prefix s r) (suc j))
    ∙ ap closed_start (drop-closed_start j (drop s r))
    ∙ ap closed_start (drop-drop (suc j) s r)

pub second_cut : (first second : List CellContent) (r : Row) (s e : ℕ) → s < e → s ≤ length r
    → ends_split (take s first) ≡ false → row_of_cells (take s first) ≡ cut s r → row_of_cells (drop s first) ≡ cut_prefix s r
    → row_of_cells (drop e second) ≡ cut_prefix e (row_of_cells first) → row_of_cells (drop e second) ≡ cut_prefix e r
second_cut first second r s e h l w b d k =
    let j : ℕ = e - s - 1 in
    let is : e ≡ s + suc j = omega arith in
    k ∙ ap (cut_prefix e) (row_cut first s _ _ w b d) ∙ ap (λ m. closed_start (drop m (cut s r ++ cut_prefix s r))) is ∙ prefix_of_joined r s j l ∙ ap (λ m. cut_prefix m r) (sym is)

pub still_before : (first second : List CellContent) (s e : ℕ) → s < e → take (e - 1) second ≡ take (e - 1) first → take s second ≡ take s first
still_before first second s e h k =
    sym (take_less s (e - 1) second (omega arith)) ∙ ap (take s) k ∙ take_less s (e - 1) first (omega arith)

-- ---- a cell between the columns before it and after it

pub row_narrow_any : (c : CellContent) (cs : List CellContent) → nat_le 2 c.width ≡ false → row_of_cells (c ∷ cs) ≡ Narrow c.text c.attributes ∷ row_of_cells cs
row_narrow_any c [] e = rw e refl
row_narrow_any c (n ∷ cs) e = row_narrow c n cs e

pub columns_narrow : (c : CellContent) → nat_le 2 c.width ≡ false → cell_columns c ≡ Narrow c.text c.attributes ∷ []
columns_narrow c e = rw e refl

pub columns_wide : (c : CellContent) → nat_le 2 c.width ≡ true → cell_columns c ≡ LeftHalf c.text c.attributes ∷ RightHalf c.attributes ∷ []
columns_wide c e = rw e refl

pub count_wide : (c : CellContent) → length (cell_columns c) ≡ 2 → nat_le 2 c.width ≡ true
count_wide c e = by_test (nat_le 2 c.width) (λ t. t) (λ t. absurd (let n = ap length (columns_narrow c t) in omega arith))

pub count_narrow : (c : CellContent) → ¬ (length (cell_columns c) ≡ 2) → nat_le 2 c.width ≡ false
count_narrow c e = by_test (nat_le 2 c.width) (λ t. absurd (e (ap length (columns_wide c t)))) (λ t. t)

pub length-cell_columns : (c : CellContent) → (length (cell_columns c) ≡ 1) ⊎ (length (cell_columns c) ≡ 2)
length-cell_columns c = by_test (nat_le 2 c.width) (λ t. inr (ap length (columns_wide c t))) (λ t. inl (ap length (columns_narrow c t)))

pub between_narrow : (before after : List CellContent) (c : CellContent) (b d : Row) → ends_split before ≡ false → row_of_cells before ≡ b → row_of_cells after ≡ d → nat_le 2 c.width ≡ false
    → row_of_cells (before ++ c ∷ after) ≡ b ++ cell_columns c ++ d
between_narrow before after c b d w p q t =
    row_joined before (c ∷ after) w ∙ (λ i. p i ++ (row_narrow_any c after t ∙ ap (λ (r : Row). Narrow c.text c.attributes ∷ r) q) i)
    ∙ ap (λ (r : Row). b ++ (r ++ d)) (sym (columns_narrow c t)) ∙ sym (append_assoc b (cell_columns c) d)

pub between_wide : (before after : List CellContent) (c f : CellContent) (b d : Row) → ends_split before ≡ false → row_of_cells before ≡ b → row_of_cells after ≡ d → nat_le 2 c.width ≡ true
    → row_of_cells (before ++ c ∷ f ∷ after) ≡ b ++ cell_columns c ++ d
between_wide before after c f b d w p q t =
    row_joined before (c ∷ f ∷ after) w ∙ (λ i. p i ++ (row_wide c f after t ∙ ap (λ (r : Row). LeftHalf c.text c.attributes ∷ RightHalf c.attributes ∷ r) q) i)
    ∙ ap (λ (r : Row). b ++ (r ++ d)) (sym (columns_wide c t)) ∙ sym (append_assoc b (cell_columns c) d)

-- one position written
pub set_one : {X : Type 0} (xs : List X) (at : ℕ) (x : X) → at < length xs → set xs at x ≡ take at xs ++ x ∷ drop (at + 1) xs
set_one xs at x h = let on : suc at ≡ at + 1 = omega arith in set_split xs at x h ∙ ap (λ n. take at xs ++ x ∷ drop n xs) on

-- a position and the one after it written
pub set_two : {X : Type 0} (xs : List X) (at : ℕ) (x y : X) → at + 1 < length xs → set (set xs (at + 1) y) at x ≡ take at xs ++ x ∷ y ∷ drop (at + 2) xs
set_two {X} xs at x y h =
    let n = length-set xs (at + 1) y in
    let on : at + 1 + 1 ≡ at + 2 = omega arith in
    set_one (set xs (at + 1) y) at x (omega arith)
    ∙ (λ i. take-set-le at xs (at + 1) y (omega arith) i ++ x ∷ (drop-set xs (at + 1) y h ∙ ap (λ m. y ∷ drop m xs) on) i)

-- ---- blanks at the end

pub row_of_blanks : (n : ℕ) → row_of_cells (replicate n (blank_cell plain)) ≡ plain_row n
row_of_blanks zero = refl
row_of_blanks (suc n) = row_narrow_any (blank_cell plain) (replicate n (blank_cell plain)) refl ∙ ap (λ (r : Row). blank plain ∷ r) (row_of_blanks n)

pub row_of_blanks_with : (n : ℕ) (a : Attributes) → row_of_cells (replicate n (blank_cell a)) ≡ replicate n (blank a)
row_of_blanks_with zero a = refl
row_of_blanks_with (suc n) a = row_narrow_any (blank_cell a) (replicate n (blank_cell a)) refl ∙ ap (λ (r : Row). blank a ∷ r) (row_of_blanks_with n a)

-- a line doesn't end in a left half
pub closed_ends : (cells : List CellContent) → closed_end (row_of_cells cells) ≡ row_of_cells cells
closed_ends [] = refl
closed_ends (c ∷ []) = by_test (nat_le 2 c.width) (λ e. rw e refl) (λ e. rw e refl)
closed_ends (c ∷ n ∷ cs) = by_test (nat_le 2 c.width)
    (λ e. ap closed_end (row_wide c n cs e) ∙ closed_end-wide c.text c.attributes (row_of_cells cs) ∙ ap (λ (r : Row). LeftHalf c.text c.attributes ∷ RightHalf c.attributes ∷ r) (closed_ends cs) ∙ sym (row_wide c n cs e))
    (λ e. ap closed_end (row_narrow c n cs e) ∙ closed_end-narrow c.text c.attributes (row_of_cells (n ∷ cs)) ∙ ap (λ (r : Row). Narrow c.text c.attributes ∷ r) (closed_ends (n ∷ cs)) ∙ sym (row_narrow c n cs e))

pub cut_all : (cells : List CellContent) (n : ℕ) → length cells ≤ n → cut n (row_of_cells cells) ≡ row_of_cells cells
cut_all cells n h = let l = length-row cells in ap closed_end (take_all n (row_of_cells cells) (omega arith)) ∙ closed_ends cells

-- cells that were cut at their end
pub whole_end : (cells X : List CellContent) (n : ℕ) → length cells ≡ n → length X ≡ length cells → ends_split (take n X) ≡ false → ends_split X ≡ false
whole_end cells X n e l w = ap ends_split (sym (take_all n X (omega arith))) ∙ w

pub row_end : (cells X : List CellContent) (n : ℕ) → length cells ≡ n → length X ≡ length cells → row_of_cells (take n X) ≡ cut n (row_of_cells cells) → row_of_cells X ≡ row_of_cells cells
row_end cells X n e l b = ap row_of_cells (sym (take_all n X (omega arith))) ∙ b ∙ cut_all cells n (omega arith)

pub pad_row : (cells X new : List CellContent) (n width : ℕ) → length cells ≡ n → length X ≡ length cells → ends_split (take n X) ≡ false → row_of_cells (take n X) ≡ cut n (row_of_cells cells)
    → new ≡ X ++ replicate (width - n) (blank_cell plain) → row_of_cells new ≡ padded width (row_of_cells cells)
pad_row cells X new n width e l w b k =
    let is = row_end cells X n e l b in
    let count : n ≡ length (row_of_cells cells) = sym e ∙ sym (length-row cells) in
    ap row_of_cells k ∙ row_joined X _ (whole_end cells X n e l w) ∙ (λ i. is i ++ row_of_blanks (width - n) i) ∙ ap (λ m. row_of_cells cells ++ plain_row (width - m)) count

pub pad_none : (cells : List CellContent) (width : ℕ) → width ≤ length cells → row_of_cells cells ≡ padded width (row_of_cells cells)
pad_none cells width h =
    let l = length-row cells in
    let none : width - length (row_of_cells cells) ≡ 0 = omega arith in
    sym (append-nil (row_of_cells cells)) ∙ sym (ap (λ n. row_of_cells cells ++ plain_row n) none)

pub resize_less : (cells : List CellContent) (width : ℕ) → width < length cells → cut width (row_of_cells cells) ≡ resized width (row_of_cells cells)
resize_less cells width h =
    let l = length-row cells in
    sym (ap (λ t. if t then cut width (row_of_cells cells) else padded width (row_of_cells cells)) (lt-ltb width (length (row_of_cells cells)) (omega arith)))

pub resize_more : (cells : List CellContent) (width : ℕ) → length cells ≤ width → padded width (row_of_cells cells) ≡ resized width (row_of_cells cells)
resize_more cells width h =
    let l = length-row cells in
    sym (ap (λ t. if t then cut width (row_of_cells cells) else padded width (row_of_cells cells)) (le-ltb width (length (row_of_cells cells)) (omega arith)))

-- two cells inserted, the later one before the other
pub insert_two : {X : Type 0} (xs : List X) (at : ℕ) (x y : X) → at ≤ length xs → insert (insert xs at y) at x ≡ take at xs ++ x ∷ y ∷ drop at xs
insert_two xs at x y h =
    let n : length (take at xs) ≡ at = length-take-le at xs h in
    λ i. take_at (take at xs) (y ∷ drop at xs) at n i ++ x ∷ drop_at (take at xs) (y ∷ drop at xs) at n i

-- ---- the remaining row, after a column may have been removed

pub rest_removed : (cells mid : List CellContent) (x : ℕ) → x < length cells → row_of_cells mid ≡ removed x (row_of_cells cells)
    → row_of_cells mid ≡ (if nat_lt x (length (row_of_cells cells)) then removed x (row_of_cells cells) else row_of_cells cells)
rest_removed cells mid x h e =
    let l = length-row cells in
    e ∙ sym (ap (λ t. if t then removed x (row_of_cells cells) else row_of_cells cells) (lt-ltb x (length (row_of_cells cells)) (omega arith)))

pub rest_kept : (cells mid : List CellContent) (x : ℕ) → length cells ≤ x → mid ≡ cells
    → row_of_cells mid ≡ (if nat_lt x (length (row_of_cells cells)) then removed x (row_of_cells cells) else row_of_cells cells)
rest_kept cells mid x h e =
    let l = length-row cells in
    ap row_of_cells e ∙ sym (ap (λ t. if t then removed x (row_of_cells cells) else row_of_cells cells) (le-ltb x (length (row_of_cells cells)) (omega arith)))

pub margin_removed : (cells mid : List CellContent) (m : ℕ) → m ≤ length cells → row_of_cells mid ≡ removed (m - 1) (row_of_cells cells)
    → row_of_cells mid ≡ (if nat_le m (length (row_of_cells cells)) then removed (m - 1) (row_of_cells cells) else row_of_cells cells)
margin_removed cells mid m h e =
    let l = length-row cells in
    e ∙ sym (ap (λ t. if t then removed (m - 1) (row_of_cells cells) else row_of_cells cells) (le-leb m (length (row_of_cells cells)) (omega arith)))

pub margin_kept : (cells mid : List CellContent) (m : ℕ) → length cells < m → mid ≡ cells
    → row_of_cells mid ≡ (if nat_le m (length (row_of_cells cells)) then removed (m - 1) (row_of_cells cells) else row_of_cells cells)
margin_kept cells mid m h e =
    let l = length-row cells in
    ap row_of_cells e ∙ sym (ap (λ t. if t then removed (m - 1) (row_of_cells cells) else row_of_cells cells) (leb_false m (length (row_of_cells cells)) (omega arith)))

pub reaches : (rest : Row) (m : ℕ) (a : Attributes) → m ≤ length rest + 1
    → inserted (m - 1) (blank a ∷ []) rest ≡ (if nat_le m (length rest + 1) then inserted (m - 1) (blank a ∷ []) rest else rest)
reaches rest m a h = sym (ap (λ t. if t then inserted (m - 1) (blank a ∷ []) rest else rest) (le-leb m (length rest + 1) h))

pub falls_short : (rest : Row) (m : ℕ) (a : Attributes) → length rest + 1 < m
    → rest ≡ (if nat_le m (length rest + 1) then inserted (m - 1) (blank a ∷ []) rest else rest)
falls_short rest m a h = sym (ap (λ t. if t then inserted (m - 1) (blank a ∷ []) rest else rest) (leb_false m (length rest + 1) h))

-- ---- after a cell is written, no wide cell is split at its end

pub whole_narrow : (before after : List CellContent) (c : CellContent) (new : List CellContent) (n : ℕ) → n ≡ length before + 1 → new ≡ before ++ c ∷ after → ends_split before ≡ false → nat_le 2 c.width ≡ false
    → ends_split (take n new) ≡ false
whole_narrow before after c new n l e w narrow =
    let long = length-append before (c ∷ []) in
    ap (λ xs. ends_split (take n xs)) (e ∙ sym (append_assoc before (c ∷ []) after))
    ∙ ap ends_split (take_at (before ++ c ∷ []) after n (omega arith)) ∙ split_joined before (c ∷ []) w ∙ narrow

pub whole_wide : (before after : List CellContent) (c f : CellContent) (new : List CellContent) (n : ℕ) → n ≡ length before + 2 → new ≡ before ++ c ∷ f ∷ after → ends_split before ≡ false → nat_le 2 c.width ≡ true
    → ends_split (take n new) ≡ false
whole_wide before after c f new n l e w wide =
    let long = length-append before (c ∷ f ∷ []) in
    ap (λ xs. ends_split (take n xs)) (e ∙ sym (append_assoc before (c ∷ f ∷ []) after))
    ∙ ap ends_split (take_at (before ++ c ∷ f ∷ []) after n (omega arith)) ∙ split_joined before (c ∷ f ∷ []) w ∙ split_wide c f [] wide
