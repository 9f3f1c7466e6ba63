-- A range of cells of which the last is a wide one with none after it.
use Rattle.std.proofs.Common.{◌≡◌, ℕ, zero, suc, ◌+◌, ◌-◌, ◌<◌, ◌≤◌, Bool, true, false, not, List, [], ◌∷◌, ◌++◌, length, get_or, take, refl, sym, ap, ◌∙◌, inl, inr, arith}
use Rattle.std.proofs.lemmas.List.{append-nil, take_more, take_all, length-take-le}
use Rattle.std.proofs.lemmas.List.Elements.{filter-append}
use Rattle.std.proofs.lemmas.Grind.{flat_map-append}
use Rattle.std.proofs.lemmas.Bool.{false≢true, le-leb, lt-ltb, le-ltb}
use Rattle.std.proofs.lemmas.Bool.Decides.{leb_tells}
use Rattle.std.specs.Prelude.{nat_le, nat_lt, ◌&&◌, filter, if◌then◌else◌}
use Rattle.cell_base.specs.Attributes.{Attributes, plain}
use Rattle.cell_base.specs.CellContent.{CellContent, blank_cell, row_of_cells}
use Rattle.cell_base.specs.Row.{Narrow, LeftHalf, RightHalf, Row, space, blank}
use Rattle.cell_edits.specs.CellList.{ends_split}
use Rattle.cell_edits.specs.CellList.{cell_columns}
use Rattle.cell_edits.specs.VisibleCells.{VisibleCell, visible_at, visible_from, visible_cells, cells_between, row_of_visible}
use Rattle.cell_edits.proofs.CellLemmas.{by_test, split_more, row_joined, length-row}

pub split_some : (cells : List CellContent) (n : ℕ) → n ≡ length cells → ends_split (take n cells) ≡ true → 0 < n
split_some [] zero e h = absurd (false≢true h)
split_some [] (suc n) e h = omega arith
split_some (c ∷ cells) zero e h = absurd (omega arith)
split_some (c ∷ cells) (suc n) e h = omega arith

-- the last cell is a wide one, and those before it are whole
last_parts : (wide before : Bool) → (if wide then not before else false) ≡ true → (wide ≡ true) × (before ≡ false)
last_parts true false e = (refl, refl)
last_parts true true e = absurd (false≢true e)
last_parts false before e = absurd (false≢true e)

pub split_last : (cells : List CellContent) (n m : ℕ) (d : CellContent) → n ≡ length cells → m ≡ n - 1 → ends_split (take n cells) ≡ true → (nat_le 2 (get_or cells m d).width ≡ true) × (ends_split (take m cells) ≡ false)
split_last cells n m d e on h =
    let some = split_some cells n e h in
    let next : suc m ≡ n = omega arith in
    last_parts (nat_le 2 (get_or cells m d).width) (ends_split (take m cells)) (sym (split_more cells m d (omega arith)) ∙ ap (λ k. ends_split (take k cells)) next ∙ h)

visible_last : (i : ℕ) (row : Row) (a : Attributes) → visible_from i (row ++ blank a ∷ []) ≡ visible_from i row ++ visible_at (i + length row) space 1 a ∷ []
visible_last i [] a = let on : i ≡ i + 0 = omega arith in ap (λ k. visible_at k space 1 a ∷ []) on
visible_last i (Narrow t b ∷ row) a = let on : i + 1 + length row ≡ i + suc (length row) = omega arith in ap (λ (vs : List VisibleCell). visible_at i t 1 b ∷ vs) (visible_last (i + 1) row a ∙ ap (λ k. visible_from (i + 1) row ++ visible_at k space 1 a ∷ []) on)
visible_last i (LeftHalf t b ∷ row) a = let on : i + 1 + length row ≡ i + suc (length row) = omega arith in ap (λ (vs : List VisibleCell). visible_at i t 2 b ∷ vs) (visible_last (i + 1) row a ∙ ap (λ k. visible_from (i + 1) row ++ visible_at k space 1 a ∷ []) on)
visible_last i (RightHalf b ∷ row) a = let on : i + 1 + length row ≡ i + suc (length row) = omega arith in visible_last (i + 1) row a ∙ ap (λ k. visible_from (i + 1) row ++ visible_at k space 1 a ∷ []) on

one_last : (x : CellContent) → nat_le 2 x.width ≡ true → row_of_cells (x ∷ []) ≡ blank x.attributes ∷ []
one_last x e = rw e refl

not_le : (a b : ℕ) → b < a → nat_le a b ≡ false
not_le a b l = elim (leb_tells a b) [ inl e ↦ absurd (omega arith) | inr e ↦ e.0 ]

-- a range of them is the range of the whole ones and, where it reaches the last, the blank that this is read as
between_last : (cells : List CellContent) (n m start end : ℕ) (d : CellContent) → n ≡ length cells → m ≡ n - 1 → ends_split (take n cells) ≡ true
    → row_of_visible (cells_between start end (row_of_cells cells))
    ≡ row_of_visible (cells_between start end (row_of_cells (take m cells))) ++ (if nat_le start m && nat_lt m end then blank (get_or cells m d).attributes ∷ [] else [])
between_last cells n m start end d e on h =
    let x : CellContent = get_or cells m d in
    let a = x.attributes in
    let p : VisibleCell → Bool = λ v. nat_le start v.column && nat_lt v.column end in
    let some = split_some cells n e h in
    let parts = split_last cells n m d e on h in
    let prefix = take m cells in
    let columns : Row = row_of_cells prefix in
    let long : length columns ≡ m = length-row prefix ∙ length-take-le m cells (omega arith) in
    let at : 0 + length columns ≡ m = omega (arith, long) in
    let all : cells ≡ prefix ++ x ∷ [] = sym (take_all (m + 1) cells (omega arith)) ∙ take_more cells m d (omega arith) in
    let row : row_of_cells cells ≡ columns ++ blank a ∷ [] = ap row_of_cells all ∙ row_joined prefix (x ∷ []) parts.1 ∙ ap (λ (r : Row). columns ++ r) (one_last x parts.0) in
    let seen : visible_cells (row_of_cells cells) ≡ visible_cells columns ++ visible_at m space 1 a ∷ [] =
    ap visible_cells row ∙ visible_last 0 columns a ∙ ap (λ k. visible_cells columns ++ visible_at k space 1 a ∷ []) at in
    ap (λ vs. row_of_visible (filter p vs)) seen
    ∙ ap row_of_visible (filter-append p (visible_cells columns) (visible_at m space 1 a ∷ []))
    ∙ flat_map-append (λ v. cell_columns v.cell) (filter p (visible_cells columns)) (filter p (visible_at m space 1 a ∷ []))
    ∙ ap (λ (r : Row). row_of_visible (filter p (visible_cells columns)) ++ r) (by_test (nat_le start m && nat_lt m end) (λ t. rw t refl) (λ t. rw t refl))

pub between_within : (cells : List CellContent) (start end : ℕ) (x : CellContent) → ends_split (take (length cells) cells) ≡ true → start ≤ length cells - 1 → length cells - 1 < end → x ≡ get_or cells (length cells - 1) x
    → row_of_visible (cells_between start end (row_of_cells cells)) ≡ row_of_visible (cells_between start end (row_of_cells (take (length cells - 1) cells))) ++ blank x.attributes ∷ []
between_within cells start end x h from to is =
    let m = length cells - 1 in
    let prefix : Row = row_of_visible (cells_between start end (row_of_cells (take m cells))) in
    between_last cells (length cells) m start end x refl refl h
    ∙ (λ i. prefix ++ (if le-leb start m from i && lt-ltb m end to i then blank (sym is i).attributes ∷ [] else []))

pub between_before : (cells : List CellContent) (start end : ℕ) → ends_split (take (length cells) cells) ≡ true → end ≤ length cells - 1
    → row_of_visible (cells_between start end (row_of_cells cells)) ≡ row_of_visible (cells_between start end (row_of_cells (take (length cells - 1) cells)))
between_before cells start end h to =
    let m = length cells - 1 in
    let prefix : Row = row_of_visible (cells_between start end (row_of_cells (take m cells))) in
    between_last cells (length cells) m start end (blank_cell plain) refl refl h
    ∙ ap (λ t. prefix ++ (if nat_le start m && t then blank (get_or cells m (blank_cell plain)).attributes ∷ [] else [])) (le-ltb m end to)
    ∙ by_test (nat_le start m) (λ t. rw t (append-nil prefix)) (λ t. rw t (append-nil prefix))

pub between_after : (cells : List CellContent) (start end : ℕ) → ends_split (take (length cells) cells) ≡ true → length cells - 1 < start
    → row_of_visible (cells_between start end (row_of_cells cells)) ≡ row_of_visible (cells_between start end (row_of_cells (take (length cells - 1) cells)))
between_after cells start end h from =
    let m = length cells - 1 in
    let prefix : Row = row_of_visible (cells_between start end (row_of_cells (take m cells))) in
    between_last cells (length cells) m start end (blank_cell plain) refl refl h
    ∙ ap (λ t. prefix ++ (if t && nat_lt m end then blank (get_or cells m (blank_cell plain)).attributes ∷ [] else [])) (not_le start m from)
    ∙ append-nil prefix
