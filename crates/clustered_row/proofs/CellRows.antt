-- Rows that are made of cells, one after another.
use Rattle.std.proofs.Common.{◌≡◌, ℕ, suc, ◌+◌, ◌-◌, ◌≤◌, ◌<◌, true, false, List, [], ◌∷◌, ◌++◌, length, take, drop, get_or, replicate, refl, sym, ap, subst, ◌∙◌, append-nil, length-append, arith, drop-cons}
use Rattle.std.specs.Prelude.{◌&&◌, max, nat_le, nat_lt, if◌then◌else◌}
use Rattle.std.proofs.lemmas.Bool.Decides.{nat_tests}
use Rattle.std.proofs.lemmas.List.{drop-drop, drop_all, length-drop, length-replicate, take_at}
use Rattle.cell_base.specs.Attributes.{Attributes, plain}
use Rattle.cell_base.specs.CellContent.{CellContent, blank_cell, cell_of, row_of_cells}
use Rattle.cell_base.specs.LawfulCell.{IsCell}
use Rattle.cell_base.specs.Row.{Row, Narrow, LeftHalf, RightHalf, blank, closed_end, closed_start, plain_row, set_columns}
use Rattle.cell_base.specs.WholeRow.{IsWhole}
use Rattle.cell_base.proofs.RowLemmas.{length-set_columns, set_columns-again, whole_ends, whole-append, whole-blanks, whole-set_columns}
use Rattle.cell_edits.specs.CellList.{cell_columns}
use Rattle.cell_edits.specs.ShownCells.{lent_cells}
use Rattle.cell_edits.specs.VisibleCells.{VisibleCell, row_of_visible, visible_from}
use Rattle.cell_edits.proofs.CellLemmas.{by_test, length-row, row_wide}
use Rattle.cell_edits.proofs.CutLemmas.{columns_narrow, columns_wide, row_narrow_any}
use Rattle.cell_edits.proofs.RowLaws.{row_again, whole_columns}
use Rattle.clustered_row.specs.FirstCells.{first_columns}

-- ---- a cell that is there whole

cell_again : (cell : CellContent) → IsCell cell → cell_of cell.text cell.width cell.attributes ≡ cell
cell_again cell is =
    let some = is.some in
    let kept = is.shown in
    let same : max 1 cell.width ≡ cell.width = omega (arith, some) in
    λ i. record {
      text = if kept i then 32 ∷ [] else cell.text;
      width = (ap (λ b. if b then 1 else max 1 cell.width) kept ∙ same) i;
      attributes = cell.attributes;
    }

has_room : (width room : ℕ) → width ≤ room → (nat_le 2 width && nat_lt room 2) ≡ false
has_room width room h = grind (arith, nat_tests)

pub first_whole : (cell : CellContent) (room : ℕ) → IsCell cell → cell.width ≤ room → cell_columns (cell_of cell.text cell.width cell.attributes) ≡ first_columns cell room
first_whole cell room is h = ap cell_columns (cell_again cell is) ∙ ap (λ b. if b then blank cell.attributes ∷ [] else cell_columns cell) (sym (has_room cell.width room h))

-- ---- the first of some cells

alone : (room : ℕ) → 2 ≤ room → nat_lt room 2 ≡ false
alone room h = grind (arith, nat_tests)

first_wide : (cell : CellContent) (room : ℕ) → nat_le 2 cell.width ≡ true → 2 ≤ room → first_columns cell room ≡ LeftHalf cell.text cell.attributes ∷ RightHalf cell.attributes ∷ []
first_wide cell room e h = (λ i. if e i && alone room h i then blank cell.attributes ∷ [] else cell_columns cell) ∙ columns_wide cell e

first_last : (cell : CellContent) → nat_le 2 cell.width ≡ true → first_columns cell 1 ≡ blank cell.attributes ∷ []
first_last cell e = λ i. if e i && true then blank cell.attributes ∷ [] else cell_columns cell

first_narrow : (cell : CellContent) (room : ℕ) → nat_le 2 cell.width ≡ false → first_columns cell room ≡ Narrow cell.text cell.attributes ∷ []
first_narrow cell room e = (λ i. if e i && nat_lt room 2 then blank cell.attributes ∷ [] else cell_columns cell) ∙ columns_narrow cell e

first_of : (cell : CellContent) (cells : List CellContent) → row_of_cells (cell ∷ cells) ≡ first_columns cell (length (cell ∷ cells)) ++ row_of_cells (drop (length (first_columns cell (length (cell ∷ cells)))) (cell ∷ cells))
first_of cell [] = by_test (nat_le 2 cell.width)
    (λ e. ap (λ b. (if b then blank cell.attributes else Narrow cell.text cell.attributes) ∷ []) e ∙ (λ i. sym (first_last cell e) i ++ row_of_cells (drop (length (sym (first_last cell e) i)) (cell ∷ []))))
    (λ e. row_narrow_any cell [] e ∙ (λ i. sym (first_narrow cell 1 e) i ++ row_of_cells (drop (length (sym (first_narrow cell 1 e) i)) (cell ∷ []))))
first_of cell (next ∷ cells) = by_test (nat_le 2 cell.width)
    (λ e. let is = first_wide cell (length (cell ∷ next ∷ cells)) e (omega arith) in
    row_wide cell next cells e ∙ (λ i. sym is i ++ row_of_cells (drop (length (sym is i)) (cell ∷ next ∷ cells))))
    (λ e. let is = first_narrow cell (length (cell ∷ next ∷ cells)) e in
    row_narrow_any cell (next ∷ cells) e ∙ (λ i. sym is i ++ row_of_cells (drop (length (sym is i)) (cell ∷ next ∷ cells))))

-- it is whole, and takes no more than is there
first_cases : (P : Row → Type 0) (cell : CellContent) (room : ℕ) → P (blank cell.attributes ∷ []) → P (cell_columns cell) → P (first_columns cell room)
first_cases P cell room p q = elim (nat_le 2 cell.width && nat_lt room 2) as (λ b. P (if b then blank cell.attributes ∷ [] else cell_columns cell)) [ true ↦ p | false ↦ q ]

first_is_whole : (cell : CellContent) (room : ℕ) → IsWhole (first_columns cell room)
first_is_whole cell room = first_cases IsWhole cell room tt (whole_columns cell)

-- ---- one cell more

module _ (cells : List CellContent) (at : ℕ) (d : CellContent) (inside : at < length cells) where
  abbrev columns : Row
  columns = first_columns (get_or cells at d) (length cells - at)

  next_cells : row_of_cells (drop at cells) ≡ columns ++ row_of_cells (drop (at + length columns) cells)
  next_cells =
      let cell = get_or cells at d in
      let split : drop at cells ≡ cell ∷ drop (suc at) cells = drop-cons cells at d inside in
      let room : length (cell ∷ drop (suc at) cells) ≡ length cells - at = omega (arith, length-drop (suc at) cells, inside) in
      ap row_of_cells split ∙ first_of cell (drop (suc at) cells)
      ∙ (λ i. first_columns cell (room i) ++ row_of_cells (drop (length (first_columns cell (room i))) (sym split i)))
      ∙ ap (λ (cs : List CellContent). columns ++ row_of_cells cs) (drop-drop (length columns) at cells)

  next_fits : at + length columns ≤ length cells
  next_fits =
      let n = length-row (drop at cells) in
      let m = length-drop at cells in
      omega (arith, n, m, inside, ap length next_cells, length-append columns (row_of_cells (drop (at + length columns) cells)))

-- a row on which the cells before a position were put leads to the row of all; it is as wide, and whole
pub record LeadsTo (cells : List CellContent) (row : Row) (position : ℕ) : Type 0 where
  pub len : length row ≡ length cells
  pub order : position ≤ length cells
  pub whole : IsWhole row
  pub leads : set_columns row position (row_of_cells (drop position cells)) ≡ row_of_cells cells

pub put_first : (cells : List CellContent) → LeadsTo cells (plain_row (length cells)) 0
put_first cells =
    let long = length-replicate (length cells) (blank plain) in
    let n = length-row cells in
    let none : drop (0 + length (row_of_cells cells)) (plain_row (length cells)) ≡ [] = drop_all (0 + length (row_of_cells cells)) (plain_row (length cells)) (omega (arith, long, n)) in
    record {
      len = long;
      order = omega arith;
      whole = whole-blanks (length cells) plain;
      leads = ap (λ (r : Row). row_of_cells cells ++ closed_start r) none ∙ append-nil (row_of_cells cells);
    }

pub put_next : (cells : List CellContent) (row next : Row) (at position : ℕ) (d : CellContent) → LeadsTo cells row at → at < length cells → next ≡ set_columns row at (first_columns (get_or cells at d) (length row - at))
    → position ≡ at + length (first_columns (get_or cells at d) (length row - at)) → LeadsTo cells next position
put_next cells row next at position d l h e p =
    let len = l.len in
    let there = columns cells at d h in
    let room : length row - at ≡ length cells - at = omega (arith, len) in
    let same : first_columns (get_or cells at d) (length row - at) ≡ there = ap (first_columns (get_or cells at d)) room in
    let is : next ≡ set_columns row at there = e ∙ ap (set_columns row at) same in
    let after : position ≡ at + length there = p ∙ ap (λ (r : Row). at + length r) same in
    let fits = next_fits cells at d h in
    let long = ap length is ∙ length-set_columns row at there (omega (arith, len, fits)) in
    let whole_one = first_is_whole (get_or cells at d) (length cells - at) in
    record {
      len = long ∙ len;
      order = omega (arith, after, fits);
      whole = subst IsWhole (sym is) (whole-set_columns row at there l.whole whole_one);
      leads = (λ i. set_columns (is i) (after i) (row_of_cells (drop (after i) cells)))
          ∙ set_columns-again row at there (row_of_cells (drop (at + length there) cells)) (omega (arith, len, fits)) whole_one
          ∙ ap (set_columns row at) (sym (next_cells cells at d h)) ∙ l.leads;
    }

pub put_last : (cells : List CellContent) (row : Row) (at : ℕ) → LeadsTo cells row at → length cells ≤ at → row ≡ row_of_cells cells
put_last cells row at l h =
    let len = l.len in
    let order = l.order in
    let none : row_of_cells (drop at cells) ≡ [] = ap row_of_cells (drop_all at cells h) in
    let all : take at row ≡ row = ap (take at) (sym (append-nil row)) ∙ take_at row [] at (omega (arith, len, order, h)) in
    let past : drop (at + 0) row ≡ [] = drop_all (at + 0) row (omega (arith, len, h)) in
    sym (ap (set_columns row at) none ∙ (λ i. closed_end (all i) ++ [] ++ closed_start (past i)) ∙ append-nil (closed_end row ++ []) ∙ append-nil (closed_end row) ∙ whole_ends row l.whole) ∙ l.leads

-- ---- a row's cells

-- read from the left they are the row
pub row_of_lent : (row : Row) → IsWhole row → row_of_cells (lent_cells row) ≡ row
row_of_lent [] p = refl
row_of_lent (Narrow t a ∷ row) p = row_narrow_any (record { text = t; width = 1; attributes = a }) (lent_cells row) refl ∙ ap (λ (r : Row). Narrow t a ∷ r) (row_of_lent row p)
row_of_lent (RightHalf a ∷ row) p = absurd p
row_of_lent (LeftHalf t a ∷ []) p = absurd p
row_of_lent (LeftHalf t a ∷ Narrow u b ∷ row) p = absurd p
row_of_lent (LeftHalf t a ∷ LeftHalf u b ∷ row) p = absurd p
row_of_lent (LeftHalf t a ∷ RightHalf b ∷ row) p =
    row_wide (record { text = t; width = 2; attributes = a }) (blank_cell b) (lent_cells row) refl ∙ (λ j. LeftHalf t a ∷ RightHalf (sym p.0 j) ∷ row_of_lent row p.1 j)

-- whole columns with blanks after them are a whole row
pub whole_shown : (columns : Row) (n : ℕ) (rest : Attributes) (row : Row) → IsWhole columns → columns ++ replicate n (blank rest) ≡ row → IsWhole row
whole_shown columns n rest row w e = subst IsWhole e (whole-append columns (replicate n (blank rest)) w (whole-blanks n rest))

-- none yet, and all
pub lent_first : (items : List CellContent) (row left : Row) (column : ℕ) → items ≡ [] → left ≡ row → column ≡ 0 → IsWhole row → items ++ lent_cells (row_of_visible (visible_from column left)) ≡ lent_cells row
lent_first items row left column none same at w = (λ i. none i ++ lent_cells (row_of_visible (visible_from (at i) (same i)))) ∙ ap lent_cells (row_again 0 row w)

pub lent_last : (items : List CellContent) (row : Row) (left : List VisibleCell) → left ≡ [] → items ++ lent_cells (row_of_visible left) ≡ lent_cells row → IsWhole row → row_of_cells items ≡ row
lent_last items row left none all w =
    ap row_of_cells (sym (append-nil items) ∙ ap (λ (vs : List VisibleCell). items ++ lent_cells (row_of_visible vs)) (sym none) ∙ all) ∙ row_of_lent row w
