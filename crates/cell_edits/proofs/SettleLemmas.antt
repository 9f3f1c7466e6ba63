-- Cells that become the ones that are shown in their columns, from the left.
use Rattle.std.proofs.Common.{◌≡◌, ℕ, zero, suc, ◌+◌, ◌≤◌, ◌<◌, true, false, List, [], ◌∷◌, ◌++◌, length, get_or, take, drop, set, refl, sym, ap, ◌∙◌, subst, append_assoc, arith}
use Rattle.std.proofs.lemmas.List.{take_more, take_more_set, take_all, take-append-drop, drop-set-lt, drop_all, length-set}
use Rattle.std.proofs.lemmas.Bool.{ltb-true, ltb-false}
use Rattle.std.specs.Prelude.{nat_le, nat_lt, if◌then◌else◌}
use Rattle.cell_base.specs.CellContent.{CellContent, blank_cell, row_of_cells}
use Rattle.cell_base.specs.Row.{Row}
use Rattle.cell_edits.specs.CellList.{ends_split}
use Rattle.cell_edits.specs.ShownCells.{lent_cells}
use Rattle.cell_edits.proofs.CellLemmas.{by_test, wide_is, narrow_is, row_wide, split_wide, split_joined, row_joined}
use Rattle.cell_edits.proofs.CutLemmas.{row_narrow_any}

-- the first `at` cells are settled: followed by the lent cells of the remaining ones, they are the lent cells of the whole row
pub record IsSettled (at : ℕ) (now old : List CellContent) : Type 0 where
  pub whole : ends_split (take at now) ≡ false
  pub row : row_of_cells now ≡ row_of_cells old
  pub same : take at now ++ lent_cells (row_of_cells (drop at now)) ≡ lent_cells (row_of_cells old)

-- the list from a position on is its item there and the list from the next position on
from_position : {X : Type 0} (xs : List X) (p : ℕ) (d : X) → p < length xs → drop p xs ≡ get_or xs p d ∷ drop (suc p) xs
from_position [] p d l = absurd (omega arith)
from_position (x ∷ xs) zero d l = refl
from_position (x ∷ xs) (suc p) d l = from_position xs p d (omega arith)

abbrev with_width : CellContent → ℕ → CellContent
with_width c n = record { text = c.text; width = n; attributes = c.attributes }

shown_narrow : (c : CellContent) (cs : List CellContent) → nat_le 2 c.width ≡ false → c.width ≡ 1 → lent_cells (row_of_cells (c ∷ cs)) ≡ c ∷ lent_cells (row_of_cells cs)
shown_narrow c cs e one = ap lent_cells (row_narrow_any c cs e) ∙ ap (λ (n : ℕ). with_width c n ∷ lent_cells (row_of_cells cs)) (sym one)

shown_wide : (c n : CellContent) (cs : List CellContent) → nat_le 2 c.width ≡ true → c.width ≡ 2 → lent_cells (row_of_cells (c ∷ n ∷ cs)) ≡ c ∷ blank_cell c.attributes ∷ lent_cells (row_of_cells cs)
shown_wide c n cs e two = ap lent_cells (row_wide c n cs e) ∙ ap (λ (m : ℕ). with_width c m ∷ blank_cell c.attributes ∷ lent_cells (row_of_cells cs)) (sym two)

shown_last : (c : CellContent) → nat_le 2 c.width ≡ true → row_of_cells (c ∷ []) ≡ row_of_cells (blank_cell c.attributes ∷ [])
shown_last c e = rw e refl

pub settled_narrow : (old xs : List CellContent) (p : ℕ) (d : CellContent) → p < length xs → 1 ≤ (get_or xs p d).width → (get_or xs p d).width < 2 → IsSettled p xs old → IsSettled (p + 1) xs old
settled_narrow old xs p d l some w s =
    let c : CellContent = get_or xs p d in
    let cs : List CellContent = drop (suc p) xs in
    let e : nat_le 2 c.width ≡ false = narrow_is c.width w in
    let on : p + 1 ≡ suc p = omega arith in
    let prefix : take (p + 1) xs ≡ take p xs ++ c ∷ [] = take_more xs p d l in
    let shown : lent_cells (row_of_cells (drop p xs)) ≡ c ∷ lent_cells (row_of_cells cs) = ap (λ (ys : List CellContent). lent_cells (row_of_cells ys)) (from_position xs p d l) ∙ shown_narrow c cs e (omega arith) in
    record {
      whole = ap ends_split prefix ∙ split_joined (take p xs) (c ∷ []) s.whole ∙ e;
      row = s.row;
      same = (λ i. prefix i ++ lent_cells (row_of_cells (drop (on i) xs))) ∙ append_assoc (take p xs) (c ∷ []) (lent_cells (row_of_cells cs)) ∙ ap (λ (ys : List CellContent). take p xs ++ ys) (sym shown) ∙ s.same;
    }

pub settled_wide : (old xs : List CellContent) (p : ℕ) (d : CellContent) → p + 1 < length xs → 2 ≤ (get_or xs p d).width → (get_or xs p d).width ≤ 2 → IsSettled p xs old
    → IsSettled (p + 1 + 1) (set xs (p + 1) (blank_cell (get_or xs p d).attributes)) old
settled_wide old xs p d l w most s =
    let c : CellContent = get_or xs p d in
    let n : CellContent = get_or xs (suc p) d in
    let b : CellContent = blank_cell c.attributes in
    let cs : List CellContent = drop (suc (suc p)) xs in
    let new : List CellContent = set xs (p + 1) b in
    let e : nat_le 2 c.width ≡ true = wide_is c.width w in
    let on : p + 1 + 1 ≡ suc (suc p) = omega arith in
    let prefix : take (p + 1 + 1) new ≡ take p xs ++ c ∷ b ∷ [] =
    take_more_set xs (p + 1) b l ∙ ap (λ (ys : List CellContent). ys ++ b ∷ []) (take_more xs p d (omega arith)) ∙ append_assoc (take p xs) (c ∷ []) (b ∷ []) in
    let back : drop (p + 1 + 1) new ≡ cs = drop-set-lt (p + 1 + 1) xs (p + 1) b (omega arith) ∙ ap (λ m. drop m xs) on in
    let left : drop p xs ≡ c ∷ n ∷ cs = from_position xs p d (omega arith) ∙ ap (λ (ys : List CellContent). c ∷ ys) (from_position xs (suc p) d (omega arith)) in
    let shown : lent_cells (row_of_cells (drop p xs)) ≡ c ∷ b ∷ lent_cells (row_of_cells cs) = ap (λ (ys : List CellContent). lent_cells (row_of_cells ys)) left ∙ shown_wide c n cs e (omega arith) in
    let before : xs ≡ take p xs ++ c ∷ n ∷ cs = sym (take-append-drop p xs) ∙ ap (λ (ys : List CellContent). take p xs ++ ys) left in
    let after : new ≡ take p xs ++ c ∷ b ∷ cs = sym (take-append-drop (p + 1 + 1) new) ∙ (λ i. prefix i ++ back i) ∙ append_assoc (take p xs) (c ∷ b ∷ []) cs in
    record {
      whole = ap ends_split prefix ∙ split_joined (take p xs) (c ∷ b ∷ []) s.whole ∙ split_wide c b [] e;
      row = ap row_of_cells after ∙ row_joined (take p xs) (c ∷ b ∷ cs) s.whole ∙ ap (λ (r : Row). row_of_cells (take p xs) ++ r) (row_wide c b cs e ∙ sym (row_wide c n cs e))
          ∙ sym (row_joined (take p xs) (c ∷ n ∷ cs) s.whole) ∙ sym (ap row_of_cells before) ∙ s.row;
      same = (λ i. prefix i ++ lent_cells (row_of_cells (back i))) ∙ append_assoc (take p xs) (c ∷ b ∷ []) (lent_cells (row_of_cells cs)) ∙ ap (λ (ys : List CellContent). take p xs ++ ys) (sym shown) ∙ s.same;
    }

pub settled_last : (old xs : List CellContent) (p : ℕ) (d : CellContent) → length xs ≡ p + 1 → 2 ≤ (get_or xs p d).width → IsSettled p xs old
    → IsSettled (p + 1 + 1) (set xs p (blank_cell (get_or xs p d).attributes)) old
settled_last old xs p d l w s =
    let c : CellContent = get_or xs p d in
    let b : CellContent = blank_cell c.attributes in
    let new : List CellContent = set xs p b in
    let e : nat_le 2 c.width ≡ true = wide_is c.width w in
    let long : length new ≡ p + 1 = length-set xs p b ∙ l in
    let all : new ≡ take p xs ++ b ∷ [] = sym (take_all (p + 1) new (omega arith)) ∙ take_more_set xs p b (omega arith) in
    let prefix : take (p + 1 + 1) new ≡ take p xs ++ b ∷ [] = take_all (p + 1 + 1) new (omega arith) ∙ all in
    let none : drop (p + 1 + 1) new ≡ [] = drop_all (p + 1 + 1) new (omega arith) in
    let left : drop p xs ≡ c ∷ [] = from_position xs p d (omega arith) ∙ ap (λ (ys : List CellContent). c ∷ ys) (drop_all (suc p) xs (omega arith)) in
    let before : xs ≡ take p xs ++ c ∷ [] = sym (take-append-drop p xs) ∙ ap (λ (ys : List CellContent). take p xs ++ ys) left in
    record {
      whole = ap ends_split prefix ∙ split_joined (take p xs) (b ∷ []) s.whole;
      row = ap row_of_cells all ∙ row_joined (take p xs) (b ∷ []) s.whole ∙ ap (λ (r : Row). row_of_cells (take p xs) ++ r) (sym (shown_last c e))
          ∙ sym (row_joined (take p xs) (c ∷ []) s.whole) ∙ sym (ap row_of_cells before) ∙ s.row;
      same = (λ i. prefix i ++ lent_cells (row_of_cells (none i))) ∙ append_assoc (take p xs) (b ∷ []) [] ∙ ap (λ (ys : List CellContent). take p xs ++ ys) (sym (ap (λ (ys : List CellContent). lent_cells (row_of_cells ys)) left ∙ ap lent_cells (shown_last c e))) ∙ s.same;
    }

-- the blank is put after the wide cell, or takes the place of it where it is the last cell
pub settled_put : (old xs : List CellContent) (p n : ℕ) (d : CellContent) → n ≡ length xs → p < length xs → 2 ≤ (get_or xs p d).width → (get_or xs p d).width ≤ 2 → IsSettled p xs old
    → IsSettled (p + 1 + 1) (set xs (if nat_lt (p + 1) n then p + 1 else p) (blank_cell (get_or xs p d).attributes)) old
settled_put old xs p n d long l w most s =
    let b : CellContent = blank_cell (get_or xs p d).attributes in
    by_test (nat_lt (p + 1) n)
    (λ e. subst (λ t. IsSettled (p + 1 + 1) (set xs (if t then p + 1 else p) b) old) (sym e) (settled_wide old xs p d (omega (arith, ltb-true (p + 1) n e)) w most s))
    (λ e. subst (λ t. IsSettled (p + 1 + 1) (set xs (if t then p + 1 else p) b) old) (sym e) (settled_last old xs p d (omega (arith, ltb-false (p + 1) n e)) w s))
