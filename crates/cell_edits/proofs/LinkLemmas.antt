-- Attributes of every cell changed.
use Rattle.std.proofs.Common.{◌≡◌, ℕ, zero, suc, ◌+◌, ◌<◌, List, [], ◌∷◌, ◌++◌, length, get_or, take, drop, set, refl, sym, ap, ◌∙◌, arith}
use Rattle.std.proofs.lemmas.List.{take_more, take_more_set, drop-set-lt, drop-drop, take-append-le, take_all}
use Rattle.std.specs.Global.{Vec}
use Rattle.std.specs.Vec.{with_items}
use Rattle.std.specs.Prelude.{nat_le, map}
use Rattle.cell_base.specs.CellContent.{CellContent, row_of_cells}
use Rattle.cell_base.specs.Row.{Narrow, LeftHalf, RightHalf, Row}
use Rattle.cell_edits.specs.Links.{without_implicit, column_with, cell_without_implicit}
use Rattle.cell_edits.proofs.CellLemmas.{by_test, row_wide, row_narrow}
use Rattle.cell_edits.proofs.CutLemmas.{row_narrow_any}

pub row_without : (cells : List CellContent) → row_of_cells (map cell_without_implicit cells) ≡ map (column_with without_implicit) (row_of_cells cells)
row_without [] = refl
row_without (c ∷ []) = by_test (nat_le 2 c.width) (λ e. rw e refl) (λ e. rw e refl)
row_without (c ∷ n ∷ cs) = by_test (nat_le 2 c.width)
    (λ e.
    row_wide (cell_without_implicit c) (cell_without_implicit n) (map cell_without_implicit cs) e
    ∙ ap (λ (r : Row). LeftHalf c.text (without_implicit c.attributes) ∷ RightHalf (without_implicit c.attributes) ∷ r) (row_without cs)
    ∙ sym (ap (map (column_with without_implicit)) (row_wide c n cs e)))
    (λ e.
    row_narrow_any (cell_without_implicit c) (map cell_without_implicit (n ∷ cs)) e
    ∙ ap (λ (r : Row). Narrow c.text (without_implicit c.attributes) ∷ r) (row_without (n ∷ cs))
    ∙ sym (ap (map (column_with without_implicit)) (row_narrow c n cs e)))

-- ---- a loop that changes each element

head_of_drop : {X : Type 0} (i : ℕ) (xs : List X) (d : X) → get_or (drop i xs) 0 d ≡ get_or xs i d
head_of_drop zero xs d = refl
head_of_drop (suc i) [] d = refl
head_of_drop (suc i) (x ∷ xs) d = head_of_drop i xs d

map_last : {X Y : Type 0} (f : X → Y) (xs : List X) (x : X) → map f (xs ++ x ∷ []) ≡ map f xs ++ f x ∷ []
map_last f [] x = refl
map_last f (y ∷ xs) x = ap (λ ys. f y ∷ ys) (map_last f xs x)

pub mapped_done : {X : Type 0} (f : X → X) (old now : List X) (i : ℕ) (x d : X) → i < length now → length now ≡ length old → take i now ≡ map f (take i old) → drop i now ≡ drop i old → x ≡ f (get_or now i d)
    → take (i + 1) (set now i x) ≡ map f (take (i + 1) old)
mapped_done {X} f old now i x d l n t r e =
    let same : get_or now i d ≡ get_or old i d = sym (head_of_drop i now d) ∙ ap (λ (xs : List X). get_or xs 0 d) r ∙ head_of_drop i old d in
    take_more_set now i x l ∙ (λ j. t j ++ (e ∙ ap f same) j ∷ []) ∙ sym (map_last f (take i old) (get_or old i d)) ∙ ap (map f) (sym (take_more old i d (omega arith)))

pub mapped_rest : {X : Type 0} (old now : List X) (i : ℕ) (x : X) → drop i now ≡ drop i old → drop (i + 1) (set now i x) ≡ drop (i + 1) old
mapped_rest old now i x r =
    drop-set-lt (i + 1) now i x (omega arith) ∙ sym (drop-drop 1 i now) ∙ ap (drop 1) r ∙ drop-drop 1 i old

-- a vector whose items were written through a slice
pub written : {X : Type 0} (v : Vec X) (ws : List X) → length ws ≡ length v.items → (with_items v ws).items ≡ ws
written v ws e =
    let n : v.len ≡ length v.items = v.ok.0 in
    take-append-le v.len ws (drop (length ws) v.items) (omega arith) ∙ take_all v.len ws (omega arith)
