-- Cells side by side: the old cells that are passed, and the new cells that are fresh then.
use Rattle.std.proofs.Common.{◌≡◌, ℕ, zero, suc, ◌+◌, ◌<◌, ◌≤◌, ◌^◌, ◌∙◌, ◌⊎◌, true, false, List, [], ◌∷◌, ◌++◌, length, take, drop, refl, sym, ap, subst, inl, inr, length-append, arith}
use Rattle.std.specs.Prelude.{⊤, ◌&&◌, ◌==◌, nat_lt, nat_le, if◌then◌else◌}
use Rattle.std.specs.Cmp.{unsigned_Decides}
use Rattle.std.proofs.lemmas.Bool.{false≢true, lt-ltb, ltb-true}
use Rattle.std.proofs.lemmas.List.{drop-drop, length-take-le, map-append}
use Rattle.std.proofs.lemmas.List.Sums.{fold-append}
use Rattle.cell_base.specs.Attributes.{Attributes}
use Rattle.cell_base.specs.CellContent.{CellContent}
use Rattle.cell_base.specs.Row.{Narrow, LeftHalf, RightHalf, Row}
use Rattle.cell_base.specs.SameCell.{same_cell, same_cell_decides}
use Rattle.screen_change.proofs.TextLemmas.{by_test}
use Rattle.cell_edits.specs.VisibleCells.{VisibleCell, visible_at, visible_each, visible_from}
use Rattle.cell_base.specs.WholeRow.{IsWhole}
use Rattle.cell_views.specs.CellRefView.{one_or_two, shown_by}
use Rattle.cell_views.specs.declared.cell_ref.CellRef.{CellRef}
use Rattle.cell_views.specs.declared.cell_ref.CellRef.TheVariants.{CellRef as of_cell, ClusterRef as of_cluster}
use Rattle.screen_difference.specs.Drawing.{Drawing, with_all, with_placed}
use Rattle.screen_difference.specs.FreshCells.{PlacedCell, placed}
use Rattle.screen_difference.specs.ShownCells.{begins_with, differing, from_column, passed_fresh, side_by_side, HaveRoom}

pub differs : (a b : ℕ) → (a < b) ⊎ (b < a) → (a == b) ≡ false
differs a b h = by_test (a == b) (λ t. let e = (unsigned_Decides a b).0 t in elim h [ inl p ↦ absurd (omega arith) | inr p ↦ absurd (omega arith) ]) (λ f. f)

-- ---- cells of a text at the start

pub side_each : (at c : ℕ) (text : List ℕ) (a : Attributes) (rest : List VisibleCell) → side_by_side at (visible_each c text a ++ rest) ≡ visible_each at text a ++ side_by_side (at + length text) rest
side_each at c [] a rest = let e : at ≡ at + 0 = omega arith in ap (λ n. side_by_side n rest) e
side_each at c (b ∷ text) a rest =
    let e : at + 1 + length text ≡ at + suc (length text) = omega arith in
    ap (λ (vs : List VisibleCell). visible_at at (b ∷ []) 1 a ∷ vs) (side_each (at + 1) (c + 1) text a rest ∙ ap (λ n. visible_each (at + 1) text a ++ side_by_side n rest) e)

pub room_each : (at c : ℕ) (text : List ℕ) (a : Attributes) (rest : List VisibleCell) → HaveRoom at (visible_each c text a ++ rest) → HaveRoom (at + length text) rest
room_each at c [] a rest p = let e : at ≡ at + 0 = omega arith in subst (λ n. HaveRoom n rest) e p
room_each at c (b ∷ text) a rest p =
    let e : at + 1 + length text ≡ at + suc (length text) = omega arith in
    subst (λ n. HaveRoom n rest) e (room_each (at + 1) (c + 1) text a rest p.1)

pub room_end : (at c : ℕ) (text : List ℕ) (a : Attributes) (rest : List VisibleCell) → 0 < length text → HaveRoom at (visible_each c text a ++ rest) → at + length text < 2 ^ 64
room_end at c [] a rest h p = absurd (omega arith)
room_end at c (b ∷ []) a rest h p = let q = p.0 in omega arith
room_end at c (b ∷ d ∷ text) a rest h p = let q = room_end (at + 1) (c + 1) (d ∷ text) a rest (omega arith) p.1 in omega arith

each_joined : (at n : ℕ) (text : List ℕ) (a : Attributes) → n ≤ length text → visible_each at text a ≡ visible_each at (take n text) a ++ visible_each (at + n) (drop n text) a
each_joined at zero text a h = let e : at ≡ at + 0 = omega arith in ap (λ n. visible_each n text a) e
each_joined at (suc n) [] a h = absurd (omega arith)
each_joined at (suc n) (b ∷ text) a h =
    let e : at + 1 + n ≡ at + suc n = omega arith in
    ap (λ (vs : List VisibleCell). visible_at at (b ∷ []) 1 a ∷ vs) (each_joined (at + 1) n text a (omega arith) ∙ ap (λ k. visible_each (at + 1) (take n text) a ++ visible_each k (drop n text) a) e)

-- ---- cells that are passed

-- the first of the cells begins at a column or after it
abbrev Later : ℕ → List VisibleCell → Type 0
Later k [] = ⊤
Later k (v ∷ cells) = k ≤ v.column

later_side : (k at : ℕ) (cells : List VisibleCell) → k ≤ at → Later k (side_by_side at cells)
later_side k at [] h = tt
later_side k at (v ∷ cells) h = h

later_each : (k at : ℕ) (text : List ℕ) (a : Attributes) → k ≤ at → Later k (visible_each at text a)
later_each k at [] a h = tt
later_each k at (b ∷ text) a h = h

from_later : (k : ℕ) (cells : List VisibleCell) → Later k cells → from_column k cells ≡ cells
from_later k [] h = refl
from_later k (v ∷ cells) h =
    by_test (nat_lt v.column k)
    (λ e. let less = ltb-true v.column k e in absurd (omega arith))
    (λ e. ap (λ t. if t then from_column k cells else v ∷ cells) e)

pub from_side : (k at : ℕ) (cells : List VisibleCell) → k ≤ at → from_column k (side_by_side at cells) ≡ side_by_side at cells
from_side k at cells h = from_later k (side_by_side at cells) (later_side k at cells h)

from_next : (k : ℕ) (v : VisibleCell) (cells : List VisibleCell) → v.column < k → from_column k (v ∷ cells) ≡ from_column k cells
from_next k v cells h = ap (λ t. if t then from_column k cells else v ∷ cells) (lt-ltb v.column k h)

pub from_each : (k at : ℕ) (text : List ℕ) (a : Attributes) (cells : List VisibleCell) → at + length text ≤ k → from_column k (visible_each at text a ++ cells) ≡ from_column k cells
from_each k at [] a cells h = refl
from_each k at (b ∷ text) a cells h = from_next k (visible_at at (b ∷ []) 1 a) (visible_each (at + 1) text a ++ cells) (omega arith) ∙ from_each k (at + 1) text a cells (omega arith)

pub from_twice : (k c : ℕ) (olds : List VisibleCell) → k ≤ c → from_column c (from_column k olds) ≡ from_column c olds
from_twice k c [] h = refl
from_twice k c (o ∷ olds) h =
    by_test (nat_lt o.column k)
    (λ e.
    let less = ltb-true o.column k e in
    ap (λ t. from_column c (if t then from_column k olds else o ∷ olds)) e ∙ from_twice k c olds h ∙ sym (from_next c o olds (omega arith)))
    (λ e. ap (λ t. from_column c (if t then from_column k olds else o ∷ olds)) e)

-- cells before all new ones are of no concern
passed_later : (k : ℕ) (olds news : List VisibleCell) → Later k news → passed_fresh (from_column k olds) news ≡ passed_fresh olds news
passed_later k olds [] h = refl
passed_later k olds (v ∷ news) h =
    ap (λ (rest : List VisibleCell). if begins_with rest v.column v.cell then passed_fresh rest news else v ∷ passed_fresh rest news) (from_twice k v.column olds h)

-- a cell, and those after it
passed_cell : (olds : List VisibleCell) (v : VisibleCell) (news : List VisibleCell) → Later (v.column + 1) news → passed_fresh olds (v ∷ news) ≡ passed_fresh olds (v ∷ []) ++ passed_fresh (from_column (v.column + 1) olds) news
passed_cell olds v news h =
    let rest : List VisibleCell = from_column v.column olds in
    let next : List VisibleCell = passed_fresh (from_column (v.column + 1) olds) news in
    let e : passed_fresh rest news ≡ next = sym (passed_later (v.column + 1) rest news h) ∙ ap (λ (os : List VisibleCell). passed_fresh os news) (from_twice v.column (v.column + 1) olds (omega arith)) in
    elim (begins_with rest v.column v.cell) as (λ t. (if t then passed_fresh rest news else v ∷ passed_fresh rest news) ≡ (if t then [] else v ∷ []) ++ next) [
      | true ↦ e
      | false ↦ ap (λ (vs : List VisibleCell). v ∷ vs) e
    ]

-- cells of a text, and those after it
passed_split : (olds : List VisibleCell) (at : ℕ) (text : List ℕ) (a : Attributes) (m : ℕ) (news : List VisibleCell) → m ≡ at + length text → Later m news
    → passed_fresh olds (visible_each at text a ++ news) ≡ passed_fresh olds (visible_each at text a) ++ passed_fresh (from_column m olds) news
passed_split olds at [] a m news e h = sym (passed_later m olds news h)
passed_split olds at (b ∷ text) a m news e h =
    let v : VisibleCell = visible_at at (b ∷ []) 1 a in
    let rest : List VisibleCell = from_column at olds in
    let remaining : List VisibleCell = visible_each (at + 1) text a in
    let next : List VisibleCell = passed_fresh (from_column m olds) news in
    let on : passed_fresh rest (remaining ++ news) ≡ passed_fresh rest remaining ++ next =
    passed_split rest (at + 1) text a m news (omega arith) h ∙ ap (λ (os : List VisibleCell). passed_fresh rest remaining ++ passed_fresh os news) (from_twice at m olds (omega arith)) in
    elim (begins_with rest at v.cell) as (λ t. (if t then passed_fresh rest (remaining ++ news) else v ∷ passed_fresh rest (remaining ++ news)) ≡ (if t then passed_fresh rest remaining else v ∷ passed_fresh rest remaining) ++ next) [
      | true ↦ on
      | false ↦ ap (λ (vs : List VisibleCell). v ∷ vs) on
    ]

-- ---- a new text before the old cells, and one on an old text

none_there : (at oc : ℕ) (cells : List VisibleCell) (cell : CellContent) → at < oc → begins_with (side_by_side oc cells) at cell ≡ false
none_there at oc [] cell h = refl
none_there at oc (o ∷ cells) cell h = ap (λ t. t && same_cell o.cell cell) (differs oc at (inr h))

all_fresh : (at oc : ℕ) (text : List ℕ) (a : Attributes) (cells : List VisibleCell) → at + length text ≤ oc → passed_fresh (side_by_side oc cells) (visible_each at text a) ≡ visible_each at text a
all_fresh at oc [] a cells h = refl
all_fresh at oc (b ∷ text) a cells h =
    let v : VisibleCell = visible_at at (b ∷ []) 1 a in
    let olds : List VisibleCell = side_by_side oc cells in
    let remaining : List VisibleCell = visible_each (at + 1) text a in
    ap (λ (rest : List VisibleCell). if begins_with rest at v.cell then passed_fresh rest remaining else v ∷ passed_fresh rest remaining) (from_side at oc cells (omega arith))
    ∙ ap (λ t. if t then passed_fresh olds remaining else v ∷ passed_fresh olds remaining) (none_there at oc cells v.cell (omega arith))
    ∙ ap (λ (vs : List VisibleCell). v ∷ vs) (all_fresh (at + 1) oc text a cells (omega arith))

-- a new cell at the column of an old one
on_cell : (at : ℕ) (o v : CellContent) (olds news : List VisibleCell) → Later (at + 1) news
    → passed_fresh (record { column = at; cell = o } ∷ olds) (record { column = at; cell = v } ∷ news) ≡ (if same_cell o v then passed_fresh olds news else record { column = at; cell = v } ∷ passed_fresh olds news)
on_cell at o v olds news h =
    let old : VisibleCell = record { column = at; cell = o } in
    let new : VisibleCell = record { column = at; cell = v } in
    let position : (at == at) ≡ true = (unsigned_Decides at at).1 refl in
    let remaining : passed_fresh (old ∷ olds) news ≡ passed_fresh olds news =
    sym (passed_later (at + 1) (old ∷ olds) news h) ∙ ap (λ (os : List VisibleCell). passed_fresh os news) (from_next (at + 1) old olds (omega arith)) ∙ passed_later (at + 1) olds news h in
    ap (λ (rest : List VisibleCell). if begins_with rest at v then passed_fresh rest news else new ∷ passed_fresh rest news) (from_later at (old ∷ olds) (omega arith))
    ∙ (λ i. if position i && same_cell o v then remaining i else new ∷ remaining i)

abbrev byte_cell : ℕ → Attributes → CellContent
byte_cell b a = record { text = b ∷ []; width = 1; attributes = a }

same_byte : (o b : ℕ) (a : Attributes) → same_cell (byte_cell o a) (byte_cell b a) ≡ (o == b)
same_byte o b a =
    by_test (o == b)
    (λ e. (same_cell_decides (byte_cell o a) (byte_cell b a)).1 (ap (λ x. byte_cell x a) ((unsigned_Decides o b).0 e)) ∙ sym e)
    (λ e. by_test (same_cell (byte_cell o a) (byte_cell b a))
    (λ s. let q : byte_cell o a ≡ byte_cell b a = (same_cell_decides (byte_cell o a) (byte_cell b a)).0 s in
    let same : o ≡ b = cc (ap (λ (c : CellContent). c.text) q) in
    absurd (false≢true (sym e ∙ (unsigned_Decides o b).1 same)))
    (λ s. s ∙ sym e))

other_byte : (o b : ℕ) (c a : Attributes) → (c ≡ a → ⊥) → same_cell (byte_cell o c) (byte_cell b a) ≡ false
other_byte o b c a n = by_test (same_cell (byte_cell o c) (byte_cell b a)) (λ s. absurd (n (ap (λ (x : CellContent). x.attributes) ((same_cell_decides (byte_cell o c) (byte_cell b a)).0 s)))) (λ s. s)

pub text_on_text : (at : ℕ) (olds news : List ℕ) (a : Attributes) (rest : List VisibleCell) → length olds ≡ length news
    → passed_fresh (visible_each at olds a ++ rest) (visible_each at news a) ≡ differing at olds news a
text_on_text at [] [] a rest h = refl
text_on_text at [] (b ∷ news) a rest h = absurd (omega arith)
text_on_text at (o ∷ olds) [] a rest h = refl
text_on_text at (o ∷ olds) (b ∷ news) a rest h =
    on_cell at (byte_cell o a) (byte_cell b a) (visible_each (at + 1) olds a ++ rest) (visible_each (at + 1) news a) (later_each (at + 1) (at + 1) news a (omega arith))
    ∙ (λ i. if same_byte o b a i then text_on_text (at + 1) olds news a rest (omega arith) i else visible_at at (b ∷ []) 1 a ∷ text_on_text (at + 1) olds news a rest (omega arith) i)

pub text_on_other : (at : ℕ) (olds news : List ℕ) (c a : Attributes) (rest : List VisibleCell) → length olds ≡ length news → (c ≡ a → ⊥)
    → passed_fresh (visible_each at olds c ++ rest) (visible_each at news a) ≡ visible_each at news a
text_on_other at [] [] c a rest h n = refl
text_on_other at [] (b ∷ news) c a rest h n = absurd (omega arith)
text_on_other at (o ∷ olds) [] c a rest h n = refl
text_on_other at (o ∷ olds) (b ∷ news) c a rest h n =
    on_cell at (byte_cell o c) (byte_cell b a) (visible_each (at + 1) olds c ++ rest) (visible_each (at + 1) news a) (later_each (at + 1) (at + 1) news a (omega arith))
    ∙ (λ i. if other_byte o b c a n i then text_on_other (at + 1) olds news c a rest (omega arith) n i else visible_at at (b ∷ []) 1 a ∷ text_on_other (at + 1) olds news c a rest (omega arith) n i)

-- ---- a cell that is lent takes a column

pub some_width : (r : CellRef) → 1 ≤ (shown_by r).cell.width
some_width (of_cell column cell) = some_columns cell.now.width
  where
    some_columns : (w : ℕ) → 1 ≤ one_or_two w
    some_columns w = elim (nat_le 2 w) as (λ t. 1 ≤ (if t then 2 else 1)) [ true ↦ omega arith | false ↦ omega arith ]
some_width (of_cluster column text width attributes) = some_columns width
  where
    some_columns : (w : ℕ) → 1 ≤ one_or_two w
    some_columns w = elim (nat_le 2 w) as (λ t. 1 ≤ (if t then 2 else 1)) [ true ↦ omega arith | false ↦ omega arith ]

-- ---- cells of whole rows

pub side_visible : (at bt : ℕ) (row : Row) → IsWhole row → side_by_side bt (visible_from at row) ≡ visible_from bt row
side_visible at bt [] w = refl
side_visible at bt (Narrow t a ∷ row) w = ap (λ (vs : List VisibleCell). visible_at bt t 1 a ∷ vs) (side_visible (at + 1) (bt + 1) row w)
side_visible at bt (RightHalf a ∷ row) w = absurd w
side_visible at bt (LeftHalf t a ∷ []) w = absurd w
side_visible at bt (LeftHalf t a ∷ Narrow u b ∷ row) w = absurd w
side_visible at bt (LeftHalf t a ∷ LeftHalf u b ∷ row) w = absurd w
side_visible at bt (LeftHalf t a ∷ RightHalf b ∷ row) w =
    let e : bt + 2 ≡ bt + 1 + 1 = omega arith in
    ap (λ (vs : List VisibleCell). visible_at bt t 2 a ∷ vs) (side_visible (at + 1 + 1) (bt + 2) row w.1 ∙ ap (λ n. visible_from n row) e)

pub room_visible : (at bt : ℕ) (row : Row) → IsWhole row → bt + length row < 2 ^ 64 → HaveRoom bt (visible_from at row)
room_visible at bt [] w h = tt
room_visible at bt (Narrow t a ∷ row) w h = (omega arith, room_visible (at + 1) (bt + 1) row w (omega arith))
room_visible at bt (RightHalf a ∷ row) w h = absurd w
room_visible at bt (LeftHalf t a ∷ []) w h = absurd w
room_visible at bt (LeftHalf t a ∷ Narrow u b ∷ row) w h = absurd w
room_visible at bt (LeftHalf t a ∷ LeftHalf u b ∷ row) w h = absurd w
room_visible at bt (LeftHalf t a ∷ RightHalf b ∷ row) w h = (omega arith, room_visible (at + 1 + 1) (bt + 2) row w.1 (omega arith))

-- ---- cells that are written in turn

pub written_more : (d : Drawing) (row : ℕ) (xs ys : List VisibleCell) → with_all (with_all d (placed row xs)) (placed row ys) ≡ with_all d (placed row (xs ++ ys))
written_more d row xs ys =
    sym (fold-append with_placed d (placed row xs) (placed row ys))
    ∙ ap (with_all d) (sym (map-append (λ (v : VisibleCell). let c : PlacedCell = record { row = row; column = v.column; cell = v.cell } in c) xs ys))

-- ---- the first cell alone

pub first_begins : (at : ℕ) (v : VisibleCell) (cells : List VisibleCell) (cell : CellContent) → begins_with (side_by_side at (v ∷ cells)) at cell ≡ same_cell v.cell cell
first_begins at v cells cell = ap (λ t. t && same_cell v.cell cell) ((unsigned_Decides at at).1 refl)

pub first_passed : (at : ℕ) (v : VisibleCell) (cells : List VisibleCell) → 1 ≤ v.cell.width → from_column (at + 1) (side_by_side at (v ∷ cells)) ≡ side_by_side (at + v.cell.width) cells
first_passed at v cells h = from_next (at + 1) (record v { column = at }) (side_by_side (at + v.cell.width) cells) (omega arith) ∙ from_side (at + 1) (at + v.cell.width) cells (omega arith)

-- ---- the cells that a step passes, by where the remaining ones begin

pub none_begins : (at oc : ℕ) (olds cells : List VisibleCell) (cell : CellContent) → side_by_side oc cells ≡ from_column at olds → at < oc → false ≡ begins_with (from_column at olds) at cell
none_begins at oc olds cells cell e h = sym (none_there at oc cells cell h) ∙ ap (λ (os : List VisibleCell). begins_with os at cell) e

pub gap_passed : (at to oc : ℕ) (olds cells : List VisibleCell) → side_by_side oc cells ≡ from_column at olds → at ≤ to → to ≤ oc → side_by_side oc cells ≡ from_column to olds
gap_passed at to oc olds cells e h k = sym (from_side to oc cells k) ∙ ap (from_column to) e ∙ from_twice at to olds h

pub on_passed : (at to oc n : ℕ) (olds cells news : List VisibleCell) → side_by_side oc cells ≡ from_column at olds → at ≤ to → oc + n ≡ to → news ≡ from_column (oc + n) (side_by_side oc cells) → news ≡ from_column to olds
on_passed at to oc n olds cells news e h k p = p ∙ (λ i. from_column (k i) (e i)) ∙ from_twice at to olds h

-- ---- steps of the walk, and the cells that they write

-- the cells of a text's prefix, and then those after it
prefix_written : (d next : Drawing) (row : ℕ) (olds left : List VisibleCell) (at n : ℕ) (text : List ℕ) (a : Attributes) → n ≤ length text
    → next ≡ with_all d (placed row (passed_fresh olds (visible_each at (take n text) a))) → left ≡ from_column (at + n) olds
    → with_all next (placed row (passed_fresh left (visible_each (at + n) (drop n text) a))) ≡ with_all d (placed row (passed_fresh olds (visible_each at text a)))
prefix_written d next row olds left at n text a h e p =
    let prefix : List VisibleCell = visible_each at (take n text) a in
    let after : List VisibleCell = visible_each (at + n) (drop n text) a in
    let count = length-take-le n text h in
    (λ i. with_all (e i) (placed row (passed_fresh (p i) after)))
    ∙ written_more d row (passed_fresh olds prefix) (passed_fresh (from_column (at + n) olds) after)
    ∙ ap (λ (vs : List VisibleCell). with_all d (placed row vs)) (sym (ap (passed_fresh olds) (each_joined at n text a h) ∙ passed_split olds at (take n text) a (at + n) after (omega arith) (later_each (at + n) (at + n) (drop n text) a (omega arith))))

pub text_written : (d next : Drawing) (row : ℕ) (olds left cells rest : List VisibleCell) (at c : ℕ) (text : List ℕ) (a : Attributes)
    → cells ≡ visible_each c text a ++ rest
    → next ≡ with_all d (placed row (passed_fresh olds (visible_each at text a))) → from_column (at + length text) left ≡ from_column (at + length text) olds
    → with_all next (placed row (passed_fresh left (side_by_side (at + length text) rest))) ≡ with_all d (placed row (passed_fresh olds (side_by_side at cells)))
text_written d next row olds left cells rest at c text a g e p =
    let to = at + length text in
    let prefix : List VisibleCell = visible_each at text a in
    let after : List VisibleCell = side_by_side to rest in
    let later : Later to after = later_side to to rest (omega arith) in
    (λ i. with_all (e i) (placed row ((sym (passed_later to left after later) ∙ ap (λ (os : List VisibleCell). passed_fresh os after) p) i)))
    ∙ written_more d row (passed_fresh olds prefix) (passed_fresh (from_column to olds) after)
    ∙ ap (λ (vs : List VisibleCell). with_all d (placed row vs)) (sym (ap (λ (vs : List VisibleCell). passed_fresh olds (side_by_side at vs)) g ∙ ap (passed_fresh olds) (side_each at c text a rest) ∙ passed_split olds at text a to after (omega arith) later))

pub cell_written : (d next : Drawing) (row : ℕ) (olds left cells rest : List VisibleCell) (at n : ℕ) (v : VisibleCell) → 1 ≤ v.cell.width → n ≡ v.cell.width
    → cells ≡ v ∷ rest
    → next ≡ with_all d (placed row (passed_fresh olds (record v { column = at } ∷ []))) → left ≡ from_column (at + 1) olds
    → with_all next (placed row (passed_fresh left (side_by_side (at + n) rest))) ≡ with_all d (placed row (passed_fresh olds (side_by_side at cells)))
cell_written d next row olds left cells rest at n v h w g e p =
    let there : VisibleCell = record v { column = at } in
    let after : List VisibleCell = side_by_side (at + v.cell.width) rest in
    (λ i. with_all (e i) (placed row (passed_fresh (p i) (side_by_side (at + w i) rest))))
    ∙ written_more d row (passed_fresh olds (there ∷ [])) (passed_fresh (from_column (at + 1) olds) after)
    ∙ ap (λ (vs : List VisibleCell). with_all d (placed row vs)) (sym (ap (λ (vs : List VisibleCell). passed_fresh olds (side_by_side at vs)) g ∙ passed_cell olds there after (later_side (at + 1) (at + v.cell.width) rest (omega arith))))

-- a text before the old cells that are left
pub gap_fresh : (at oc : ℕ) (olds cells : List VisibleCell) (text : List ℕ) (a : Attributes) → side_by_side oc cells ≡ from_column at olds → at + length text ≤ oc → passed_fresh olds (visible_each at text a) ≡ visible_each at text a
gap_fresh at oc olds cells text a e h =
    sym (passed_later at olds (visible_each at text a) (later_each at at text a (omega arith))) ∙ ap (λ (os : List VisibleCell). passed_fresh os (visible_each at text a)) (sym e) ∙ all_fresh at oc text a cells h

-- a text on the cells that are left
pub left_fresh : (at : ℕ) (olds left : List VisibleCell) (text : List ℕ) (a : Attributes) → left ≡ from_column at olds → passed_fresh left (visible_each at text a) ≡ passed_fresh olds (visible_each at text a)
left_fresh at olds left text a e = ap (λ (os : List VisibleCell). passed_fresh os (visible_each at text a)) e ∙ passed_later at olds (visible_each at text a) (later_each at at text a (omega arith))

-- the cells of a text at the start of the old cells are passed
pub run_passed : (at oc to : ℕ) (olds cells : List VisibleCell) (text : List ℕ) (a : Attributes) → olds ≡ visible_each at text a ++ side_by_side oc cells → at + length text ≤ to → to ≤ oc → side_by_side oc cells ≡ from_column to olds
run_passed at oc to olds cells text a e h k = sym (ap (from_column to) e ∙ from_each to at text a (side_by_side oc cells) h ∙ from_side to oc cells k)

-- the next ones of a text's cells, and then those after them
pub next_written : (d next : Drawing) (row : ℕ) (olds left : List VisibleCell) (column at n : ℕ) (text part : List ℕ) (a : Attributes) → part ≡ drop at text → n ≤ length part
    → next ≡ with_all d (placed row (passed_fresh olds (visible_each (column + at) (take n part) a))) → left ≡ from_column (column + at + n) olds
    → with_all next (placed row (passed_fresh left (visible_each (column + (at + n)) (drop (at + n) text) a))) ≡ with_all d (placed row (passed_fresh olds (visible_each (column + at) (drop at text) a)))
next_written d next row olds left column at n text part a g h e p =
    let position : column + (at + n) ≡ column + at + n = omega arith in
    let rest : drop (at + n) text ≡ drop n part = sym (ap (drop n) g ∙ drop-drop n at text) in
    (λ i. with_all next (placed row (passed_fresh left (visible_each (position i) (rest i) a))))
    ∙ prefix_written d next row olds left (column + at) n part a h e p
    ∙ ap (λ (t : List ℕ). with_all d (placed row (passed_fresh olds (visible_each (column + at) t a)))) g

-- a text's cells are some
pub fewer_each : (c : ℕ) (text : List ℕ) (a : Attributes) (cells rest : List VisibleCell) → cells ≡ visible_each c text a ++ rest → 0 < length text → length rest < length cells
fewer_each c [] a cells rest e h = absurd (omega arith)
fewer_each c (b ∷ text) a cells rest e h =
    let all = ap length e in
    let prefix = length-append (visible_each (c + 1) text a) rest in
    omega arith
