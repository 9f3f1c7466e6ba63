-- Fresh cells that are drawn in a row.
use Rattle.std.proofs.Common.{◌≡◌, ℕ, ◌+◌, ◌-◌, ◌<◌, ◌≤◌, ◌∙◌, ◌⊎◌, Bool, true, false, List, [], ◌∷◌, ◌++◌, length, drop, refl, sym, ap, subst, inl, inr, arith, append_assoc, length-append}
use Rattle.std.specs.Prelude.{⊤, ◌==◌, ◌&&◌, ◌||◌, not, filter, fold, if◌then◌else◌}
use Rattle.std.proofs.lemmas.Bool.{false≢true, and_parts}
use Rattle.std.proofs.lemmas.List.{take_at}
use Rattle.std.proofs.Math.Seq.{drop-append-add}
use Rattle.cell_base.specs.Attributes.{Attributes}
use Rattle.cell_base.specs.CellContent.{CellContent}
use Rattle.cell_base.specs.Row.{Column, Narrow, LeftHalf, RightHalf, Row, closed_end, closed_start, set_columns}
use Rattle.cell_base.specs.SameCell.{same_cell, same_cell_decides}
use Rattle.screen_change.proofs.TextLemmas.{by_test}
use Rattle.cell_edits.specs.CellList.{cell_columns}
use Rattle.cell_edits.specs.VisibleCells.{VisibleCell, visible_at, visible_from}
use Rattle.cell_views.proofs.KeptLemmas.{in_order}
use Rattle.cell_base.specs.WholeRow.{IsWhole}
use Rattle.cell_base.proofs.RowLemmas.{length-closed_start, whole_ends, whole-append, whole-after}
use Rattle.screen_difference.specs.FreshCells.{fresh, is_shown}
use Rattle.screen_difference.proofs.FreshLemmas.{none_later, not_here, or_false}

-- ---- cells that the old columns show

same_is : (a b : CellContent) → same_cell a b ≡ true → a ≡ b
same_is a b e = (same_cell_decides a b).0 e

-- only the first of the cells from a column on can be shown there
only_first : (at : ℕ) (o v : VisibleCell) (row : Row) → v.column ≡ at → is_shown (o ∷ visible_from (at + 1) row) v ≡ true → o.cell ≡ v.cell
only_first at o v row c e =
    let later : is_shown (visible_from (at + 1) row) v ≡ false = none_later (at + 1) (visible_from (at + 1) row) v (omega arith) (in_order (at + 1) row) in
    let here : (o.column == v.column && same_cell o.cell v.cell) ≡ true = sym (or_false (o.column == v.column && same_cell o.cell v.cell)) ∙ ap (λ b. (o.column == v.column && same_cell o.cell v.cell) || b) (sym later) ∙ e in
    same_is o.cell v.cell (and_parts (o.column == v.column) (same_cell o.cell v.cell) here).1

-- a narrow cell that the old row shows is its column there
shows_narrow : (at : ℕ) (t : List ℕ) (a : Attributes) (x : Column) (row : Row) → is_shown (visible_from at (x ∷ row)) (visible_at at t 1 a) ≡ true → x ≡ Narrow t a
shows_narrow at t a (Narrow u b) row e =
    let is = only_first at (visible_at at u 1 b) (visible_at at t 1 a) row refl e in
    λ i. Narrow (is i).text (is i).attributes
shows_narrow at t a (LeftHalf u b) row e =
    let is = only_first at (visible_at at u 2 b) (visible_at at t 1 a) row refl e in
    let width = ap (λ (c : CellContent). c.width) is in
    absurd (omega arith)
shows_narrow at t a (RightHalf b) row e =
    absurd (false≢true (sym (none_later (at + 1) (visible_from (at + 1) row) (visible_at at t 1 a) (omega arith) (in_order (at + 1) row)) ∙ e))

shows_wide : (at : ℕ) (t : List ℕ) (a : Attributes) (x : Column) (row : Row) → is_shown (visible_from at (x ∷ row)) (visible_at at t 2 a) ≡ true → x ≡ LeftHalf t a
shows_wide at t a (Narrow u b) row e =
    let is = only_first at (visible_at at u 1 b) (visible_at at t 2 a) row refl e in
    let width = ap (λ (c : CellContent). c.width) is in
    absurd (omega arith)
shows_wide at t a (LeftHalf u b) row e =
    let is = only_first at (visible_at at u 2 b) (visible_at at t 2 a) row refl e in
    λ i. LeftHalf (is i).text (is i).attributes
shows_wide at t a (RightHalf b) row e =
    absurd (false≢true (sym (none_later (at + 1) (visible_from (at + 1) row) (visible_at at t 2 a) (omega arith) (in_order (at + 1) row)) ∙ e))

-- cells before a column are of no concern from it on
one_after : (at : ℕ) (x : Column) (row : Row) (v : VisibleCell) → at < v.column → is_shown (visible_from at (x ∷ row)) v ≡ is_shown (visible_from (at + 1) row) v
one_after at (Narrow t a) row v h = not_here (visible_at at t 1 a) (visible_from (at + 1) row) v (inl h)
one_after at (LeftHalf t a) row v h = not_here (visible_at at t 2 a) (visible_from (at + 1) row) v (inl h)
one_after at (RightHalf a) row v h = refl

-- ---- old columns that equal the new ones, except where a cell is drawn

-- the cell that begins in a column is drawn, or the old column is the same
abbrev Agrees : (VisibleCell → Bool) → ℕ → Column → Column → Type 0
Agrees draws at (Narrow t a) x = (draws (visible_at at t 1 a) ≡ true) ⊎ (x ≡ Narrow t a)
Agrees draws at (LeftHalf t a) x = (draws (visible_at at t 2 a) ≡ true) ⊎ (x ≡ LeftHalf t a)
Agrees draws at (RightHalf a) x = ⊤

abbrev AllAgree : (VisibleCell → Bool) → ℕ → Row → Row → Type 0
AllAgree draws at [] olds = ⊤
AllAgree draws at (n ∷ news) [] = ⊥
AllAgree draws at (n ∷ news) (x ∷ olds) = Agrees draws at n x × AllAgree draws (at + 1) news olds

decided : (at : ℕ) (b : Bool) (P : Type 0) → (b ≡ true → P) → (not b ≡ true) ⊎ P
decided at true P f = inr (f refl)
decided at false P f = inl refl

-- the columns agree, if the fresh cells are drawn
all_agree : (at : ℕ) (all : List VisibleCell) (news olds : Row) → length news ≡ length olds → ((v : VisibleCell) → at ≤ v.column → is_shown all v ≡ is_shown (visible_from at olds) v) → AllAgree (λ v. not (is_shown all v)) at news olds
all_agree at all [] olds e same = tt
all_agree at all (n ∷ news) [] e same = absurd (omega arith)
all_agree at all (n ∷ news) (x ∷ olds) e same =
    (agrees n, all_agree (at + 1) all news olds (omega arith) (λ v h. same v (omega arith) ∙ one_after at x olds v (omega arith)))
  where
    agrees : (m : Column) → Agrees (λ v. not (is_shown all v)) at m x
    agrees (Narrow t a) = decided at (is_shown all (visible_at at t 1 a)) (x ≡ Narrow t a) (λ f. shows_narrow at t a x olds (sym (same (visible_at at t 1 a) (omega arith)) ∙ f))
    agrees (LeftHalf t a) = decided at (is_shown all (visible_at at t 2 a)) (x ≡ LeftHalf t a) (λ f. shows_wide at t a x olds (sym (same (visible_at at t 2 a) (omega arith)) ∙ f))
    agrees (RightHalf a) = tt

narrow_right : (t : List ℕ) (a b : Attributes) → RightHalf a ≡ Narrow t b → ⊥
narrow_right t a b e = cc

wide_right : (t : List ℕ) (a b : Attributes) → RightHalf a ≡ LeftHalf t b → ⊥
wide_right t a b e = cc

-- a half at the start that was left alone is no cell of theirs
still_agree : (draws : VisibleCell → Bool) (at : ℕ) (news olds : Row) → IsWhole news → AllAgree draws at news olds → AllAgree draws at news (closed_start olds)
still_agree draws at [] olds w p = tt
still_agree draws at (n ∷ news) [] w p = p
still_agree draws at (n ∷ news) (Narrow t a ∷ olds) w p = p
still_agree draws at (n ∷ news) (LeftHalf t a ∷ olds) w p = p
still_agree draws at (Narrow u b ∷ news) (RightHalf a ∷ olds) w p = (other p.0, p.1)
  where
    other : (draws (visible_at at u 1 b) ≡ true) ⊎ (RightHalf a ≡ Narrow u b) → Agrees draws at (Narrow u b) (Narrow (32 ∷ []) a)
    other (inl d) = inl d
    other (inr e) = absurd (narrow_right u a b e)
still_agree draws at (LeftHalf u b ∷ news) (RightHalf a ∷ olds) w p = (other p.0, p.1)
  where
    other : (draws (visible_at at u 2 b) ≡ true) ⊎ (RightHalf a ≡ LeftHalf u b) → Agrees draws at (LeftHalf u b) (Narrow (32 ∷ []) a)
    other (inl d) = inl d
    other (inr e) = absurd (wide_right u a b e)
still_agree draws at (RightHalf b ∷ news) (RightHalf a ∷ olds) w p = absurd w

-- ---- cells that are drawn from the left

abbrev set_cell : ℕ → Row → VisibleCell → Row
set_cell x row v = set_columns row (v.column - x) (cell_columns v.cell)

-- columns after whole ones are set
set_there : (done olds cols : Row) (at : ℕ) → at ≡ length done → IsWhole done → set_columns (done ++ olds) at cols ≡ (done ++ cols) ++ closed_start (drop (length cols) olds)
set_there done olds cols at e w =
    ap (λ n. set_columns (done ++ olds) n cols) e
    ∙ (λ i. (closed_end (take_at done olds (length done) refl i) ++ cols) ++ closed_start (drop-append-add done olds (length cols) i))
    ∙ ap (λ (r : Row). (r ++ cols) ++ closed_start (drop (length cols) olds)) (whole_ends done w)

whole_one : (t : List ℕ) (a : Attributes) (done : Row) → IsWhole done → IsWhole (done ++ Narrow t a ∷ [])
whole_one t a done w = whole-append done (Narrow t a ∷ []) w tt

whole_two : (t : List ℕ) (a b : Attributes) (done : Row) → b ≡ a → IsWhole done → IsWhole (done ++ LeftHalf t a ∷ RightHalf b ∷ [])
whole_two t a b done e w = whole-append done (LeftHalf t a ∷ RightHalf b ∷ []) w (e, tt)

draw_first : (x : ℕ) (draws : VisibleCell → Bool) (v : VisibleCell) (vs : List VisibleCell) (row : Row) → draws v ≡ true → fold (set_cell x) row (filter draws (v ∷ vs)) ≡ fold (set_cell x) (set_cell x row v) (filter draws vs)
draw_first x draws v vs row e = ap (λ b. fold (set_cell x) row (if b then v ∷ filter draws vs else filter draws vs)) e

skip_first : (x : ℕ) (draws : VisibleCell → Bool) (v : VisibleCell) (vs : List VisibleCell) (row : Row) → draws v ≡ false → fold (set_cell x) row (filter draws (v ∷ vs)) ≡ fold (set_cell x) row (filter draws vs)
skip_first x draws v vs row e = ap (λ b. fold (set_cell x) row (if b then v ∷ filter draws vs else filter draws vs)) e

not_drawn : {b : Bool} {P : Type 0} → b ≡ false → (b ≡ true) ⊎ P → P
not_drawn f (inl t) = absurd (false≢true (sym f ∙ t))
not_drawn f (inr p) = p

-- in a whole row the right half comes after a left half
pair_of : (t : List ℕ) (a : Attributes) (z : Column) (olds : Row) → IsWhole (LeftHalf t a ∷ z ∷ olds) → (z ≡ RightHalf a) × IsWhole olds
pair_of t a (Narrow u b) olds w = absurd w
pair_of t a (LeftHalf u b) olds w = absurd w
pair_of t a (RightHalf b) olds w = (ap RightHalf w.0, w.1)

-- ---- the new columns, one after the other

-- drawing the chosen cells turns the old columns into the new ones: the other cells are there already
drawn_all : (x at : ℕ) (draws : VisibleCell → Bool) (done news olds : Row) → at ≡ x + length done → IsWhole done → IsWhole news → IsWhole olds → length news ≡ length olds → AllAgree draws at news olds
    → fold (set_cell x) (done ++ olds) (filter draws (visible_from at news)) ≡ done ++ news
drawn_all x at draws done [] [] e d n o l p = refl
drawn_all x at draws done [] (y ∷ olds) e d n o l p = absurd (omega arith)
drawn_all x at draws done (Narrow t a ∷ news) [] e d n o l p = absurd p
drawn_all x at draws done (RightHalf a ∷ news) olds e d n o l p = absurd n
drawn_all x at draws done (LeftHalf t a ∷ []) olds e d n o l p = absurd n
drawn_all x at draws done (LeftHalf t a ∷ Narrow u b ∷ news) olds e d n o l p = absurd n
drawn_all x at draws done (LeftHalf t a ∷ LeftHalf u b ∷ news) olds e d n o l p = absurd n
drawn_all x at draws done (LeftHalf t a ∷ RightHalf b ∷ news) [] e d n o l p = absurd p
drawn_all x at draws done (LeftHalf t a ∷ RightHalf b ∷ news) (y ∷ []) e d n o l p = absurd (omega arith)
drawn_all x at draws done (Narrow t a ∷ news) (y ∷ olds) e d n o l p =
    let v : VisibleCell = visible_at at t 1 a in
    let next : Row = done ++ Narrow t a ∷ [] in
    let count : at + 1 ≡ x + length next = omega (arith, length-append done (Narrow t a ∷ [])) in
    let there : at - x ≡ length done = omega arith in
    by_test (draws v)
    (λ f.
    let rest : Row = closed_start olds in
    let all : fold (set_cell x) (next ++ rest) (filter draws (visible_from (at + 1) news)) ≡ next ++ news =
    drawn_all x (at + 1) draws next news rest count (whole_one t a done d) n (whole-after 1 (y ∷ olds) o) (omega (arith, length-closed_start olds)) (still_agree draws (at + 1) news olds n p.1) in
    draw_first x draws v (visible_from (at + 1) news) (done ++ y ∷ olds) f
    ∙ ap (λ (r : Row). fold (set_cell x) r (filter draws (visible_from (at + 1) news))) (set_there done (y ∷ olds) (Narrow t a ∷ []) (at - x) there d)
    ∙ all
    ∙ append_assoc done (Narrow t a ∷ []) news)
    (λ f.
    let is : y ≡ Narrow t a = not_drawn f p.0 in
    let whole : IsWhole (Narrow t a ∷ olds) = subst (λ (c : Column). IsWhole (c ∷ olds)) is o in
    let all : fold (set_cell x) (next ++ olds) (filter draws (visible_from (at + 1) news)) ≡ next ++ news =
    drawn_all x (at + 1) draws next news olds count (whole_one t a done d) n whole (omega arith) p.1 in
    skip_first x draws v (visible_from (at + 1) news) (done ++ y ∷ olds) f
    ∙ ap (λ (r : Row). fold (set_cell x) r (filter draws (visible_from (at + 1) news))) (ap (λ (c : Column). done ++ c ∷ olds) is ∙ sym (append_assoc done (Narrow t a ∷ []) olds))
    ∙ all
    ∙ append_assoc done (Narrow t a ∷ []) news)
drawn_all x at draws done (LeftHalf t a ∷ RightHalf b ∷ news) (y ∷ z ∷ olds) e d n o l p =
    let v : VisibleCell = visible_at at t 2 a in
    let pair : Row = LeftHalf t a ∷ RightHalf b ∷ [] in
    let next : Row = done ++ pair in
    let count : at + 1 + 1 ≡ x + length next = omega (arith, length-append done pair) in
    let there : at - x ≡ length done = omega arith in
    let attributes : (LeftHalf t a ∷ RightHalf a ∷ []) ≡ pair = ap (λ (c : Attributes). LeftHalf t a ∷ RightHalf c ∷ []) (sym n.0) in
    by_test (draws v)
    (λ f.
    let rest : Row = closed_start olds in
    let all : fold (set_cell x) (next ++ rest) (filter draws (visible_from (at + 1 + 1) news)) ≡ next ++ news =
    drawn_all x (at + 1 + 1) draws next news rest count (whole_two t a b done n.0 d) n.1 (whole-after 2 (y ∷ z ∷ olds) o) (omega (arith, length-closed_start olds)) (still_agree draws (at + 1 + 1) news olds n.1 p.1.1) in
    draw_first x draws v (visible_from (at + 1 + 1) news) (done ++ y ∷ z ∷ olds) f
    ∙ ap (λ (r : Row). fold (set_cell x) r (filter draws (visible_from (at + 1 + 1) news))) (set_there done (y ∷ z ∷ olds) (LeftHalf t a ∷ RightHalf a ∷ []) (at - x) there d ∙ ap (λ (r : Row). (done ++ r) ++ rest) attributes)
    ∙ all
    ∙ append_assoc done pair news)
    (λ f.
    let is : y ≡ LeftHalf t a = not_drawn f p.0 in
    let whole : IsWhole (LeftHalf t a ∷ z ∷ olds) = subst (λ (c : Column). IsWhole (c ∷ z ∷ olds)) is o in
    let other = pair_of t a z olds whole in
    let same : (LeftHalf t a ∷ z ∷ []) ≡ pair = ap (λ (c : Column). LeftHalf t a ∷ c ∷ []) other.0 ∙ attributes in
    let all : fold (set_cell x) (next ++ olds) (filter draws (visible_from (at + 1 + 1) news)) ≡ next ++ news =
    drawn_all x (at + 1 + 1) draws next news olds count (whole_two t a b done n.0 d) n.1 other.1 (omega arith) p.1.1 in
    skip_first x draws v (visible_from (at + 1 + 1) news) (done ++ y ∷ z ∷ olds) f
    ∙ ap (λ (r : Row). fold (set_cell x) r (filter draws (visible_from (at + 1 + 1) news))) (ap (λ (c : Column). done ++ c ∷ z ∷ olds) is ∙ ap (λ (r : Row). done ++ (r ++ olds)) same ∙ sym (append_assoc done pair olds))
    ∙ all
    ∙ append_assoc done pair news)

-- the fresh cells of whole columns, drawn in the old ones, give the new ones
pub fresh_drawn : (x : ℕ) (olds news : Row) → IsWhole olds → IsWhole news → length news ≡ length olds → fold (set_cell x) olds (fresh (visible_from x olds) (visible_from x news)) ≡ news
fresh_drawn x olds news o n e =
    drawn_all x x (λ v. not (is_shown (visible_from x olds) v)) [] news olds (omega arith) tt n o e (all_agree x (visible_from x olds) news olds e (λ v h. refl))
