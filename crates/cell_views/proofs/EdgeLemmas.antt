-- Parts of a row whose edges may cut a wide cell.
use Rattle.std.proofs.Common.{◌≡◌, ℕ, zero, suc, ◌+◌, ◌-◌, ◌<◌, ◌≤◌, Bool, true, false, List, [], ◌∷◌, ◌++◌, length}
use Rattle.std.proofs.Common.{take, drop, get_or, refl, sym, ap, subst, ◌∙◌, length-drop, arith}
use Rattle.std.specs.Prelude.{nat_lt, if◌then◌else◌}
use Rattle.std.proofs.lemmas.Bool.{false≢true, ltb-true, ltb-false}
use Rattle.std.proofs.lemmas.List.{drop-drop, get_or_default, get_or-drop, length-take-le, append-nil}
use Rattle.cell_base.specs.Attributes.{Attributes, plain}
use Rattle.cell_base.specs.Row.{Narrow, LeftHalf, RightHalf, Row, space, blank, closed_end}
use Rattle.cell_base.specs.WholeRow.{IsWhole}
use Rattle.cell_base.proofs.RowLemmas.{whole-after}
use Rattle.cell_edits.specs.VisibleCells.{VisibleCell, visible_at, visible_from}
use Rattle.cell_edits.proofs.CellLemmas.{by_test, closed_end-narrow}
use Rattle.cell_edits.proofs.RowLaws.{visible-append}
use Rattle.clustered_row.specs.VisibleColumns.{starts_split, is_split, column_attributes}
use Rattle.clustered_row.proofs.BetweenLemmas.{part_is}
use Rattle.clustered_row.proofs.PartLemmas.{end_closed, end_split, start_closed, start_split}
use Rattle.cell_views.specs.Region.{region, half_at, start_half, inner_start, end_half, inner_end}

-- ---- where no cell is cut

whole_starts : (row : Row) → IsWhole row → starts_split row ≡ false
whole_starts [] w = refl
whole_starts (Narrow text a ∷ row) w = refl
whole_starts (LeftHalf text a ∷ row) w = refl
whole_starts (RightHalf a ∷ row) w = absurd w

-- after the second column of a wide cell none is cut, nor before it
after_half : (n : ℕ) (row : Row) → IsWhole row → is_split n row ≡ true → is_split (n + 1) row ≡ false
after_half n row w h =
    whole_starts (drop (n + 1) row) (subst IsWhole (start_split n row (blank plain) h) (whole-after n row w))

before_half : (n : ℕ) (row : Row) → IsWhole row → is_split (n + 1) row ≡ true → is_split n row ≡ false
before_half n row w h = by_test (is_split n row)
    (λ t. absurd (false≢true (sym (after_half n row w t) ∙ h)))
    (λ t. t)

pub split_within : (n : ℕ) (row : Row) → is_split n row ≡ true → n < length row
split_within zero [] h = absurd (false≢true h)
split_within (suc n) [] h = absurd (false≢true h)
split_within zero (c ∷ row) h = omega arith
split_within (suc n) (c ∷ row) h = let more = split_within n row h in omega arith

-- the parts of the definitions, by whether the edge splits a wide cell
module _ (at : ℕ) (row : Row) (b : Bool) (h : is_split at row ≡ b) where
  pub start_is : inner_start at row ≡ (if b then at + 1 else at)
  start_is = ap (λ t. if t then at + 1 else at) h

  pub start_half_is : start_half at row ≡ (if b then half_at at at row else [])
  start_half_is = ap (λ t. if t then half_at at at row else []) h

  pub end_is : inner_end at row ≡ (if b then at - 1 else at)
  end_is = ap (λ t. if t then at - 1 else at) h

  pub end_half_is : end_half at row ≡ (if b then half_at (at - 1) at row else [])
  end_half_is = ap (λ t. if t then half_at (at - 1) at row else []) h

-- a column's attributes don't depend on the default for columns past the end
pub same_at : (row : Row) (at : ℕ) (a : Attributes) → at < length row
    → a ≡ column_attributes (get_or row at (blank a)) → a ≡ column_attributes (get_or row at (blank plain))
same_at row at a h e = e ∙ ap column_attributes (get_or_default row at (blank a) (blank plain) h)

pub start_clean : (start : ℕ) (row : Row) → IsWhole row → is_split (inner_start start row) row ≡ false
start_clean start row w = by_test (is_split start row)
    (λ h. ap (λ n. is_split n row) (start_is start row true h) ∙ after_half start row w h)
    (λ h. ap (λ n. is_split n row) (start_is start row false h) ∙ h)

pub end_clean : (end : ℕ) (row : Row) → IsWhole row → 0 < end → is_split (inner_end end row) row ≡ false
end_clean end row w some = by_test (is_split end row)
    (λ h.
    let next : end ≡ end - 1 + 1 = omega arith in
    let cut : is_split (end - 1 + 1) row ≡ true = ap (λ n. is_split n row) (sym next) ∙ h in
    ap (λ n. is_split n row) (end_is end row true h) ∙ before_half (end - 1) row w cut)
    (λ h. ap (λ n. is_split n row) (end_is end row false h) ∙ h)

pub start_before : (start end : ℕ) (row : Row) → start < end → inner_start start row ≤ end
start_before start end row o = by_test (is_split start row)
    (λ h. let is = start_is start row true h in omega arith)
    (λ h. let is = start_is start row false h in omega arith)

pub end_within : (end : ℕ) (row : Row) → inner_end end row ≤ end
end_within end row = by_test (is_split end row)
    (λ h. let is = end_is end row true h in omega arith)
    (λ h. let is = end_is end row false h in omega arith)

-- a column at which no cell is cut isn't one at which a cell is, nor after the column beside that
clean_before : (from end : ℕ) (row : Row) → from ≤ end → is_split from row ≡ false → is_split end row ≡ true
    → from < end
clean_before from end row o clean h = by_test (nat_lt from end)
    (λ t. ltb-true from end t)
    (λ t.
    let no_less = ltb-false from end t in
    let same : from ≡ end = omega arith in
    absurd (false≢true (sym clean ∙ ap (λ n. is_split n row) same ∙ h)))

pub in_order : (from end : ℕ) (row : Row) → from ≤ end → is_split from row ≡ false → from ≤ inner_end end row
in_order from end row o clean = by_test (is_split end row)
    (λ h. let less = clean_before from end row o clean h in let is = end_is end row true h in omega arith)
    (λ h. let is = end_is end row false h in omega arith)

-- ---- the part of the row

-- from a column on and before another, with the end closed
abbrev closed_part : ℕ → ℕ → Row → List VisibleCell
closed_part from end row = visible_from from (closed_end (take (end - from) (drop from row)))

-- the columns from one on and before another
abbrev pub inner_part : ℕ → ℕ → Row → List VisibleCell
inner_part from to row = visible_from from (drop from (take to row))

start_step : (row : Row) (start end : ℕ) → start < end
    → region start end row ≡ start_half start row ++ closed_part (inner_start start row) end row
start_step row start end o =
    let closed : Row → List VisibleCell = λ r. visible_from start (closed_end (take (end - start) r)) in
    by_test (is_split start row)
    (λ h.
    let a = column_attributes (get_or row start (blank plain)) in
    let m = end - (start + 1) in
    let count : end - start ≡ suc m = omega arith in
    ap closed (start_split start row (blank plain) h)
    ∙ ap (λ n. visible_from start (closed_end (take n (blank a ∷ drop (start + 1) row)))) count
    ∙ ap (visible_from start) (closed_end-narrow space a (take m (drop (start + 1) row)))
    ∙ sym (λ i. start_half_is start row true h i ++ closed_part (start_is start row true h i) end row))
    (λ h.
    ap closed (start_closed start row h)
    ∙ sym (λ i. start_half_is start row false h i ++ closed_part (start_is start row false h i) end row))

end_step : (row : Row) (from end : ℕ) → IsWhole row → is_split from row ≡ false → from ≤ end → end ≤ length row
    → closed_part from end row ≡ inner_part from (inner_end end row) row ++ end_half end row
end_step row from end w clean o l =
    let tail : Row = drop from row in
    let whole : IsWhole tail = subst IsWhole (start_closed from row clean) (whole-after from row w) in
    let there : is_split (end - from) tail ≡ is_split end row =
    ap starts_split (drop-drop (end - from) from row) ∙ ap (λ n. is_split n row) (omega arith) in
    by_test (is_split end row)
    (λ h.
    let less : from < end = clean_before from end row o clean h in
    let n = end - 1 - from in
    let count : end - from ≡ n + 1 = omega arith in
    let cut : is_split (n + 1) tail ≡ true = ap (λ k. is_split k tail) (sym count) ∙ there ∙ h in
    let at : get_or tail (n + 1) (blank plain) ≡ get_or row end (blank plain) =
    get_or-drop from row (n + 1) (blank plain) ∙ ap (λ k. get_or row k (blank plain)) (omega arith) in
    let dropped = length-drop from row in
    let long : length (take n tail) ≡ n = length-take-le n tail (omega arith) in
    let column : from + length (take n tail) ≡ end - 1 = omega arith in
    ap (λ k. visible_from from (closed_end (take k tail))) count
    ∙ ap (visible_from from) (end_split n tail (blank plain) whole cut)
    ∙ visible-append from (take n tail) (blank (column_attributes (get_or tail (n + 1) (blank plain))) ∷ [])
    ∙ (λ i. visible_from from (take n tail) ++ visible_at (column i) space 1 (column_attributes (at i)) ∷ [])
    ∙ ap (λ (r : Row). visible_from from r ++ half_at (end - 1) end row)
    (sym (part_is row from (end - 1) (omega arith)))
    ∙ sym (λ i. inner_part from (end_is end row true h i) row ++ end_half_is end row true h i))
    (λ h.
    ap (visible_from from) (end_closed (end - from) tail whole (there ∙ h) ∙ sym (part_is row from end o))
    ∙ sym (append-nil (inner_part from end row))
    ∙ sym (λ i. inner_part from (end_is end row false h i) row ++ end_half_is end row false h i))

-- the half at the start, the cells that no edge cuts, and the half at the end
pub region_parts : (row : Row) (start end : ℕ) → IsWhole row → start < end → end ≤ length row
    → start_half start row ++ (inner_part (inner_start start row) (inner_end end row) row ++ end_half end row)
    ≡ region start end row
region_parts row start end w o l =
    let from = inner_start start row in
    let inner = end_step row from end w (start_clean start row w) (start_before start end row o) l in
    sym (start_step row start end o ∙ ap (λ (cells : List VisibleCell). start_half start row ++ cells) inner)
