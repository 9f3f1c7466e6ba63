-- Cells of a part of a row: their positions, and the row after they are drawn.
use Rattle.std.proofs.Common.{◌≡◌, ℕ, zero, suc, ◌+◌, ◌-◌, ◌<◌, ◌≤◌, ◌∙◌, Bool, false, List, [], ◌∷◌, length, take, drop, refl, sym, ap, subst, inl, inr, arith}
use Rattle.std.specs.Prelude.{⊤, nat_le, filter, fold, if◌then◌else◌}
use Rattle.std.proofs.lemmas.Bool.Decides.{nat_tests}
use Rattle.std.proofs.lemmas.List.{length-drop, length-take-le}
use Rattle.cell_base.specs.Row.{Narrow, LeftHalf, RightHalf, Row, space, columns_of, closed_end, closed_start, set_columns}
use Rattle.screen_change.proofs.TextLemmas.{by_test}
use Rattle.cell_edits.specs.CellList.{cell_columns}
use Rattle.cell_edits.specs.VisibleCells.{VisibleCell, visible_from}
use Rattle.cell_base.specs.WholeRow.{IsWhole}
use Rattle.cell_base.proofs.RowLemmas.{length-closed_end, length-closed_start, length-set_columns}
use Rattle.screen_difference.specs.DrawnCells.{HavePositions}
use Rattle.screen_difference.specs.FreshCells.{columns_from, fresh, placed, row_fresh, shared_width}
use Rattle.screen_difference.specs.Redrawn.{IsKept, ShowsPart, ShowsRow}
use Rattle.screen_difference.proofs.FreshLemmas.{whole_part}
use Rattle.screen_difference.proofs.PartLemmas.{end_again, start_again, set_in_part, set_prefix, set_back}
use Rattle.screen_difference.proofs.RowLemmas.{fresh_drawn}
use Rattle.screen_effects.proofs.StrokeLaws.{whole_columns}
use Rattle.screen_effects.specs.WrittenCells.{IsSoundText, IsSoundRow}

-- ---- sound rows

module _ (width_of : List ℕ → ℕ) (blank_is : IsSoundText width_of space false) where
  sound_taken : (n : ℕ) (r : Row) → IsSoundRow width_of r → IsSoundRow width_of (take n r)
  sound_taken zero r p = tt
  sound_taken (suc n) [] p = tt
  sound_taken (suc n) (Narrow t a ∷ r) p = (p.0, sound_taken n r p.1)
  sound_taken (suc n) (LeftHalf t a ∷ r) p = (p.0, sound_taken n r p.1)
  sound_taken (suc n) (RightHalf a ∷ r) p = sound_taken n r p

  sound_dropped : (n : ℕ) (r : Row) → IsSoundRow width_of r → IsSoundRow width_of (drop n r)
  sound_dropped zero r p = p
  sound_dropped (suc n) [] p = tt
  sound_dropped (suc n) (Narrow t a ∷ r) p = sound_dropped n r p.1
  sound_dropped (suc n) (LeftHalf t a ∷ r) p = sound_dropped n r p.1
  sound_dropped (suc n) (RightHalf a ∷ r) p = sound_dropped n r p

  sound_started : (r : Row) → IsSoundRow width_of r → IsSoundRow width_of (closed_start r)
  sound_started [] p = tt
  sound_started (Narrow t a ∷ r) p = p
  sound_started (LeftHalf t a ∷ r) p = p
  sound_started (RightHalf a ∷ r) p = (blank_is, p)

  sound_ended : (r : Row) → IsSoundRow width_of r → IsSoundRow width_of (closed_end r)
  sound_ended [] p = tt
  sound_ended (Narrow t a ∷ []) p = p
  sound_ended (LeftHalf t a ∷ []) p = (blank_is, tt)
  sound_ended (RightHalf a ∷ []) p = tt
  sound_ended (Narrow t a ∷ y ∷ r) p = (p.0, sound_ended (y ∷ r) p.1)
  sound_ended (LeftHalf t a ∷ y ∷ r) p = (p.0, sound_ended (y ∷ r) p.1)
  sound_ended (RightHalf a ∷ y ∷ r) p = sound_ended (y ∷ r) p

  sound_part : (x n : ℕ) (r : Row) → IsSoundRow width_of r → IsSoundRow width_of (columns_from x n r)
  sound_part x n r p = sound_ended (take n (closed_start (drop x r))) (sound_taken n (closed_start (drop x r)) (sound_started (drop x r) (sound_dropped x r p)))

length_part : (x n : ℕ) (r : Row) → x + n ≤ length r → length (columns_from x n r) ≡ n
length_part x n r h =
    let rest = length-drop x r in
    let start = length-closed_start (drop x r) in
    length-closed_end (take n (closed_start (drop x r))) ∙ length-take-le n (closed_start (drop x r)) (omega arith)

-- ---- cells with positions in some columns

record Stands (width_of : List ℕ → ℕ) (start «end» : ℕ) (v : VisibleCell) : Type 0 where
  from : start ≤ v.column
  before : v.column + v.cell.width ≤ «end»
  some : 1 ≤ v.cell.width
  most : v.cell.width ≤ 2
  sound : IsSoundText width_of v.cell.text (nat_le 2 v.cell.width)

abbrev AllStand : (List ℕ → ℕ) → ℕ → ℕ → List VisibleCell → Type 0
AllStand width_of start stop [] = ⊤
AllStand width_of start stop (v ∷ cells) = Stands width_of start stop v × AllStand width_of start stop cells

visible_stand : (width_of : List ℕ → ℕ) (start stop at : ℕ) (r : Row) → start ≤ at → at + length r ≤ stop → IsWhole r → IsSoundRow width_of r → AllStand width_of start stop (visible_from at r)
visible_stand width_of start stop at [] h l w p = tt
visible_stand width_of start stop at (Narrow t a ∷ r) h l w p =
    (record { from = h; before = omega arith; some = omega arith; most = omega arith; sound = p.0 }, visible_stand width_of start stop (at + 1) r (omega arith) (omega arith) w p.1)
visible_stand width_of start stop at (RightHalf a ∷ r) h l w p = absurd w
visible_stand width_of start stop at (LeftHalf t a ∷ []) h l w p = absurd w
visible_stand width_of start stop at (LeftHalf t a ∷ Narrow u b ∷ r) h l w p = absurd w
visible_stand width_of start stop at (LeftHalf t a ∷ LeftHalf u b ∷ r) h l w p = absurd w
visible_stand width_of start stop at (LeftHalf t a ∷ RightHalf b ∷ r) h l w p =
    (record { from = h; before = omega arith; some = omega arith; most = omega arith; sound = p.0 }, visible_stand width_of start stop (at + 1 + 1) r (omega arith) (omega arith) w.1 p.1)

filter_stand : (width_of : List ℕ → ℕ) (start stop : ℕ) (passes : VisibleCell → Bool) (cells : List VisibleCell) → AllStand width_of start stop cells → AllStand width_of start stop (filter passes cells)
filter_stand width_of start stop passes [] p = tt
filter_stand width_of start stop passes (v ∷ cells) p =
    let rest = filter_stand width_of start stop passes cells p.1 in
    by_test (passes v)
    (λ e. subst (AllStand width_of start stop) (ap (λ b. if b then v ∷ filter passes cells else filter passes cells) (sym e)) (p.0, rest))
    (λ e. subst (AllStand width_of start stop) (ap (λ b. if b then v ∷ filter passes cells else filter passes cells) (sym e)) rest)

have_positions : (width_of : List ℕ → ℕ) (start stop width rows row : ℕ) (cells : List VisibleCell) → stop ≤ width → row < rows → AllStand width_of start stop cells → HavePositions width_of width rows (placed row cells)
have_positions width_of start stop width rows row [] h r p = tt
have_positions width_of start stop width rows row (v ∷ cells) h r p =
    let before = p.0.before in
    (record { some = p.0.some; most = p.0.most; sound = p.0.sound; in_columns = omega arith; in_rows = r }, have_positions width_of start stop width rows row cells h r p.1)

count_is : (width_of : List ℕ → ℕ) (start stop : ℕ) (v : VisibleCell) → Stands width_of start stop v → length (cell_columns v.cell) ≡ v.cell.width
count_is width_of start stop v p =
    let some = p.some in
    let most = p.most in
    by_test (nat_le 2 v.cell.width)
    (λ e. ap (λ b. length (columns_of v.cell.text b v.cell.attributes)) e ∙ grind (arith, nat_tests))
    (λ e. ap (λ b. length (columns_of v.cell.text b v.cell.attributes)) e ∙ grind (arith, nat_tests))

-- ---- the row after they are drawn

abbrev pub set_visible : Row → VisibleCell → Row
set_visible row v = set_columns row v.column (cell_columns v.cell)

kept_on : (closed : Row → Row) → ((r : Row) → closed (closed r) ≡ closed r) → (a b c : Row) → IsKept closed a b → IsKept closed b c → IsKept closed a c
kept_on closed again a b c (inl p) (inl q) = inl (q ∙ p)
kept_on closed again a b c (inl p) (inr q) = inr (q ∙ ap closed p)
kept_on closed again a b c (inr p) (inl q) = inr (q ∙ p)
kept_on closed again a b c (inr p) (inr q) = inr (q ∙ ap closed p ∙ again a)

-- the part with the cells set, the columns before and after it, and the length
record Leaves (x n : ℕ) (cells : List VisibleCell) (row after : Row) : Type 0 where
  part : columns_from x n after ≡ fold (λ r v. set_columns r (v.column - x) (cell_columns v.cell)) (columns_from x n row) cells
  prefix : IsKept closed_end (take x row) (take x after)
  suffix : IsKept closed_start (drop (x + n) row) (drop (x + n) after)
  width : length after ≡ length row

all_leave : (width_of : List ℕ → ℕ) (x n : ℕ) (cells : List VisibleCell) (row : Row) → x + n ≤ length row → AllStand width_of x (x + n) cells → Leaves x n cells row (fold set_visible row cells)
all_leave width_of x n [] row h p = record { part = refl; prefix = inl refl; suffix = inl refl; width = refl }
all_leave width_of x n (v ∷ cells) row h p =
    let cols : Row = cell_columns v.cell in
    let count = count_is width_of x (x + n) v p.0 in
    let from = p.0.from in
    let before = p.0.before in
    let some = p.0.some in
    let k = v.column - x in
    let at : x + k ≡ v.column = omega arith in
    let m = x + n - (v.column + length cols) in
    let stop : v.column + length cols + m ≡ x + n = omega arith in
    let same : length (set_visible row v) ≡ length row = length-set_columns row v.column cols (omega arith) in
    let rest = all_leave width_of x n cells (set_visible row v) (omega arith) p.1 in
    let one : columns_from x n (set_visible row v) ≡ set_columns (columns_from x n row) k cols =
    ap (λ c. columns_from x n (set_columns row c cols)) (sym at) ∙ set_in_part x n k row cols (omega arith) h (whole_columns v.cell.text (nat_le 2 v.cell.width) v.cell.attributes) (omega arith) in
    let prefix : IsKept closed_end (take x row) (take x (set_visible row v)) = subst (λ c. IsKept closed_end (take x row) (take x (set_columns row c cols))) at (set_prefix x k row cols (omega arith)) in
    let suffix : IsKept closed_start (drop (x + n) row) (drop (x + n) (set_visible row v)) = subst (λ c. IsKept closed_start (drop c row) (drop c (set_visible row v))) stop (set_back v.column m row cols (omega arith)) in
    record {
      part = rest.part ∙ ap (λ (r : Row). fold (λ q w. set_columns q (w.column - x) (cell_columns w.cell)) r cells) one;
      prefix = kept_on closed_end end_again (take x row) (take x (set_visible row v)) (take x (fold set_visible (set_visible row v) cells)) prefix rest.prefix;
      suffix = kept_on closed_start start_again (drop (x + n) row) (drop (x + n) (set_visible row v)) (drop (x + n) (fold set_visible (set_visible row v) cells)) suffix rest.suffix;
      width = rest.width ∙ same;
    }

-- ---- the fresh cells of a row

module _ (width_of : List ℕ → ℕ) (blank_is : IsSoundText width_of space false) where
  fresh_stand : (x other_x n : ℕ) (old new : Row) → other_x + n ≤ length new → IsWhole new → IsSoundRow width_of new
      → AllStand width_of x (x + n) (fresh (visible_from x (columns_from x n old)) (visible_from x (columns_from other_x n new)))
  fresh_stand x other_x n old new h w s =
      let part : Row = columns_from other_x n new in
      let count = length_part other_x n new h in
      filter_stand width_of x (x + n) _ (visible_from x part) (visible_stand width_of x (x + n) x part (omega arith) (omega arith) (whole_part other_x n new w) (sound_part width_of blank_is other_x n new s))

  fresh_shown : (x other_x n : ℕ) (old new : Row) → x + n ≤ length old → other_x + n ≤ length new → IsWhole old → IsWhole new → IsSoundRow width_of new
      → ShowsPart x (columns_from other_x n new) old (fold set_visible old (fresh (visible_from x (columns_from x n old)) (visible_from x (columns_from other_x n new))))
  fresh_shown x other_x n old new f h o w s =
      let part : Row = columns_from other_x n new in
      let olds : Row = columns_from x n old in
      let cells : List VisibleCell = fresh (visible_from x olds) (visible_from x part) in
      let count : length part ≡ n = length_part other_x n new h in
      let old_count : length olds ≡ n = length_part x n old f in
      let left = all_leave width_of x n cells old f (fresh_stand x other_x n old new h w s) in record {
        within = ap (λ m. columns_from x m (fold set_visible old cells)) count ∙ left.part ∙ fresh_drawn x olds part (whole_part x n old o) (whole_part other_x n new w) (omega arith);
        prefix = left.prefix;
        suffix = subst (λ m. IsKept closed_start (drop (x + m) old) (drop (x + m) (fold set_visible old cells))) (sym count) left.suffix;
        width = left.width;
      }

  none_shown : (x other_x n : ℕ) (old new : Row) → n ≡ 0 → ShowsPart x (columns_from other_x n new) old (fold set_visible old (fresh (visible_from x (columns_from x n old)) (visible_from x (columns_from other_x n new))))
  none_shown x other_x n old new e =
      let zero_shown : ShowsPart x [] old old = record { within = refl; prefix = inl refl; suffix = inl refl; width = refl } in
      subst (λ m. ShowsPart x (columns_from other_x m new) old (fold set_visible old (fresh (visible_from x (columns_from x m old)) (visible_from x (columns_from other_x m new))))) (sym e) zero_shown

  -- a row in which its fresh cells are drawn shows the new one
  pub row_shown : (x other_x width : ℕ) (old new : Row) → IsWhole old → IsWhole new → IsSoundRow width_of new → ShowsRow x other_x width new old (fold set_visible old (row_fresh x other_x width old new))
  row_shown x other_x width old new o w s =
      let n = shared_width width x old other_x new in
      by_test (nat_le 1 n)
      (λ e.
      let some : 1 ≤ n = grind (arith, nat_tests) in
      fresh_shown x other_x n old new (omega arith) (omega arith) o w s)
      (λ e.
      let none : n ≡ 0 = grind (arith, nat_tests) in
      none_shown x other_x n old new none)

  pub row_positions : (x other_x width stop rows row : ℕ) (old new : Row) → length old ≡ stop → row < rows → IsWhole new → IsSoundRow width_of new → HavePositions width_of stop rows (placed row (row_fresh x other_x width old new))
  row_positions x other_x width stop rows row old new e r w s =
      let n = shared_width width x old other_x new in
      by_test (nat_le 1 n)
      (λ f.
      let some : 1 ≤ n = grind (arith, nat_tests) in
      have_positions width_of x (x + n) stop rows row (row_fresh x other_x width old new) (omega arith) r (fresh_stand x other_x n old new (omega arith) w s))
      (λ f.
      let none : n ≡ 0 = grind (arith, nat_tests) in
      subst (λ m. HavePositions width_of stop rows (placed row (fresh (visible_from x (columns_from x m old)) (visible_from x (columns_from other_x m new))))) (sym none) tt)
