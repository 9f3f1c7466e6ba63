-- The number of visible cells of rows that other rows don't show: none against themselves; and how it grows if a row is replaced.
use Rattle.std.proofs.Common.{◌≡◌, ℕ, zero, suc, ◌+◌, ◌-◌, ◌≤◌, ◌∙◌, true, List, [], ◌∷◌, length, get_or, set, take, refl, ap, arith, length-append}
use Rattle.std.specs.Prelude.{All, ◌==◌, ◌&&◌, not, min}
use Rattle.std.specs.Cmp.{unsigned_Decides}
use Rattle.std.proofs.lemmas.Bool.{and_from, or_left, or_right}
use Rattle.std.proofs.lemmas.List.{take_all, length-map}
use Rattle.std.proofs.lemmas.List.Elements.{All-head, All-tail}
use Rattle.cell_base.specs.Row.{Narrow, LeftHalf, RightHalf, Row, closed_end}
use Rattle.cell_base.specs.SameCell.{same_cell, same_cell_decides}
use Rattle.cell_base.specs.Screen.{Screen, IsScreen, height}
use Rattle.cell_edits.specs.VisibleCells.{VisibleCell, visible_at, visible_from}
use Rattle.cell_base.specs.WholeRow.{IsWhole}
use Rattle.cell_base.proofs.RowLemmas.{whole_ends, whole_starts}
use Rattle.screen_difference.specs.FreshCells.{PlacedCell, columns_from, fresh, is_shown, placed, row_fresh, rows_fresh, screen_fresh}
use Rattle.terminal_table.proofs.CountLemmas.{passing, passing_is}

-- the number of visible cells of a row, or of rows in turn, that the old row or rows don't show
abbrev pub row_count : Row → Row → ℕ
row_count old new = length (fresh (visible_from 0 old) (visible_from 0 new))

abbrev pub rows_count : List Row → List Row → ℕ
rows_count [] news = 0
rows_count (old ∷ olds) [] = 0
rows_count (old ∷ olds) (new ∷ news) = row_count old new + rows_count olds news

-- ---- none against themselves

-- a visible cell shows itself
shows_itself : (v : VisibleCell) (cells : List VisibleCell) → is_shown (v ∷ cells) v ≡ true
shows_itself v cells =
    or_left (v.column == v.column && same_cell v.cell v.cell) (is_shown cells v)
    (and_from (v.column == v.column) (same_cell v.cell v.cell) ((unsigned_Decides v.column v.column).1 refl) ((same_cell_decides v.cell v.cell).1 refl))

shown_after : (v w : VisibleCell) (cells : List VisibleCell) → is_shown cells w ≡ true → is_shown (v ∷ cells) w ≡ true
shown_after v w cells h = or_right (v.column == w.column && same_cell v.cell w.cell) (is_shown cells w) h

-- none of a row's cells is fresh against cells that show all of them
none_passes : (all : List VisibleCell) (at : ℕ) (row : Row) → ((v : VisibleCell) → is_shown (visible_from at row) v ≡ true → is_shown all v ≡ true) → passing (λ v. not (is_shown all v)) at row ≡ 0
none_passes all at [] h = refl
none_passes all at (Narrow t a ∷ row) h =
    let v : VisibleCell = visible_at at t 1 a in
    let shown : is_shown all v ≡ true = h v (shows_itself v (visible_from (at + 1) row)) in
    let rest : passing (λ w. not (is_shown all w)) (at + 1) row ≡ 0 = none_passes all (at + 1) row (λ w s. h w (shown_after v w (visible_from (at + 1) row) s)) in
    rw (shown, rest) refl
none_passes all at (LeftHalf t a ∷ row) h =
    let v : VisibleCell = visible_at at t 2 a in
    let shown : is_shown all v ≡ true = h v (shows_itself v (visible_from (at + 1) row)) in
    let rest : passing (λ w. not (is_shown all w)) (at + 1) row ≡ 0 = none_passes all (at + 1) row (λ w s. h w (shown_after v w (visible_from (at + 1) row) s)) in
    rw (shown, rest) refl
none_passes all at (RightHalf a ∷ row) h = let rest = none_passes all (at + 1) row h in omega arith

row_itself : (row : Row) → row_count row row ≡ 0
row_itself row = passing_is (λ v. not (is_shown (visible_from 0 row) v)) 0 row ∙ none_passes (visible_from 0 row) 0 row (λ v h. h)

pub rows_themselves : (rows : List Row) → rows_count rows rows ≡ 0
rows_themselves [] = refl
rows_themselves (row ∷ rows) = let first = row_itself row in let rest = rows_themselves rows in omega arith

-- ---- one row is another

pub row_set : (olds rows : List Row) (at : ℕ) (row : Row) (more : ℕ) → ((old : Row) → row_count old row ≤ row_count old (get_or rows at []) + more)
    → rows_count olds (set rows at row) ≤ rows_count olds rows + more
row_set [] rows at row more h = omega arith
row_set (old ∷ olds) [] at row more h = omega arith
row_set (old ∷ olds) (other ∷ rows) zero row more h = let first = h old in omega arith
row_set (old ∷ olds) (other ∷ rows) (suc at) row more h = let rest = row_set olds rows at row more h in omega arith

-- ---- the visible cells of screens

-- all columns of a whole row
whole_part : (width count : ℕ) (row : Row) → count ≡ width → length row ≡ width → IsWhole row → columns_from 0 count row ≡ row
whole_part width count row e n w = ap (λ (r : Row). closed_end (take count r)) (whole_starts row w) ∙ ap closed_end (take_all count row (omega arith)) ∙ whole_ends row w

whole_row : (width : ℕ) (old new : Row) → length old ≡ width → length new ≡ width → IsWhole old → IsWhole new → length (row_fresh 0 0 width old new) ≡ row_count old new
whole_row width old new o n w v =
    let count : ℕ = min (min width (length old - 0)) (length new - 0) in
    let all : count ≡ width = omega arith in
    (λ i. length (fresh (visible_from 0 (whole_part width count old all o w i)) (visible_from 0 (whole_part width count new all n v i))))

abbrev IsEven : ℕ → Row → Type 0
IsEven width row = length row ≡ width

whole_rows : (width number : ℕ) (olds news : List Row) → All (IsEven width) olds → All (IsEven width) news → All IsWhole olds → All IsWhole news
    → length (rows_fresh (row_fresh 0 0 width) number olds news) ≡ rows_count olds news
whole_rows width number [] news o n w v = refl
whole_rows width number (old ∷ olds) [] o n w v = refl
whole_rows width number (old ∷ olds) (new ∷ news) o n w v =
    let first = whole_row width old new (All-head (IsEven width) old olds o) (All-head (IsEven width) new news n) (All-head IsWhole old olds w) (All-head IsWhole new news v) in
    let rest =
    whole_rows width (number + 1) olds news (All-tail (IsEven width) old olds o) (All-tail (IsEven width) new news n) (All-tail IsWhole old olds w) (All-tail IsWhole new news v) in
    let both = length-append (placed number (row_fresh 0 0 width old new)) (rows_fresh (row_fresh 0 0 width) (number + 1) olds news) in
    let cells = length-map (row_fresh 0 0 width old new) (λ v. placed_at number v) in
    omega arith
  where
    placed_at : ℕ → VisibleCell → PlacedCell
    placed_at row v = record { row = row; column = v.column; cell = v.cell }

-- the number of fresh cells of a screen against another of the same width
pub fresh_count : (old new : Screen) → IsScreen old → IsScreen new → All IsWhole old.rows → All IsWhole new.rows → new.width ≡ old.width → length (screen_fresh old new) ≡ rows_count old.rows new.rows
fresh_count old new o n w v e =
    ap (λ (rows : List Row). length (rows_fresh (row_fresh 0 0 old.width) 0 rows new.rows)) (take_all (height old) old.rows (omega arith))
    ∙ whole_rows old.width 0 old.rows new.rows o.even (λ k d h. n.even k d h ∙ e) w v
