-- Lines that are copied, widened and added.
use Rattle.std.proofs.Common.{◌≡◌, ℕ, zero, suc, ◌+◌, ◌-◌, ◌<◌, inl, inr, Bool, true, false, List, [], ◌∷◌, ◌++◌, length, take, map, replicate, refl, sym, ap, subst, ◌∙◌, arith, append-nil}
use Rattle.std.specs.Prelude.{All, nat_le, Option, Some, None, if◌then◌else◌}
use Rattle.std.specs.List.{take-map}
use Rattle.std.proofs.lemmas.Bool.Decides.{leb_tells}
use Rattle.std.proofs.lemmas.List.{length-map, length-take, take_all}
use Rattle.std.proofs.lemmas.List.Elements.{All-take}
use Rattle.cell_base.specs.Attributes.{Attributes, plain}
use Rattle.cell_base.specs.CellContent.{CellContent, cell_of, row_of_cells}
use Rattle.cell_base.specs.Row.{Row, Narrow, closed_end, plain_row, space}
use Rattle.cell_base.specs.Screen.{Screen}
use Rattle.cell_base.specs.WholeRow.{IsWhole}
use Rattle.cell_base.proofs.RowLemmas.{whole_ends}
use Rattle.cell_edits.specs.RowEdits.{cut, padded, resized}
use Rattle.cell_line.specs.LineCalls.{resize}
use Rattle.cell_line.specs.LineContent.{LineContent}
use Rattle.screen_difference.specs.FreshCells.{rows_of}
use Rattle.screen_effects.specs.Resize.{fitted, resized_row}
use Rattle.terminal_table.specs.Alignment.{alignment_letter}
use Rattle.terminal_table.specs.Modes.{Modes, other_rows, resized_rows}
use Rattle.terminal_table.specs.State.{CanBeShown}
use Rattle.terminal_steps.specs.ProfileView.{HaveWholeRows}

same_resized : (width : ℕ) (row : Row) → IsWhole row → resized width row ≡ resized_row width row
same_resized width row w = elim (leb_tells (suc width) (length row)) [
  | inl p ↦ let k = p.1 in let none : width - length row ≡ 0 = omega arith in
      ap (λ b. if b then cut width row else padded width row) p.0 ∙ sym (append-nil (closed_end (take width row))) ∙ ap (λ n. closed_end (take width row) ++ plain_row n) (sym none)
  | inr p ↦ let k = p.1 in
      ap (λ b. if b then cut width row else padded width row) p.0 ∙ ap (λ (r : Row). r ++ plain_row (width - length row)) (sym (ap closed_end (take_all width row (omega arith)) ∙ whole_ends row w))
]

widened_rows : (width : ℕ) (lines : List LineContent) → All IsWhole (rows_of lines) → rows_of (map (λ line. resize line width 0) lines) ≡ map (resized_row width) (rows_of lines)
widened_rows width [] h = refl
widened_rows width (line ∷ lines) h =
    λ i. same_resized width line.columns (h 0 line.columns (omega arith)) i ∷ widened_rows width lines (λ k d p. h (suc k) d (omega arith)) i

-- lines of another size
resized_some : (width tall : ℕ) (rows : List Row) → 0 < length rows → resized_rows width tall rows ≡ fitted (plain_row width) tall (map (resized_row width) rows)
resized_some width tall [] h = absurd (omega arith)
resized_some width tall (row ∷ rows) h = refl

pub lines_resized : (width tall : ℕ) (lines : List LineContent) → 0 < length lines → All IsWhole (rows_of lines)
    → let widened = map (λ line. resize line width 0) (take tall lines) in rows_of widened ++ replicate (tall - length widened) (plain_row width) ≡ resized_rows width tall (rows_of lines)
lines_resized width tall lines some whole =
    let rows : List Row = rows_of lines in
    let f : Row → Row = resized_row width in
    let part : rows_of (take tall lines) ≡ take tall rows = sym (take-map (λ (line : LineContent). line.columns) tall lines) in
    let here : rows_of (map (λ line. resize line width 0) (take tall lines)) ≡ take tall (map f rows) =
    widened_rows width (take tall lines) (subst (All IsWhole) (sym part) (All-take IsWhole tall rows whole)) ∙ ap (map f) part ∙ sym (take-map f tall rows) in
    let all = length-map rows f in
    let count = length-map lines (λ (line : LineContent). line.columns) in
    let taken = length-take tall lines in
    let some_taken = length-map (take tall lines) (λ line. resize line width 0) in
    let left : tall - length (map (λ line. resize line width 0) (take tall lines)) ≡ tall - length (map f rows) = omega (arith, all, count, taken, some_taken) in
    (λ i. here i ++ replicate (left i) (plain_row width)) ∙ sym (resized_some width tall rows (omega (arith, some, count)))

-- the other screen's rows are whole where it can be shown
pub shown_whole : (width_of : List ℕ → ℕ) (s : Screen) (modes : Option Modes) → CanBeShown width_of s modes → HaveWholeRows modes
shown_whole width_of s None can = tt
shown_whole width_of s (Some modes) can = by_rows modes.other.rows can.whole
  where
    by_rows : (rows : List Row) → All IsWhole (other_rows s rows) → All IsWhole rows
    by_rows [] h = λ k d p. absurd (omega arith)
    by_rows (row ∷ rows) h = h

-- blanks that are added one by one
blanks_next : {X : Type 0} (n : ℕ) (x : X) → replicate n x ++ x ∷ [] ≡ replicate (suc n) x
blanks_next zero x = refl
blanks_next (suc n) x = ap (λ (ys : List _). x ∷ ys) (blanks_next n x)

pub blanks_more : {X : Type 0} (n : ℕ) (x : X) → replicate n x ++ x ∷ [] ≡ replicate (n + 1) x
blanks_more n x = let next : suc n ≡ n + 1 = omega arith in blanks_next n x ∙ ap (λ k. replicate k x) next

-- a row of one letter, as cells have it
letter_cell : (of : List ℕ → ℕ) → cell_of (alignment_letter of) 1 plain ≡ record { text = alignment_letter of; width = 1; attributes = plain }
letter_cell of = by_test (nat_le 2 (of (69 ∷ [])))
  where
    by_test : (b : Bool) → cell_of (if b then space else 69 ∷ []) 1 plain ≡ record { text = if b then space else 69 ∷ []; width = 1; attributes = plain }
    by_test true = refl
    by_test false = refl

row_of : (n : ℕ) (text : List ℕ) (a : Attributes) → row_of_cells (replicate n (record { text = text; width = 1; attributes = a })) ≡ replicate n (Narrow text a)
row_of zero text a = refl
row_of (suc zero) text a = refl
row_of (suc (suc n)) text a = ap (λ (row : Row). Narrow text a ∷ row) (row_of (suc n) text a)

pub letters_row : (of : List ℕ → ℕ) (n : ℕ) → row_of_cells (replicate n (cell_of (alignment_letter of) 1 plain)) ≡ replicate n (Narrow (alignment_letter of) plain)
letters_row of n = ap (λ (cell : CellContent). row_of_cells (replicate n cell)) (letter_cell of) ∙ row_of n (alignment_letter of) plain
