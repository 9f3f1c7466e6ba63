use Rattle.std.proofs.Common.{◌≡◌, ℕ, ◌+◌, ◌-◌, Bool, false, List, sym, ap, subst, ◌∙◌, arith}
use Rattle.std.specs.Prelude.{◌==◌, min, if◌then◌else◌}
use Rattle.std.proofs.lemmas.Bool.Decides.{nat_tests}
use Rattle.std.proofs.lemmas.List.{length-map}
use Rattle.cell_base.specs.Screen.{Screen, height}
use Rattle.cell_line.specs.LineContent.{LineContent}
use Rattle.cell_surface.specs.Surface.{shown_by}
use Rattle.xterm_table.specs.RowMoves.{in_column, next_row, scrolled_up}
use Rattle.xterm_steps.specs.Becomes.{Becomes}
use Rattle.xterm_steps.proofs.row_moves.to_next_row.Goals as goal

elsewhere : (m n : ℕ) → (m ≡ n → ⊥) → (m == n) ≡ false
elsewhere m n h = grind (arith, nat_tests)

pub returns : goal.returns
returns g c =
    let s : Screen = (shown_by c.args.surface.now).screen in
    let there : Screen = in_column c.args.column s in
    let row = c.cursor_position-row.ensures.row in
    let lines : List LineContent = c.args.surface.now.grid.lines in
    let tall : c.dimensions-width.result.1 ≡ height s = c.dimensions-width.ensures.height ∙ sym (length-map lines (λ (line : LineContent). line.columns)) in
    let off : (s.row == c.args.bottom) ≡ false = elsewhere s.row c.args.bottom (λ e. c.if-row-bottom.false (row ∙ e)) in
    let next : c.min.result ≡ min (s.row + 1) (height s - 1) = c.min.ensures ∙ (λ i. min (row i + 1) (tall i - 1)) in
    let same : record s { column = c.args.column; row = c.min.result } ≡ next_row c.args.top c.args.bottom there =
    (λ i. record there { row = next i })
    ∙ sym (ap (λ (b : Bool). if b then scrolled_up c.args.top c.args.bottom 1 there else record there { row = min (s.row + 1) (height s - 1) }) off) in
    subst (λ (new : Screen). Becomes (λ w. g.W.Widths.width_of w) c.args.surface.now new c.place_cursor.result c.place_cursor.new.surface) same c.place_cursor.ensures
