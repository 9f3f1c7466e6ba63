use Rattle.std.proofs.Common.{◌≡◌, ◌+◌, ◌++◌, ◌∷◌, [], List, replicate, sym, ap, ◌∙◌}
use Rattle.std.specs.Prelude.{ℕ}
use Rattle.std.proofs.lemmas.List.{map-append}
use Rattle.cell_base.specs.Attributes.{plain}
use Rattle.cell_base.specs.CellContent.{cell_of, row_of_cells}
use Rattle.cell_base.specs.Row.{Row}
use Rattle.cell_line.specs.LineContent.{LineContent}
use Rattle.cell_surface.specs.Surface.{shown_by}
use Rattle.screen_difference.specs.FreshCells.{rows_of}
use Rattle.terminal_table.specs.Alignment.{alignment_letter, alignment_row}
use Rattle.terminal_steps.proofs.LineLemmas.{blanks_more, letters_row}
use Rattle.terminal_steps.proofs.screens.letter_lines.Goals as goal

pub loop-preserved : goal.loop-preserved
loop-preserved g c =
    let of = g.W.Widths.width_of c.args.surface.now.grid.widths in
    let row : Row = alignment_row of (shown_by c.args.surface.now).screen.width in
    let letter : c.alignment_letter-letter.result.now ≡ alignment_letter of = c.alignment_letter-letter.ensures ∙ ap (λ w. alignment_letter (g.W.Widths.width_of w)) c.widths.ensures in
    let wide = c.dimensions-width.ensures.width in
    let cell : c.in_ok-cell.cell ≡ cell_of (alignment_letter of) 1 plain = c.in_ok-cell.ensures.cell ∙ (λ i. cell_of (letter i) 1 (c.blank.ensures i)) in
    let line : LineContent = c.in_ok-with_width_and_cell.field-0 in
    let columns : line.columns ≡ row = ap (λ (l : LineContent). l.columns) c.in_ok-with_width_and_cell.ensures
    ∙ (λ i. row_of_cells (replicate (wide i) (cell i)))
    ∙ letters_row of (shown_by c.args.surface.now).screen.width in
    ap rows_of c.in_ok-push.ensures.items
    ∙ map-append (λ (l : LineContent). l.columns) c.loop.lines.items (line ∷ [])
    ∙ (λ i. c.loop.invariant i ++ columns i ∷ [])
    ∙ blanks_more c.loop.counter row
