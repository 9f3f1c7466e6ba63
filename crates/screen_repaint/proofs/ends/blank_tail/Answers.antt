use Rattle.std.proofs.Common.{rules, ◌≡◌, ℕ, ◌<◌, None, Some, length, ap, subst, sym, ◌∙◌, arith}
use Rattle.cell_line.specs.LineContent.{LineContent}
use Rattle.screen_repaint.specs.Ends.{end_of}
use Rattle.screen_repaint.specs.PaintedRows.{IsTail, rows_of}
use Rattle.screen_repaint.specs.Repaint.{row_cells}
use Rattle.std.proofs.lemmas.List.{length-map}
use Rattle.std.specs.Option.{option_copied}
use Rattle.screen_repaint.proofs.EndLemmas.{tail_rows, no_tail, last_blanks, last_of_lines, counted_rows}
use Rattle.screen_repaint.proofs.ends.blank_tail.Goals as goal

pub returns-in_default-blanks : goal.returns-in_default-blanks
returns-in_default-blanks c f =
    let last : (0 < length (rows_of c.args.lines.now)) → last_blanks None (rows_of c.args.lines.now) ≡ (end_of (row_cells c.in-Some.last.now.columns)).blanks =
    last_of_lines c.args.lines.now c.in-Some.last.now (ap option_copied (sym c.in-Some.is) ∙ c.last.ensures.value) in
    let none : (end_of (row_cells c.in-Some.last.now.columns)).blanks ≡ None = search rules in
    no_tail 0 (rows_of c.args.lines.now) (λ n. last n ∙ none) f

pub returns : goal.returns
returns c f =
    let last : (0 < length (rows_of c.args.lines.now)) → last_blanks None (rows_of c.args.lines.now) ≡ (end_of (row_cells c.in-Some.last.now.columns)).blanks =
    last_of_lines c.args.lines.now c.in-Some.last.now (ap option_copied (sym c.in-Some.is) ∙ c.last.ensures.value) in
    let some : (end_of (row_cells c.in-Some.last.now.columns)).blanks ≡ Some c.in-Some-blanks.attrs.now = search rules in
    let count = c.blank_lines_at_end.ensures ∙ counted_rows c.in-Some-blanks.attrs.now (length c.args.lines.now) c.args.lines.now in
    let many = length-map c.args.lines.now (λ (l : LineContent). l.columns) in
    subst (λ (n : ℕ). IsTail n (Some c.in-Some-blanks.attrs.now) (rows_of c.args.lines.now)) (sym count)
    (tail_rows c.in-Some-blanks.attrs.now (length c.args.lines.now) (rows_of c.args.lines.now) (omega arith) (λ n. last n ∙ some) f)
