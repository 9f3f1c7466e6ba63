use Rattle.std.proofs.Common.{length, ap, ◌∙◌}
use Rattle.cell_line.specs.LineCalls.{set_blanks as blanks_set}
use Rattle.cell_line.specs.LineContent.{LineContent}
use Rattle.screen_grid.proofs.LineLemmas.{line_changed}
use Rattle.screen_grid.proofs.rows.set_blanks.Goals as goal

pub returns-clause-lines : goal.returns-clause-lines
returns-clause-lines c =
    let x = c.index_mut-line.result.now in
    line_changed c.args.rows.now c.args.row x c.set_blanks.new.line (λ (l : LineContent). blanks_set l c.args.at (length l.columns) c.args.attrs.now) c.requires.row_in c.index_mut-line.ensures.value
    (c.in_ok-set_blanks.ensures.done ∙ ap (λ w. blanks_set x c.args.at w c.args.attrs.now) c.len-width.ensures.value)
