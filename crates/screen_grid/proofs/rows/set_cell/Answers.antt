use Rattle.cell_line.specs.LineCalls.{set_cell_grapheme as grapheme_set}
use Rattle.cell_line.specs.LineContent.{LineContent}
use Rattle.screen_grid.proofs.LineLemmas.{line_changed}
use Rattle.screen_grid.proofs.rows.set_cell.Goals as goal

pub returns-clause-lines : goal.returns-clause-lines
returns-clause-lines c =
    line_changed c.args.rows.now c.args.row c.index_mut.result.now c.set_cell_grapheme.new.self (λ (l : LineContent). grapheme_set l c.args.at c.args.text.now c.args.width c.args.attrs 0) c.requires.row_in c.index_mut.ensures.value c.in_ok-set_cell_grapheme.ensures.done
