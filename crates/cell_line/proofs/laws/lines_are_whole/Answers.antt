use Rattle.cell_edits.proofs.RowLaws.{row_again}
use Rattle.cell_line.proofs.laws.lines_are_whole.Goals as goal

pub returns-clause-row : goal.returns-clause-row
returns-clause-row c = row_again 0 c.args.line.now.columns c.len-count.ensures.whole
