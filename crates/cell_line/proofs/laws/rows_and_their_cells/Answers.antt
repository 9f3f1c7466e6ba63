use Rattle.cell_edits.proofs.RowLaws.{row_again, visible-append, visible-set}
use Rattle.cell_line.proofs.laws.rows_and_their_cells.Goals as goal

pub returns-clause-row : goal.returns-clause-row
returns-clause-row c = row_again 0

pub returns-clause-joined : goal.returns-clause-joined
returns-clause-joined c = visible-append

pub returns-clause-set : goal.returns-clause-set
returns-clause-set c = visible-set
