use Rattle.cell_base.proofs.RowLemmas.{length-set_columns, whole-set_columns, set_columns-again}
use Rattle.cell_base.proofs.row_laws.columns_set_within.Goals as goal

pub returns-clause-len : goal.returns-clause-len
returns-clause-len c = length-set_columns

pub returns-clause-whole : goal.returns-clause-whole
returns-clause-whole c = whole-set_columns

pub returns-clause-again : goal.returns-clause-again
returns-clause-again c = set_columns-again
