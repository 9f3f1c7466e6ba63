-- each computes
use Rattle.std.proofs.Common.{refl}
use Rattle.terminal_table.proofs.Computing.{table}
use Rattle.terminal_table.proofs.examples.pieces.Goals as goal

pub returns-clause-sequence : goal.returns-clause-sequence
unfolding table
returns-clause-sequence c = refl

pub returns-clause-attributes : goal.returns-clause-attributes
unfolding table
returns-clause-attributes c = refl

pub returns-clause-pen : goal.returns-clause-pen
unfolding table
returns-clause-pen c = refl

pub returns-clause-by_byte : goal.returns-clause-by_byte
unfolding table
returns-clause-by_byte c = refl

pub returns-clause-whole : goal.returns-clause-whole
unfolding table
returns-clause-whole c = refl

pub returns-clause-unfinished : goal.returns-clause-unfinished
unfolding table
returns-clause-unfinished c = refl
