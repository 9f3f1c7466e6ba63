-- each computes
use Rattle.std.proofs.Common.{refl}
use Rattle.terminal_table.proofs.Computing.{table}
use Rattle.terminal_table.proofs.examples.other_actions.Goals as goal

pub returns-clause-controls : goal.returns-clause-controls
unfolding table
returns-clause-controls c = refl

pub returns-clause-pairs : goal.returns-clause-pairs
unfolding table
returns-clause-pairs c = refl

pub returns-clause-sequences : goal.returns-clause-sequences
unfolding table
returns-clause-sequences c = refl

pub returns-clause-commands : goal.returns-clause-commands
unfolding table
returns-clause-commands c = refl

pub returns-clause-strings : goal.returns-clause-strings
unfolding table
returns-clause-strings c = refl
