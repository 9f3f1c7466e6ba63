-- each computes
use Rattle.std.proofs.Common.{refl}
use Rattle.terminal_table.proofs.Computing.{table}
use Rattle.terminal_table.proofs.examples.runs.Goals as goal

pub returns-clause-joined : goal.returns-clause-joined
unfolding table
returns-clause-joined c = refl

pub returns-clause-held : goal.returns-clause-held
unfolding table
returns-clause-held c = refl

pub returns-clause-looked : goal.returns-clause-looked
unfolding table
returns-clause-looked c = refl

pub returns-clause-not_looked : goal.returns-clause-not_looked
unfolding table
returns-clause-not_looked c = refl

pub returns-clause-ended : goal.returns-clause-ended
unfolding table
returns-clause-ended c = refl

pub returns-clause-not_ended : goal.returns-clause-not_ended
unfolding table
returns-clause-not_ended c = refl

pub returns-clause-wide : goal.returns-clause-wide
unfolding table
returns-clause-wide c = refl

pub returns-clause-one_column : goal.returns-clause-one_column
unfolding table
returns-clause-one_column c = refl

pub returns-clause-halves : goal.returns-clause-halves
unfolding table
returns-clause-halves c = refl
