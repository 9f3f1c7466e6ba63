-- each computes
use Rattle.std.proofs.Common.{refl}
use Rattle.terminal_table.proofs.Computing.{table}
use Rattle.terminal_table.proofs.examples.sizes.Goals as goal

pub returns-clause-smaller : goal.returns-clause-smaller
unfolding table
returns-clause-smaller c = refl

pub returns-clause-forgotten : goal.returns-clause-forgotten
unfolding table
returns-clause-forgotten c = refl

pub returns-clause-no_run_ends : goal.returns-clause-no_run_ends
unfolding table
returns-clause-no_run_ends c = refl

pub returns-clause-cut : goal.returns-clause-cut
unfolding table
returns-clause-cut c = refl

pub returns-clause-emptied : goal.returns-clause-emptied
unfolding table
returns-clause-emptied c = refl
