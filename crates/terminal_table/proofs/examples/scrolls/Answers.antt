-- each computes
use Rattle.std.proofs.Common.{refl}
use Rattle.terminal_table.proofs.Computing.{table}
use Rattle.terminal_table.proofs.examples.scrolls.Goals as goal

pub returns-clause-up : goal.returns-clause-up
unfolding table
returns-clause-up c = refl

pub returns-clause-down : goal.returns-clause-down
unfolding table
returns-clause-down c = refl

pub returns-clause-past : goal.returns-clause-past
unfolding table
returns-clause-past c = refl

pub returns-clause-reverse : goal.returns-clause-reverse
unfolding table
returns-clause-reverse c = refl
