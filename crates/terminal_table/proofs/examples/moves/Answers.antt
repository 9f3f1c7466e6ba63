-- each computes
use Rattle.std.proofs.Common.{refl}
use Rattle.terminal_table.proofs.Computing.{table}
use Rattle.terminal_table.proofs.examples.moves.Goals as goal

pub returns-clause-position : goal.returns-clause-position
unfolding table
returns-clause-position c = refl

pub returns-clause-past : goal.returns-clause-past
unfolding table
returns-clause-past c = refl

pub returns-clause-up_down : goal.returns-clause-up_down
unfolding table
returns-clause-up_down c = refl

pub returns-clause-left_right : goal.returns-clause-left_right
unfolding table
returns-clause-left_right c = refl

pub returns-clause-from_pending : goal.returns-clause-from_pending
unfolding table
returns-clause-from_pending c = refl

pub returns-clause-lines : goal.returns-clause-lines
unfolding table
returns-clause-lines c = refl

pub returns-clause-absolute : goal.returns-clause-absolute
unfolding table
returns-clause-absolute c = refl

pub returns-clause-greatest : goal.returns-clause-greatest
unfolding table
returns-clause-greatest c = refl

pub returns-clause-too_great : goal.returns-clause-too_great
unfolding table
returns-clause-too_great c = refl
