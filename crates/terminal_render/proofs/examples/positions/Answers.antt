-- each computes
use Rattle.std.proofs.Common.{refl}
use Rattle.terminal_render.proofs.Computing.{sending}
use Rattle.terminal_render.proofs.examples.positions.Goals as goal

pub returns-clause-next_row : goal.returns-clause-next_row
unfolding sending
returns-clause-next_row c = refl

pub returns-clause-same_row : goal.returns-clause-same_row
unfolding sending
returns-clause-same_row c = refl

pub returns-clause-up : goal.returns-clause-up
unfolding sending
returns-clause-up c = refl

pub returns-clause-nothing : goal.returns-clause-nothing
unfolding sending
returns-clause-nothing c = refl

pub returns-clause-from_end : goal.returns-clause-from_end
unfolding sending
returns-clause-from_end c = refl

pub returns-clause-past_last_row : goal.returns-clause-past_last_row
unfolding sending
returns-clause-past_last_row c = refl

pub returns-clause-pending : goal.returns-clause-pending
unfolding sending
returns-clause-pending c = refl

pub returns-clause-last_column : goal.returns-clause-last_column
unfolding sending
returns-clause-last_column c = refl

pub returns-clause-back : goal.returns-clause-back
unfolding sending
returns-clause-back c = refl

pub returns-clause-right : goal.returns-clause-right
unfolding sending
returns-clause-right c = refl

pub returns-clause-right_and_up : goal.returns-clause-right_and_up
unfolding sending
returns-clause-right_and_up c = refl

pub returns-clause-far : goal.returns-clause-far
unfolding sending
returns-clause-far c = refl
