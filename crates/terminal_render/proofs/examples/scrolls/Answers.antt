-- each computes
use Rattle.std.proofs.Common.{refl}
use Rattle.terminal_render.proofs.Computing.{sending}
use Rattle.terminal_render.proofs.examples.scrolls.Goals as goal

pub returns-clause-none : goal.returns-clause-none
unfolding sending
returns-clause-none c = refl

pub returns-clause-some : goal.returns-clause-some
unfolding sending
returns-clause-some c = refl

pub returns-clause-all : goal.returns-clause-all
unfolding sending
returns-clause-all c = refl

pub returns-clause-down : goal.returns-clause-down
unfolding sending
returns-clause-down c = refl

pub returns-clause-part : goal.returns-clause-part
unfolding sending
returns-clause-part c = refl

pub returns-clause-none_of_a_part : goal.returns-clause-none_of_a_part
unfolding sending
returns-clause-none_of_a_part c = refl

pub returns-clause-lower_part : goal.returns-clause-lower_part
unfolding sending
returns-clause-lower_part c = refl

pub returns-clause-past : goal.returns-clause-past
unfolding sending
returns-clause-past c = refl
