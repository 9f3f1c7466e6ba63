-- each computes
use Rattle.std.proofs.Common.{refl}
use Rattle.terminal_render.proofs.Computing.{sending}
use Rattle.terminal_render.proofs.examples.clears.Goals as goal

pub returns-clause-screen : goal.returns-clause-screen
unfolding sending
returns-clause-screen c = refl

pub returns-clause-line : goal.returns-clause-line
unfolding sending
returns-clause-line c = refl

pub returns-clause-below : goal.returns-clause-below
unfolding sending
returns-clause-below c = refl

pub returns-clause-fallback : goal.returns-clause-fallback
unfolding sending
returns-clause-fallback c = refl
