-- each computes
use Rattle.std.proofs.Common.{refl}
use Rattle.terminal_table.proofs.Computing.{table}
use Rattle.terminal_table.proofs.examples.erasures.Goals as goal

pub returns-clause-pending : goal.returns-clause-pending
unfolding table
returns-clause-pending c = refl

pub returns-clause-line_end : goal.returns-clause-line_end
unfolding table
returns-clause-line_end c = refl

pub returns-clause-cut : goal.returns-clause-cut
unfolding table
returns-clause-cut c = refl

pub returns-clause-line : goal.returns-clause-line
unfolding table
returns-clause-line c = refl

pub returns-clause-display_end : goal.returns-clause-display_end
unfolding table
returns-clause-display_end c = refl

pub returns-clause-display : goal.returns-clause-display
unfolding table
returns-clause-display c = refl

pub returns-clause-colour : goal.returns-clause-colour
unfolding table
returns-clause-colour c = refl

pub returns-clause-pen : goal.returns-clause-pen
unfolding table
returns-clause-pen c = refl

pub returns-clause-logged : goal.returns-clause-logged
unfolding table
returns-clause-logged c = refl
