-- each computes
use Rattle.std.proofs.Common.{refl}
use Rattle.terminal_table.proofs.Computing.{table}
use Rattle.terminal_table.proofs.examples.pens.Goals as goal

pub returns-clause-attributes : goal.returns-clause-attributes
unfolding table
returns-clause-attributes c = refl

pub returns-clause-overline : goal.returns-clause-overline
unfolding table
returns-clause-overline c = refl

pub returns-clause-colour : goal.returns-clause-colour
unfolding table
returns-clause-colour c = refl

pub returns-clause-reset : goal.returns-clause-reset
unfolding table
returns-clause-reset c = refl

pub returns-clause-linked : goal.returns-clause-linked
unfolding table
returns-clause-linked c = refl

pub returns-clause-link_ends : goal.returns-clause-link_ends
unfolding table
returns-clause-link_ends c = refl

pub returns-clause-fonts : goal.returns-clause-fonts
unfolding table
returns-clause-fonts c = refl
