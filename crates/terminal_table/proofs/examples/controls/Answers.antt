-- each computes
use Rattle.std.proofs.Common.{refl}
use Rattle.terminal_table.proofs.Computing.{table}
use Rattle.terminal_table.proofs.examples.controls.Goals as goal

pub returns-clause-backspace : goal.returns-clause-backspace
unfolding table
returns-clause-backspace c = refl

pub returns-clause-first : goal.returns-clause-first
unfolding table
returns-clause-first c = refl

pub returns-clause-tab : goal.returns-clause-tab
unfolding table
returns-clause-tab c = refl

pub returns-clause-line_feeds : goal.returns-clause-line_feeds
unfolding table
returns-clause-line_feeds c = refl

pub returns-clause-pending : goal.returns-clause-pending
unfolding table
returns-clause-pending c = refl

pub returns-clause-returns : goal.returns-clause-returns
unfolding table
returns-clause-returns c = refl

pub returns-clause-index : goal.returns-clause-index
unfolding table
returns-clause-index c = refl

pub returns-clause-next_line : goal.returns-clause-next_line
unfolding table
returns-clause-next_line c = refl

pub returns-clause-reverse : goal.returns-clause-reverse
unfolding table
returns-clause-reverse c = refl

pub returns-clause-reverse_up : goal.returns-clause-reverse_up
unfolding table
returns-clause-reverse_up c = refl
