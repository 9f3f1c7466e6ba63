-- each computes
use Rattle.std.proofs.Common.{refl}
use Rattle.terminal_table.proofs.Computing.{table}
use Rattle.terminal_table.proofs.examples.titles_and_replies.Goals as goal

pub returns-clause-title : goal.returns-clause-title
unfolding table
returns-clause-title c = refl

pub returns-clause-title_logged : goal.returns-clause-title_logged
unfolding table
returns-clause-title_logged c = refl

pub returns-clause-other_titles : goal.returns-clause-other_titles
unfolding table
returns-clause-other_titles c = refl

pub returns-clause-home : goal.returns-clause-home
unfolding table
returns-clause-home c = refl

pub returns-clause-pending : goal.returns-clause-pending
unfolding table
returns-clause-pending c = refl

pub returns-clause-nothing_logged : goal.returns-clause-nothing_logged
unfolding table
returns-clause-nothing_logged c = refl
