-- each computes
use Rattle.std.proofs.Common.{refl}
use Rattle.terminal_table.proofs.Computing.{table}
use Rattle.terminal_table.proofs.examples.saved_cursors.Goals as goal

pub returns-clause-restored : goal.returns-clause-restored
unfolding table
returns-clause-restored c = refl

pub returns-clause-twice : goal.returns-clause-twice
unfolding table
returns-clause-twice c = refl

pub returns-clause-none_saved : goal.returns-clause-none_saved
unfolding table
returns-clause-none_saved c = refl

pub returns-clause-resized : goal.returns-clause-resized
unfolding table
returns-clause-resized c = refl

pub returns-clause-reset : goal.returns-clause-reset
unfolding table
returns-clause-reset c = refl

pub returns-clause-reset_logged : goal.returns-clause-reset_logged
unfolding table
returns-clause-reset_logged c = refl

pub returns-clause-reset_title : goal.returns-clause-reset_title
unfolding table
returns-clause-reset_title c = refl

pub returns-clause-title_kept : goal.returns-clause-title_kept
unfolding table
returns-clause-title_kept c = refl
