use Rattle.terminal_table.proofs.ReplyLemmas.{after_separate, logged_separate}
use Rattle.terminal_table.proofs.laws.replies_are_separate.Goals as goal

pub returns-clause-after : goal.returns-clause-after
returns-clause-after c = after_separate

pub returns-clause-logged : goal.returns-clause-logged
returns-clause-logged c = logged_separate
