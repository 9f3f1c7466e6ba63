use Rattle.screen_log.proofs.LogLemmas.{same_due, same_number}
use Rattle.screen_log.proofs.laws.nothing_due_is_lost.Goals as goal

pub returns-clause-due : goal.returns-clause-due
returns-clause-due c = same_due

pub returns-clause-number : goal.returns-clause-number
returns-clause-number c = same_number
