use Rattle.screen_log.proofs.DueLemmas.{due_later, nothing_newer}
use Rattle.screen_log.proofs.laws.another_change_is_due_last.Goals as goal

pub returns-clause-due : goal.returns-clause-due
returns-clause-due c = λ log change number. due_later log.most log.log change number

pub returns-clause-seen : goal.returns-clause-seen
returns-clause-seen c = λ log change. nothing_newer log.most log.log change
