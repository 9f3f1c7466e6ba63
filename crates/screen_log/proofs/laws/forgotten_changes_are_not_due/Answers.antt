use Rattle.screen_log.proofs.DueLemmas.{due_forgotten}
use Rattle.screen_log.proofs.laws.forgotten_changes_are_not_due.Goals as goal

pub returns : goal.returns
returns c = λ log before number. due_forgotten log.most log.log before number
