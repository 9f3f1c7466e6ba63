use Rattle.screen_log.proofs.DueLemmas.{counts_one, counts_none}
use Rattle.screen_log.proofs.laws.other_sizes_empty_the_log.Goals as goal

pub returns-clause-counted : goal.returns-clause-counted
returns-clause-counted c = counts_one

pub returns-clause-empty : goal.returns-clause-empty
returns-clause-empty c = counts_none
