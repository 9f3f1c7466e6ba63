use Rattle.terminal_table.proofs.ModesLemmas.{plain_terminals_stay}
use Rattle.terminal_table.proofs.RequestLemmas.{plain_acted, plain_acted_changes}
use Rattle.terminal_table.proofs.laws.plain_terminals_have_the_table.Goals as goal

pub returns-clause-state : goal.returns-clause-state
returns-clause-state c = plain_acted

pub returns-clause-changes : goal.returns-clause-changes
returns-clause-changes c = plain_acted_changes

pub returns-clause-stays : goal.returns-clause-stays
returns-clause-stays c = plain_terminals_stay
