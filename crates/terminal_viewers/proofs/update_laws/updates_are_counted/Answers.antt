use Rattle.terminal_viewers.proofs.CountLemmas.{painted_count, update_count}
use Rattle.terminal_viewers.proofs.update_laws.updates_are_counted.Goals as goal

pub returns-clause-painted : goal.returns-clause-painted
returns-clause-painted c = painted_count

pub returns-clause-update : goal.returns-clause-update
returns-clause-update c = update_count
