use Rattle.terminal_viewers.proofs.SpellLemmas.{painted_has, update_has}
use Rattle.terminal_viewers.proofs.update_laws.updates_have_encodings.Goals as goal

pub returns-clause-painted : goal.returns-clause-painted
returns-clause-painted c = painted_has

pub returns-clause-update : goal.returns-clause-update
returns-clause-update c = update_has
