use Rattle.escape_framing.proofs.HeldLemmas.{newly_handed, held_append}
use Rattle.escape_framing.proofs.laws.held_is_enough.Goals as goal

pub returns-clause-decides : goal.returns-clause-decides
returns-clause-decides c = newly_handed

pub returns-clause-goes_on : goal.returns-clause-goes_on
returns-clause-goes_on c = held_append
