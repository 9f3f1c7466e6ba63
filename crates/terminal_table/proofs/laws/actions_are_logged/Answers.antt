use Rattle.terminal_table.proofs.RequestLemmas.{actions_are_logged, actions_keep_states}
use Rattle.terminal_table.proofs.laws.actions_are_logged.Goals as goal

pub returns-clause-logged : goal.returns-clause-logged
returns-clause-logged c = actions_are_logged

pub returns-clause-states : goal.returns-clause-states
returns-clause-states c = actions_keep_states
