use Rattle.terminal_table.proofs.JoinLemmas.{held_alike, alike_state, alike_held, alike_logged}
use Rattle.terminal_table.proofs.laws.unfinished_ends_matter.Goals as goal

pub returns-clause-held : goal.returns-clause-held
returns-clause-held c = held_alike c.held_is_enough.ensures.decides

pub returns-clause-state : goal.returns-clause-state
returns-clause-state c = alike_state c.actions_of_chunks_join.ensures

pub returns-clause-run : goal.returns-clause-run
returns-clause-run c = alike_held c.actions_of_chunks_join.ensures

pub returns-clause-logged : goal.returns-clause-logged
returns-clause-logged c = alike_logged c.actions_of_chunks_join.ensures
