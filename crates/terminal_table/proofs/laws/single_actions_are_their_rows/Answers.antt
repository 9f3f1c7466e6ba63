use Rattle.terminal_table.proofs.SingleLemmas.{single_state, single_logged, single_idle}
use Rattle.terminal_table.proofs.laws.single_actions_are_their_rows.Goals as goal

pub returns-clause-state : goal.returns-clause-state
returns-clause-state c = single_state c.idle_streams.ensures.idle c.writable_lists_read_on.ensures.actions

pub returns-clause-logged : goal.returns-clause-logged
returns-clause-logged c = single_logged c.idle_streams.ensures.idle c.writable_lists_read_on.ensures.actions

pub returns-clause-idle : goal.returns-clause-idle
returns-clause-idle c = single_idle c.idle_streams.ensures.idle c.writable_lists_read_on.ensures.actions c.idle_streams.ensures.whole c.writable_lists_read_on.ensures.whole
