use Rattle.terminal_render.proofs.ListLemmas.{lists_have_the_effect, list_texts_have_the_effect, list_texts_leave_idle}
use Rattle.terminal_render.proofs.laws.lists_have_the_effect.Goals as goal

pub returns-clause-actions : goal.returns-clause-actions
returns-clause-actions c = lists_have_the_effect

pub returns-clause-texts : goal.returns-clause-texts
returns-clause-texts c = list_texts_have_the_effect c.idle_streams.ensures.idle c.idle_streams.ensures.whole c.writable_lists_read_on.ensures.actions c.writable_lists_read_on.ensures.whole

pub returns-clause-idle : goal.returns-clause-idle
returns-clause-idle c = list_texts_leave_idle c.idle_streams.ensures.idle c.idle_streams.ensures.whole c.writable_lists_read_on.ensures.actions c.writable_lists_read_on.ensures.whole
