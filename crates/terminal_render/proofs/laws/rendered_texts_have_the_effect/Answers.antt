use Rattle.terminal_render.proofs.FedLemmas.{texts_have_the_effect, texts_leave_idle}
use Rattle.terminal_render.proofs.laws.rendered_texts_have_the_effect.Goals as goal

pub returns-clause-effect : goal.returns-clause-effect
returns-clause-effect c = texts_have_the_effect c.idle_streams.ensures.idle c.idle_streams.ensures.whole c.writable_lists_read_on.ensures.actions c.writable_lists_read_on.ensures.whole

pub returns-clause-idle : goal.returns-clause-idle
returns-clause-idle c = texts_leave_idle c.idle_streams.ensures.idle c.idle_streams.ensures.whole c.writable_lists_read_on.ensures.actions c.writable_lists_read_on.ensures.whole
