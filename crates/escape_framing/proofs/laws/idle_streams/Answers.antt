use Rattle.escape_framing.proofs.IdleLemmas.{idle_is_whole, whole_is_idle}
use Rattle.escape_framing.proofs.laws.idle_streams.Goals as goal

pub returns-clause-idle : goal.returns-clause-idle
returns-clause-idle c = idle_is_whole

pub returns-clause-whole : goal.returns-clause-whole
returns-clause-whole c = whole_is_idle
