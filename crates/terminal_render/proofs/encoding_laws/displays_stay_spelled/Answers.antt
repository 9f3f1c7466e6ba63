use Rattle.terminal_render.proofs.DisplayLemmas.{effect_spelled, new_spelled, resized_spelled}
use Rattle.terminal_render.proofs.encoding_laws.displays_stay_spelled.Goals as goal

pub returns-clause-new : goal.returns-clause-new
returns-clause-new c = new_spelled

pub returns-clause-effect : goal.returns-clause-effect
returns-clause-effect c = effect_spelled

pub returns-clause-resized : goal.returns-clause-resized
returns-clause-resized c = resized_spelled
