use Rattle.screen_effects.proofs.EffectLaws.{effect_is, replay_is, resized_is}
use Rattle.screen_effects.proofs.StrokeLaws.{new_display_is}
use Rattle.screen_effects.proofs.laws.displays_stay_lawful.Goals as goal

pub returns-clause-new : goal.returns-clause-new
returns-clause-new c = new_display_is

pub returns-clause-effect : goal.returns-clause-effect
returns-clause-effect c = effect_is

pub returns-clause-replay : goal.returns-clause-replay
returns-clause-replay c = replay_is

pub returns-clause-resized : goal.returns-clause-resized
returns-clause-resized c = resized_is
