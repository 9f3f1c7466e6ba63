use Rattle.screen_effects.proofs.SoundLemmas.{new_is_sound, effect_is_sound, resized_is_sound}
use Rattle.screen_effects.proofs.replay_laws.cells_stay_sound.Goals as goal

pub returns-clause-new : goal.returns-clause-new
returns-clause-new c = new_is_sound

pub returns-clause-effect : goal.returns-clause-effect
returns-clause-effect c = effect_is_sound

pub returns-clause-resized : goal.returns-clause-resized
returns-clause-resized c = resized_is_sound
