use Rattle.screen_difference.proofs.RegionLemmas.{lines_are_shown, region_is_shown, screen_is_shown}
use Rattle.screen_difference.proofs.SpaceLemmas.{sound_space}
use Rattle.screen_difference.proofs.laws.differences_show_the_new_side.Goals as goal

pub returns-clause-region : goal.returns-clause-region
returns-clause-region c = λ width_of d x y width rows news other_x other_y e. region_is_shown width_of d x y width rows news other_x other_y (sound_space width_of e)

pub returns-clause-lines : goal.returns-clause-lines
returns-clause-lines c = λ width_of d y news e. lines_are_shown width_of d y news (sound_space width_of e)

pub returns-clause-screens : goal.returns-clause-screens
returns-clause-screens c = λ width_of d new e. screen_is_shown width_of d new (sound_space width_of e)
