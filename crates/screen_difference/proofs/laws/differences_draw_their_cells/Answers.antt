use Rattle.screen_difference.proofs.DrawnLemmas.{difference_is_drawn}
use Rattle.screen_difference.proofs.RegionLemmas.{lines_positions, rest_stay, region_positions}
use Rattle.screen_difference.proofs.SpaceLemmas.{sound_space}
use Rattle.screen_difference.proofs.laws.differences_draw_their_cells.Goals as goal

pub returns-clause-drawn : goal.returns-clause-drawn
returns-clause-drawn c = difference_is_drawn

pub returns-clause-remaining : goal.returns-clause-remaining
returns-clause-remaining c = rest_stay

pub returns-clause-region : goal.returns-clause-region
returns-clause-region c = λ width_of s x y width rows news other_x other_y e. region_positions width_of s x y width rows news other_x other_y (sound_space width_of e)

pub returns-clause-lines : goal.returns-clause-lines
returns-clause-lines c = λ width_of s y news e. lines_positions width_of s y news (sound_space width_of e)
