use Rattle.cell_base.specs.Screen.{height}
use Rattle.screen_difference.specs.FreshCells.{screen_fresh}
use Rattle.screen_difference.proofs.ClusterLemmas.{placed_are_printed, printed_are_cells}
use Rattle.screen_difference.proofs.RegionLemmas.{region_positions}
use Rattle.screen_difference.proofs.SpaceLemmas.{sound_space}
use Rattle.screen_difference.proofs.laws.differences_print_their_cells.Goals as goal

pub returns-clause-cells : goal.returns-clause-cells
returns-clause-cells c = printed_are_cells

pub returns-clause-screens : goal.returns-clause-screens
returns-clause-screens c = λ width_of old new e h w p.
    placed_are_printed width_of old.width (height old) (screen_fresh old new) (region_positions width_of old 0 0 old.width (height old) new.rows 0 0 (sound_space width_of e) h w p)
