use Rattle.cell_base.specs.Screen.{height}
use Rattle.screen_difference.specs.FreshCells.{screen_fresh}
use Rattle.screen_difference.proofs.RegionLemmas.{region_positions}
use Rattle.screen_difference.proofs.SpaceLemmas.{sound_space}
use Rattle.screen_difference.proofs.DifferencePrints.{difference_prints}
use Rattle.screen_difference.proofs.print_laws.differences_print_the_fresh_cells.Goals as goal

pub returns-clause-cells : goal.returns-clause-cells
returns-clause-cells c = λ width_of d cells h p. (difference_prints width_of d cells p).prints

pub returns-clause-still : goal.returns-clause-still
returns-clause-still c = λ width_of d cells h p. (difference_prints width_of d cells p).still

pub returns-clause-screens : goal.returns-clause-screens
returns-clause-screens c = λ width_of d new e h w p.
    let s = d.screen in
    (difference_prints width_of d (screen_fresh s new) (region_positions width_of s 0 0 s.width (height s) new.rows 0 0 (sound_space width_of e) h.lawful w p)).prints

pub returns-clause-screens_still : goal.returns-clause-screens_still
returns-clause-screens_still c = λ width_of d new e h w p.
    let s = d.screen in
    (difference_prints width_of d (screen_fresh s new) (region_positions width_of s 0 0 s.width (height s) new.rows 0 0 (sound_space width_of e) h.lawful w p)).still
