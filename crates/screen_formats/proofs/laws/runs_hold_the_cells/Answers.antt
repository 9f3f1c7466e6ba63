use Rattle.cell_views.proofs.GroupLemmas.{groups_are_cut}
use Rattle.screen_formats.specs.Runs.{begins_run}
use Rattle.screen_formats.proofs.RunLemmas.{cells_render_as_runs}
use Rattle.screen_formats.proofs.laws.runs_hold_the_cells.Goals as goal

pub returns-clause-cut : goal.returns-clause-cut
returns-clause-cut c cells = groups_are_cut begins_run cells

pub returns-clause-renditions : goal.returns-clause-renditions
returns-clause-renditions c = cells_render_as_runs
