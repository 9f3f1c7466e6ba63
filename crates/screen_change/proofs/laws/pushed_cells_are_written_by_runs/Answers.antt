use Rattle.screen_change.proofs.RunLemmas.{cells_are_written, pen_is_after}
use Rattle.screen_change.proofs.laws.pushed_cells_are_written_by_runs.Goals as goal

pub returns-clause-changes : goal.returns-clause-changes
returns-clause-changes c = cells_are_written

pub returns-clause-pen : goal.returns-clause-pen
returns-clause-pen c = pen_is_after
