use Rattle.terminal.proofs.GroupLemmas.{one_run_cut, one_stretch_cut, runs_are_cut, stretches_are_cut}
use Rattle.terminal.proofs.laws.written_cells_have_one_cut.Goals as goal

pub returns-clause-runs : goal.returns-clause-runs
returns-clause-runs c = runs_are_cut

pub returns-clause-one_run : goal.returns-clause-one_run
returns-clause-one_run c = one_run_cut

pub returns-clause-stretches : goal.returns-clause-stretches
returns-clause-stretches c = stretches_are_cut

pub returns-clause-one_stretch : goal.returns-clause-one_stretch
returns-clause-one_stretch c = one_stretch_cut
