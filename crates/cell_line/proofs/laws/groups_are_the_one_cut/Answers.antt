use Rattle.cell_views.proofs.GroupLemmas.{groups_are_cut, one_cut}
use Rattle.cell_line.proofs.laws.groups_are_the_one_cut.Goals as goal

pub returns-clause-cut : goal.returns-clause-cut
returns-clause-cut c = groups_are_cut

pub returns-clause-one : goal.returns-clause-one
returns-clause-one c = one_cut
