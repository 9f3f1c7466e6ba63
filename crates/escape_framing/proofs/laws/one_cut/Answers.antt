use Rattle.escape_framing.proofs.Existence.CutLemmas.{is_the_cut}
use Rattle.escape_framing.proofs.UniqueLemmas.{same_cut}
use Rattle.escape_framing.proofs.laws.one_cut.Goals as goal

pub returns-clause-cut : goal.returns-clause-cut
returns-clause-cut c = is_the_cut

pub returns-clause-only : goal.returns-clause-only
returns-clause-only c = same_cut
