use Rattle.escape_framing.proofs.UndecidedLemmas.{undecided}
use Rattle.escape_framing.proofs.laws.as_soon_as_decided.Goals as goal

pub returns : goal.returns
returns c = undecided
