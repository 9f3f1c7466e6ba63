use Rattle.escape_framing.proofs.PlacedLemmas.{newly_join}
use Rattle.escape_framing.proofs.laws.chunks_join.Goals as goal

pub returns : goal.returns
returns c = newly_join
