use Rattle.escape_framing.proofs.PlacedLemmas.{all_placed, all_collected}
use Rattle.escape_framing.proofs.laws.offsets.Goals as goal

pub returns-clause-placed : goal.returns-clause-placed
returns-clause-placed c = all_placed

pub returns-clause-all : goal.returns-clause-all
returns-clause-all c = all_collected
