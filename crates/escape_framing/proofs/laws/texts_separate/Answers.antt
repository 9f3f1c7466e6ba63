use Rattle.escape_framing.proofs.SeparateLemmas.{side_by_side}
use Rattle.escape_framing.proofs.laws.texts_separate.Goals as goal

pub returns : goal.returns
returns c = side_by_side
