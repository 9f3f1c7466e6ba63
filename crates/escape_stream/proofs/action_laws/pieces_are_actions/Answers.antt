use Rattle.escape_stream.proofs.SpellLemmas.{pieces_spell}
use Rattle.escape_stream.proofs.SpokenLemmas.{pieces_say}
use Rattle.escape_stream.proofs.SeparatePieces.{pieces_separate}
use Rattle.escape_stream.proofs.action_laws.pieces_are_actions.Goals as goal

pub returns-clause-placed : goal.returns-clause-placed
returns-clause-placed c = pieces_spell

pub returns-clause-decided : goal.returns-clause-decided
returns-clause-decided c = pieces_say

pub returns-clause-separate : goal.returns-clause-separate
returns-clause-separate c = pieces_separate
