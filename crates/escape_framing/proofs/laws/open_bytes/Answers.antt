use Rattle.escape_framing.proofs.LengthenedLemmas.{lengthened_is_open, open_is_lengthened}
use Rattle.escape_framing.proofs.laws.open_bytes.Goals as goal

pub returns-clause-lengthened : goal.returns-clause-lengthened
returns-clause-lengthened c = lengthened_is_open

pub returns-clause-open_ones : goal.returns-clause-open_ones
returns-clause-open_ones c = open_is_lengthened
