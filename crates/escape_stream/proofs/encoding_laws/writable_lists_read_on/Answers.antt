use Rattle.escape_stream.proofs.WritableLemmas.{writable_after}
use Rattle.escape_stream.proofs.encoding_laws.writable_lists_read_on.Goals as goal

pub returns-clause-actions : goal.returns-clause-actions
returns-clause-actions c = λ stream actions e w. (writable_after stream actions e w).0

pub returns-clause-whole : goal.returns-clause-whole
returns-clause-whole c = λ stream actions e w. (writable_after stream actions e w).1
