use Rattle.escape_stream.proofs.WritableLemmas.{writable_lists}
use Rattle.escape_stream.proofs.encoding_laws.writable_lists_read_back.Goals as goal

pub returns-clause-actions : goal.returns-clause-actions
returns-clause-actions c = λ actions w. (writable_lists actions w).0

pub returns-clause-whole : goal.returns-clause-whole
returns-clause-whole c = λ actions w. (writable_lists actions w).1
