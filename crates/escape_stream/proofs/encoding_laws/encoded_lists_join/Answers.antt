use Rattle.escape_stream.proofs.StreamLemmas.{texts_join-lem}
use Rattle.escape_stream.proofs.encoding_laws.encoded_lists_join.Goals as goal

pub returns : goal.returns
returns c = texts_join-lem
