use Rattle.escape_stream.proofs.ReadFormLemmas.{read_forms-lem}
use Rattle.escape_stream.proofs.encoding_laws.read_forms_encode_alike.Goals as goal

pub returns : goal.returns
returns c = read_forms-lem
