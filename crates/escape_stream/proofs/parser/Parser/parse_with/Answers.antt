use Rattle.escape_stream.proofs.HandLemmas.{called_newly}
use Rattle.escape_stream.proofs.parser.Parser.parse_with.Goals as goal

pub returns-in-Ok-clause-called : goal.returns-in-Ok-clause-called
returns-in-Ok-clause-called g c = λ stream e. called_newly (λ p. p.callback) _ _ stream c.args.bytes.now _ (c.in-Ok.ensures.done stream e)
