use Rattle.std.proofs.Common.{map, ap}
use Rattle.escape_stream.specs.StreamActionView.{value_of}
use Rattle.escape_stream.proofs.HandLemmas.{joined_newly}
use Rattle.escape_stream.proofs.parser.Parser.parse_as_vec.Goals as goal

pub returns-in-Ok-clause-actions : goal.returns-in-Ok-clause-actions
returns-in-Ok-clause-actions c = λ stream e. joined_newly (λ p. map value_of p.actions.items) _ stream c.args.bytes.now _ (ap (map value_of) c.new.ensures.items) (c.in-Ok.ensures.done stream e)
