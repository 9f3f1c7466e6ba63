use Rattle.std.proofs.Common.{[], ◌∙◌, sym}
use Rattle.escape_framing.specs.Held.{nothing_held}
use Rattle.escape_stream.proofs.PendingLemmas.{held_end}
use Rattle.escape_stream.proofs.parser.Parser.new.Goals as goal

pub invariant_of-result : goal.invariant_of-result
invariant_of-result c = λ _. ([], c.new.ensures.held ∙ sym (held_end nothing_held))

pub returns-clause-held : goal.returns-clause-held
returns-clause-held c = c.new.ensures.held ∙ sym (held_end nothing_held)
