use Rattle.std.proofs.Common.{ap}
use Rattle.escape_framing.specs.declared.states.Stepped.{Stepped}
use Rattle.escape_framing.proofs.StateLemmas.{command_left, escape_stops, bell_goes}
use Rattle.escape_framing.proofs.framer.Framer.in_command.Goals as goal

pub returns-then-byte-eq-BEL-clause-read : goal.returns-then-byte-eq-BEL-clause-read
returns-then-byte-eq-BEL-clause-read c = bell_goes c.read.result c.args.byte c.if-byte-eq-BEL.true (ap (λ (r : Stepped). r.is_read) c.read.ensures)

pub returns-then-byte-eq-ESCAPE-clause-steps : goal.returns-then-byte-eq-ESCAPE-clause-steps
returns-then-byte-eq-ESCAPE-clause-steps c = command_left c.args.self.now c.close-then-byte-eq-ESCAPE.new.self c.left.result c.args.byte c.if-byte-eq-ESCAPE.true c.close-then-byte-eq-ESCAPE.ensures c.left.ensures

pub returns-then-byte-eq-ESCAPE-clause-read : goal.returns-then-byte-eq-ESCAPE-clause-read
returns-then-byte-eq-ESCAPE-clause-read c = escape_stops c.left.result c.args.byte c.if-byte-eq-ESCAPE.true (ap (λ (r : Stepped). r.is_read) c.left.ensures)
