use Rattle.escape_stream.proofs.StepLemmas.{walks_done, walks_early, walks_halted}
use Rattle.escape_stream.proofs.pieces.Reading.hand_open.Goals as goal

pub returns-in-Ok-clause-done : goal.returns-in-Ok-clause-done
returns-in-Ok-clause-done g c = λ start. walks_done g.P.Perform.does c.args.self.now c.walk.new.self c.args.performer.now c.walk.new.performer c.in-Ok.ensures.walks start

pub returns-in-Err-clause-halted : goal.returns-in-Err-clause-halted
returns-in-Err-clause-halted g c = λ start. walks_halted g.P.Perform.does g.P.Perform.refuses c.args.self.now c.walk.new.self c.args.performer.now c.walk.new.performer c.in-Err.halted c.in-Err.ensures.walks start

pub returns-in-Err-clause-early : goal.returns-in-Err-clause-early
returns-in-Err-clause-early g c = λ e. walks_early g.P.Perform.does g.P.Perform.refuses c.args.self.now c.walk.new.self c.args.performer.now c.walk.new.performer c.in-Err.halted c.in-Err.ensures.walks e
