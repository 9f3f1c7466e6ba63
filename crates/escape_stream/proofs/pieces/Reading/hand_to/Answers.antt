use Rattle.escape_stream.proofs.StepLemmas.{asks_later}
use Rattle.escape_stream.proofs.pieces.Reading.hand_to.Goals as goal

pub returns-in-Open-clause-memory : goal.returns-in-Open-clause-memory
returns-in-Open-clause-memory g c = λ e. asks_later g.P.Perform.does c.args.self.now c.args.performer.now c.hand_open-result.new.performer (c.hand_open-result.ensures.early e)
