use Rattle.escape_stream.proofs.StepLemmas.{steps_at_end}
use Rattle.escape_stream.proofs.pieces.Reading.step.Goals as goal

pub returns-then-self-clause-steps : goal.returns-then-self-clause-steps
returns-then-self-clause-steps g c =
    steps_at_end g.P.Perform.does g.P.Perform.refuses c.args.self.now c.args.performer.now c.requires.going.ready (c.is_between.ensures.over c.if-not-is_between.false) c.if-self.true
