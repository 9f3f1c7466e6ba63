use Rattle.std.proofs.Common.{Bool, subst, ◌∙◌}
use Rattle.std.specs.Prelude.{Ok}
use Rattle.escape_stream.specs.Walking.{StepsTo}
use Rattle.escape_stream.proofs.StepLemmas.{steps_on, steps_end, steps_later}
use Rattle.escape_stream.proofs.pieces.Reading.walk.Goals as goal

pub loop-halted-preserved : goal.loop-halted-preserved
loop-halted-preserved g c =
    let s = c.in-Ok-false.ensures in
    let i = c.loop-halted.invariant in
    let steps = subst (λ (x : Bool). StepsTo g.P.Perform.does g.P.Perform.refuses c.loop-halted.self c.loop-halted.performer (Ok x) c.step.new.self c.step.new.performer) c.in-Ok-false.field-0-test c.in-Ok-false.ensures.steps in
    record {
      going = record { «open» = s.stage ∙ i.going.open; ready = steps.0.ready; failed = s.failed };
      same = s.same ∙ i.same;
      stage = s.stage ∙ i.stage;
      ready = s.ready;
      reached = steps_on g.P.Perform.does g.P.Perform.refuses c.args.self.now c.loop-halted.self c.step.new.self c.args.performer.now c.loop-halted.performer c.step.new.performer i.reached steps;
    }

pub loop-halted-smaller : goal.loop-halted-smaller
loop-halted-smaller g c = (subst (λ (x : Bool). StepsTo g.P.Perform.does g.P.Perform.refuses c.loop-halted.self c.loop-halted.performer (Ok x) c.step.new.self c.step.new.performer) c.in-Ok-false.field-0-test c.in-Ok-false.ensures.steps).1

pub returns-in-Ok-true-clause-walks : goal.returns-in-Ok-true-clause-walks
returns-in-Ok-true-clause-walks g c =
    steps_end g.P.Perform.does g.P.Perform.refuses c.args.self.now c.loop-halted.self c.step.new.self c.args.performer.now c.loop-halted.performer c.step.new.performer c.loop-halted.invariant.reached (subst (λ (x : Bool). StepsTo g.P.Perform.does g.P.Perform.refuses c.loop-halted.self c.loop-halted.performer (Ok x) c.step.new.self c.step.new.performer) c.in-Ok-true.field-0-test c.in-Ok-true.ensures.steps)

pub returns-in-Err-clause-walks : goal.returns-in-Err-clause-walks
returns-in-Err-clause-walks g c =
    steps_later g.P.Perform.does g.P.Perform.refuses c.args.self.now c.loop-halted.self c.step.new.self c.args.performer.now c.loop-halted.performer c.step.new.performer c.in-Err.halted c.loop-halted.invariant.reached c.in-Err.ensures.steps
