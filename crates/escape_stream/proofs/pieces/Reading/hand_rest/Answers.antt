use Rattle.escape_stream.specs.Walking.{with_list}
use Rattle.escape_stream.proofs.SequenceLemmas.{kept_goes}
use Rattle.escape_stream.proofs.StepLemmas.{steps_goes}
use Rattle.escape_stream.proofs.pieces.Reading.hand_rest.Goals as goal

pub returns-clause-steps : goal.returns-clause-steps
returns-clause-steps g c =
    let it = c.args.self.now in
    steps_goes g.P.Perform.does g.P.Perform.refuses (with_list it c.args.start c.args.list.now c.args.control) c.keep.new.self c.step_open.new.self c.args.performer.now c.step_open.new.performer c.step_open.result
    (kept_goes it c.args.start c.args.list.now c.args.control c.keep.new.self c.requires.going.ready c.keep.ensures) c.step_open.ensures.steps
