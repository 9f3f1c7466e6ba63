use Rattle.std.proofs.Common.{rules, Some}
use Rattle.escape_stream.specs.PiecesView.{HasGiven}
use Rattle.escape_stream.specs.declared.action.Action.TheVariants as action
use Rattle.escape_stream.specs.declared.pieces.Piece.TheVariants as code
use Rattle.escape_stream.proofs.StepLemmas.{steps_given}
use Rattle.escape_stream.proofs.pieces.Reading.step_between.Goals as goal

pub returns-in-Some-clause-steps : goal.returns-in-Some-clause-steps
returns-in-Some-clause-steps g c =
    let given : HasGiven c.args.self.now (Some (code.Action (action.Control c.in-Some.code))) c.read_control.new.self = search rules in
    steps_given g.P.Perform.does g.P.Perform.refuses c.args.self.now c.read_control.new.self c.args.performer.now c.perform.new.performer (code.Action (action.Control c.in-Some.code)) c.perform.result c.requires.going.ready given c.perform.ensures.performs
