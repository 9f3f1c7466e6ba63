use Rattle.std.proofs.Common.{rules, Some}
use Rattle.escape_stream.specs.PiecesView.{HasGiven}
use Rattle.escape_stream.specs.declared.action.Action.TheVariants as action
use Rattle.escape_stream.specs.declared.device.DeviceControlMode.TheVariants as part
use Rattle.escape_stream.specs.declared.pieces.Piece.TheVariants as code
use Rattle.escape_stream.proofs.StepLemmas.{steps_given}
use Rattle.escape_stream.proofs.pieces.Reading.step_open.Goals as goal

pub returns-clause-steps : goal.returns-clause-steps
returns-clause-steps g c =
    let x = code.Action (action.DeviceControl (part.Data c.in-Some.byte)) in
    let given : HasGiven c.args.self.now (Some x) c.read_data.new.self = search rules in
    steps_given g.P.Perform.does g.P.Perform.refuses c.args.self.now c.read_data.new.self c.args.performer.now c.perform.new.performer x c.perform.result c.requires.going.ready given c.perform.ensures.performs
