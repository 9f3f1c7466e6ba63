use Rattle.std.proofs.Common.{rules, Some}
use Rattle.escape_stream.specs.PiecesView.{AsksMemory, HasGiven}
use Rattle.escape_stream.specs.Walking.{with_list}
use Rattle.escape_stream.specs.declared.action.Action.TheVariants as action
use Rattle.escape_stream.specs.declared.pieces.Piece.TheVariants as code
use Rattle.escape_stream.proofs.StepLemmas.{steps_given, steps_goes, steps_asks}
use Rattle.escape_stream.proofs.pieces.Reading.step_escape.Goals as goal

pub returns-in-Some-clause-steps : goal.returns-in-Some-clause-steps
returns-in-Some-clause-steps g c =
    let list = c.in-Some.list in
    steps_goes g.P.Perform.does g.P.Perform.refuses c.args.self.now (with_list c.read_list.new.self c.start.result list.now c.in-Some.control) c.hand_list.new.self c.args.performer.now c.hand_list.new.performer c.hand_list.result
    (c.in-Some.ensures.reads c.start.result c.start.ensures) c.hand_list.ensures.steps

pub returns-in-Some-read_escape-clause-steps : goal.returns-in-Some-read_escape-clause-steps
returns-in-Some-read_escape-clause-steps g c =
    let given : HasGiven c.args.self.now (Some (code.Action (action.Esc c.in-Some-read_escape.pair))) c.read_escape.new.self = search rules in
    steps_given g.P.Perform.does g.P.Perform.refuses c.args.self.now c.read_escape.new.self c.args.performer.now c.perform_other.new.performer (code.Action (action.Esc c.in-Some-read_escape.pair)) c.perform_other.result c.requires.going.ready given c.perform_other.ensures.performs

pub returns-in-Some-Ok-clause-steps : goal.returns-in-Some-Ok-clause-steps
returns-in-Some-Ok-clause-steps g c =
    let given : HasGiven c.args.self.now (Some (code.Action c.in-Some-Ok.action)) c.read_command.new.self = search rules in
    steps_given g.P.Perform.does g.P.Perform.refuses c.args.self.now c.read_command.new.self c.args.performer.now c.perform_other-in-Some-Ok.new.performer (code.Action c.in-Some-Ok.action) c.perform_other-in-Some-Ok.result c.requires.going.ready given c.perform_other-in-Some-Ok.ensures.performs

pub returns-in-Some-Err-clause-steps : goal.returns-in-Some-Err-clause-steps
returns-in-Some-Err-clause-steps g c =
    let asks : AsksMemory c.args.self.now = search rules in
    steps_asks g.P.Perform.does g.P.Perform.refuses c.args.self.now c.read_command.new.self c.args.performer.now c.requires.going.ready asks
