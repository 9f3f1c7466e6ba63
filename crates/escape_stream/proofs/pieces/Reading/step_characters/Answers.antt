use Rattle.std.proofs.Common.{rules, Some}
use Rattle.escape_stream.specs.PiecesView.{HasGiven}
use Rattle.escape_stream.specs.declared.action.Action.TheVariants as action
use Rattle.escape_stream.specs.declared.pieces.Piece.TheVariants as code
use Rattle.escape_stream.proofs.StepLemmas.{steps_given}
use Rattle.escape_stream.proofs.pieces.Reading.step_characters.Goals as goal

pub returns-in-Some-clause-steps : goal.returns-in-Some-clause-steps
returns-in-Some-clause-steps g c =
    let given : HasGiven c.args.self.now (Some (code.Text c.in-Some.text)) c.read_text.new.self = search rules in
    steps_given g.P.Perform.does g.P.Perform.refuses c.args.self.now c.read_text.new.self c.args.performer.now c.perform.new.performer (code.Text c.in-Some.text) c.perform.result c.requires.going.ready given c.perform.ensures.performs

pub returns-in-Some-read_stray-clause-steps : goal.returns-in-Some-read_stray-clause-steps
returns-in-Some-read_stray-clause-steps g c =
    let x = code.Action (action.Print c.in-Some-read_stray.character) in
    let given : HasGiven c.args.self.now (Some x) c.read_stray.new.self = search rules in
    steps_given g.P.Perform.does g.P.Perform.refuses c.args.self.now c.read_stray.new.self c.args.performer.now c.perform-in-Some-read_stray.new.performer x c.perform-in-Some-read_stray.result c.requires.going.ready given c.perform-in-Some-read_stray.ensures.performs
