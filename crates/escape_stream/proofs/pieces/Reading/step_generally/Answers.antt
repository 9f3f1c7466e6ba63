use Rattle.std.proofs.Common.{rules, Option, subst}
use Rattle.escape_stream.specs.PiecesView.{AsksMemory, HasGiven}
use Rattle.escape_stream.specs.declared.pieces.Piece.{Piece as PieceCode}
use Rattle.escape_stream.proofs.StepLemmas.{steps_asks, steps_given, steps_none}
use Rattle.escape_stream.proofs.pieces.Reading.step_generally.Goals as goal

pub returns-in_default-clause-steps : goal.returns-in_default-clause-steps
returns-in_default-clause-steps g c =
    let asks : AsksMemory c.args.self.now = search rules in
    steps_asks g.P.Perform.does g.P.Perform.refuses c.args.self.now c.find.new.self c.args.performer.now c.requires.going.ready asks

pub returns-in-Some-clause-steps : goal.returns-in-Some-clause-steps
returns-in-Some-clause-steps g c =
    let given = subst (λ (x : Option PieceCode). HasGiven c.args.self.now x c.find.new.self) c.in-Some.is c.in-Ok.ensures.gives in
    steps_given g.P.Perform.does g.P.Perform.refuses c.args.self.now c.find.new.self c.args.performer.now c.perform.new.performer c.in-Some.piece c.perform.result c.requires.going.ready given c.perform.ensures.performs

pub returns-in-None-clause-steps : goal.returns-in-None-clause-steps
returns-in-None-clause-steps g c =
    steps_none g.P.Perform.does g.P.Perform.refuses c.args.self.now c.find.new.self c.args.performer.now c.requires.going.ready (subst (λ (x : Option PieceCode). HasGiven c.args.self.now x c.find.new.self) c.in-None.is c.in-Ok.ensures.gives)
