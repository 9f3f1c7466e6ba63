use Rattle.std.proofs.Common.{◌≡◌, true}
use Rattle.escape_stream.specs.PiecesView.{lender_of, parser_of, steps_left, GoesOn}
use Rattle.escape_stream.proofs.pieces.Reading.find.Given as goal

abbrev pub invariant-loop-action : goal.invariant-loop-action
invariant-loop-action l = record {
  same : lender_of l.self ≡ lender_of l.fn.self;
  stage : l.self.stage ≡ l.fn.self.stage;
  failed : (parser_of l.self).failed ≡ true;
  goes : GoesOn l.fn.self l.self;
}

abbrev pub decreases-loop-action : goal.decreases-loop-action
decreases-loop-action l = steps_left l.self
