use Rattle.std.proofs.Common.{◌≡◌, length}
use Rattle.escape_stream.specs.PiecesView.{lender_of, open_pieces, IsGoing}
use Rattle.escape_stream.specs.Walking.{Reaches}
use Rattle.escape_stream.proofs.pieces.Reading.walk.Given as goal

abbrev pub invariant-loop-halted : goal.invariant-loop-halted
invariant-loop-halted g l = record {
  going : IsGoing l.self;
  same : lender_of l.self ≡ lender_of l.fn.self;
  stage : l.self.stage ≡ l.fn.self.stage;
  ready : g.P.Perform.ready l.performer;
  reached : Reaches g.P.Perform.does l.fn.self l.fn.performer l.self l.performer;
}

abbrev pub decreases-loop-halted : goal.decreases-loop-halted
decreases-loop-halted g l = length (open_pieces 0 l.self)
