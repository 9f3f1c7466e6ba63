use Rattle.std.proofs.Common.{◌≡◌, None, length}
use Rattle.csi_codec.specs.Sources.{IsSgrList}
use Rattle.escape_framing.specs.Held.{nothing_held}
use Rattle.escape_stream.specs.PiecesView.{lender_of, open_pieces, parser_of, IsGoing}
use Rattle.escape_stream.specs.Walking.{with_list, Reaches}
use Rattle.escape_stream.proofs.pieces.Reading.hand_settings.Given as goal

abbrev pub invariant-loop-value : goal.invariant-loop-value
invariant-loop-value g l = record {
  going : IsGoing l.self;
  over : l.self.sequence ≡ None;
  idle : (parser_of l.self).held ≡ nothing_held;
  same : lender_of l.self ≡ lender_of l.fn.self;
  stage : l.self.stage ≡ l.fn.self.stage;
  list : IsSgrList l.left;
  ready : g.P.Perform.ready l.performer;
  reached : Reaches g.P.Perform.does (with_list l.fn.self l.fn.start l.fn.list 109) l.fn.performer (with_list l.self l.fn.start l.left 109) l.performer;
}

abbrev pub decreases-loop-value : goal.decreases-loop-value
decreases-loop-value g l = length (open_pieces 0 (with_list l.self l.fn.start l.left 109))
