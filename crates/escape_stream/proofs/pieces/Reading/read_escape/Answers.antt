use Rattle.std.proofs.Common.{refl, sym, ap, [], ◌∷◌}
use Rattle.std.specs.Prelude.{None}
use Rattle.csi_codec.specs.declared.escapes.Esc.{Esc}
use Rattle.escape_framing.specs.Read.{whole_escape}
use Rattle.escape_framing.specs.declared.event.Event.TheVariants as event
use Rattle.escape_stream.specs.StreamAction.{esc}
use Rattle.escape_stream.specs.declared.action.Action.TheVariants as action
use Rattle.escape_stream.specs.declared.pieces.Piece.TheVariants as piece
use Rattle.escape_stream.proofs.AdvanceLemmas.{framer_reads, finds_event}
use Rattle.escape_stream.proofs.pieces.Reading.read_escape.Goals as goal

pub returns : goal.returns
returns c =
    let it = c.args.self.now in
    finds_event (λ pair. piece.Action (action.Esc pair)) it 2 (event.Escape None c.in_ok-byte.byte) c.parse.result (action.Esc c.parse.result) refl c.requires.going c.requires.over
    (framer_reads c.framer.result.now it.parser.now _ _ (whole_escape c.in_ok-byte.byte) (λ l. l) c.framer.ensures c.rest-bytes.ensures c.in_ok-byte.ensures)
    (ap (λ (x : Esc). esc x ∷ []) (sym c.parse.ensures))
