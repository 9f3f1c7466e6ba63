use Rattle.std.proofs.Common.{refl, sym, ap, ◌∙◌}
use Rattle.escape_framing.specs.Read.{whole_control}
use Rattle.escape_framing.specs.declared.event.Event.TheVariants as event
use Rattle.escape_stream.specs.StreamActions.{named_control}
use Rattle.escape_stream.specs.declared.action.Action.TheVariants as action
use Rattle.escape_stream.specs.declared.pieces.Piece.TheVariants as piece
use Rattle.escape_stream.proofs.AdvanceLemmas.{framer_reads, finds_event}
use Rattle.escape_stream.proofs.pieces.Reading.read_control.Goals as goal

pub returns : goal.returns
returns c =
    let it = c.args.self.now in
    finds_event (λ code. piece.Action (action.Control code)) it 1 (event.Control c.in_ok-byte.byte) c.in_ok-code.code (action.Control c.in_ok-code.code) refl c.requires.going c.requires.over
    (framer_reads c.framer.result.now it.parser.now _ _ (whole_control c.in_ok-byte.byte) (λ l. l) c.framer.ensures c.rest-bytes.ensures c.in_ok-byte.ensures)
    (ap named_control (sym c.from_u8.ensures ∙ c.in_ok-code.was))
