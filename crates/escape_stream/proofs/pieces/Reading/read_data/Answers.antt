use Rattle.std.proofs.Common.{refl}
use Rattle.escape_framing.specs.Read.{whole_data}
use Rattle.escape_framing.specs.declared.event.Event.TheVariants as event
use Rattle.escape_stream.specs.declared.action.Action.TheVariants as action
use Rattle.escape_stream.specs.declared.device.DeviceControlMode.TheVariants as part
use Rattle.escape_stream.specs.declared.pieces.Piece.TheVariants as piece
use Rattle.escape_stream.proofs.AdvanceLemmas.{framer_reads, finds_event}
use Rattle.escape_stream.proofs.pieces.Reading.read_data.Goals as goal

pub returns : goal.returns
returns c =
    let it = c.args.self.now in
    finds_event (λ byte. piece.Action (action.DeviceControl (part.Data byte))) it 1 (event.Data c.in_ok-byte.byte) c.in_ok-byte.byte (action.DeviceControl (part.Data c.in_ok-byte.byte)) refl c.requires.going c.requires.over
    (framer_reads c.framer.result.now it.parser.now _ _ (whole_data c.in_ok-byte.byte) (λ l. l) c.framer.ensures c.rest-bytes.ensures c.in_ok-byte.ensures)
    refl
