use Rattle.std.proofs.Common.{refl}
use Rattle.escape_framing.specs.Read.{whole_stray}
use Rattle.escape_framing.specs.declared.event.Event.TheVariants as event
use Rattle.escape_stream.specs.declared.action.Action.TheVariants as action
use Rattle.escape_stream.specs.declared.pieces.Piece.TheVariants as piece
use Rattle.escape_stream.proofs.AdvanceLemmas.{framer_reads, finds_event}
use Rattle.escape_stream.proofs.pieces.Reading.read_stray.Goals as goal

pub returns : goal.returns
returns c =
    let it = c.args.self.now in
    finds_event (λ character. piece.Action (action.Print character)) it c.in_ok-len.len (event.Print 0xFFFD) 0xFFFD (action.Print 0xFFFD) refl c.requires.going c.requires.over
    (framer_reads c.framer.result.now it.parser.now _ _ (whole_stray c.in_ok-len.len) (λ l. l) c.framer.ensures c.rest-bytes.ensures c.in_ok-len.ensures)
    refl
