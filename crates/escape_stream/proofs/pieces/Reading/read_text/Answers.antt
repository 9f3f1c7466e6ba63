use Rattle.escape_framing.specs.declared.event.Read.TheVariants as read
use Rattle.escape_stream.proofs.AdvanceLemmas.{framer_reads, finds_text}
use Rattle.escape_stream.proofs.pieces.Reading.read_text.Goals as goal

pub returns : goal.returns
returns c =
    let it = c.args.self.now in
    finds_text it c.in_ok-len.len c.text_at.result c.requires.going c.requires.over
    (framer_reads c.framer.result.now it.parser.now _ _ (read.Text c.in_ok-len.len) (λ l. l) c.framer.ensures c.rest-bytes.ensures c.in_ok-len.ensures)
    c.text_at.ensures
