use Rattle.std.proofs.Common.{refl, ◌+◌, length}
use Rattle.csi_codec.specs.Tokens.{parameters_of}
use Rattle.escape_framing.specs.Read.{whole_sequence}
use Rattle.escape_stream.proofs.AdvanceLemmas.{framer_reads, reads_listed}
use Rattle.escape_stream.proofs.pieces.Reading.read_list.Goals as goal

pub returns : goal.returns
returns c =
    let it = c.args.self.now in
    let list = c.in_ok-list.list in
    reads_listed it list c.in_ok-list.control (length list.now + 3) refl c.requires.going c.requires.over c.in_ok-list.ensures.list
    (framer_reads c.framer.result.now it.parser.now _ _ (whole_sequence c.in_ok-list.control (length list.now + 3)) (λ l. record l { parameters = parameters_of list.now }) c.framer.ensures c.rest-bytes.ensures c.in_ok-list.ensures.reads)
