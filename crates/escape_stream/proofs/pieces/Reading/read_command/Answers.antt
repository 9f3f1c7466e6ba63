use Rattle.escape_framing.specs.Read.{whole_command}
use Rattle.escape_stream.proofs.AdvanceLemmas.{framer_reads, finds_command}
use Rattle.escape_stream.proofs.pieces.Reading.read_command.Goals as goal

pub returns : goal.returns
returns c =
    let it = c.args.self.now in
    finds_command it c.in_ok-body.count c.in_ok-body.body.now c.command_action.result c.requires.going c.requires.over c.requires.some
    (framer_reads c.framer.result.now it.parser.now _ _ (whole_command c.in_ok-body.count) (λ l. record l { body = c.in_ok-body.body.now }) c.framer.ensures c.rest-bytes.ensures c.in_ok-body.ensures) c.command_action.ensures
