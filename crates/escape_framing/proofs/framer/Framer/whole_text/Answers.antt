use Rattle.std.proofs.Common.{arith}
use Rattle.escape_framing.proofs.ReadEventLemmas.{reads_only_text}
use Rattle.escape_framing.proofs.framer.Framer.whole_text.Goals as goal

pub returns : goal.returns
returns c =
    reads_only_text c.args.self.now c.args.bytes.now c.in_ok-byte.field-0-1.now c.in_ok-byte.byte.now c.text_len-len.result c.requires c.in_ok-byte.ensures.cases.0 c.text_len-len.ensures (omega (arith, c.if-len-eq0.false))
