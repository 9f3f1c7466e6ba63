use Rattle.escape_framing.proofs.PrefixLemmas.{reads_pair}
use Rattle.escape_framing.proofs.framer.Framer.whole_escape.Goals as goal

pub returns-then-is_pair : goal.returns-then-is_pair
returns-then-is_pair c = reads_pair c.args.self.now c.args.bytes.now c.in_ok-byte.field-0-1.now c.in_ok-byte.byte c.requires c.in_ok-byte.ensures (c.is_pair.ensures c.if-is_pair.true)
