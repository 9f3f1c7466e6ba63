use Rattle.std.proofs.Common.{rules}
use Rattle.escape_framing.specs.Segment.{IsControl}
use Rattle.escape_framing.proofs.ReadEventLemmas.{reads_control}
use Rattle.escape_framing.proofs.framer.Framer.whole_control.Goals as goal

pub returns : goal.returns
returns c =
    let k : IsControl c.in_ok-byte.byte.now = search rules in
    reads_control c.args.self.now c.args.bytes.now c.in_ok-byte.field-0-1.now c.in_ok-byte.byte.now c.requires c.in_ok-byte.ensures.cases.0 k
