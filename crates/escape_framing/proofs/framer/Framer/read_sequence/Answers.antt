use Rattle.std.proofs.Common.{◌≡◌, rules}
use Rattle.escape_framing.specs.Held.{nothing_held}
use Rattle.escape_framing.proofs.ReadEventLemmas.{reads_whole}
use Rattle.escape_framing.proofs.framer.Framer.read_sequence.Goals as goal

pub returns-clause-some : goal.returns-clause-some
returns-clause-some c =
    let d = c.self.inside in
    let h : c.args.self.now.held ≡ nothing_held = search rules in
    reads_whole c.args.self.now d.state d.waiting d.characters d.parameters c.read-count.new.self d.body.items c.args.bytes.now c.in_ok-remaining.remaining.now c.read-count.result c.in_ok-control.control c.self.view_is h c.in_ok-remaining.ensures c.read-count.ensures.count c.read-count.ensures.tokens c.in_ok-control.ensures
