use Rattle.std.proofs.Common.{◌≡◌, ◌<◌, ◌∷◌, length, arith, rules}
use Rattle.escape_framing.proofs.ReadEventLemmas.{reads_none, reads_at_text}
use Rattle.escape_framing.proofs.framer.Framer.next.Goals as goal

pub returns-in_default-clause-reads : goal.returns-in_default-clause-reads
returns-in_default-clause-reads c = let z : length c.args.bytes.now ≡ 0 = search rules in reads_none c.args.self.now c.args.bytes.now z

pub returns-then-text-ne0-clause-reads : goal.returns-then-text-ne0-clause-reads
returns-then-text-ne0-clause-reads c =
    let l : 0 < c.text_at-text.result = omega arith in
    let s : c.args.bytes.now ≡ c.in-Some.byte.now ∷ c.in-Some.field-0-1.now = search rules in
    reads_at_text c.args.self.now.held c.in-Some.byte.now c.text_at-text.result c.in-Some.field-0-1.now c.args.bytes.now c.read_text.result c.read_text.new.self
    c.read_text.ensures.broken c.read_text.ensures.whole s (c.text_at-text.ensures.takes l) (c.text_at-text.ensures.text l) l c.read_text.ensures.held
