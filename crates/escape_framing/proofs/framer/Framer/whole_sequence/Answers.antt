use Rattle.std.proofs.Common.{arith}
use Rattle.escape_framing.proofs.PrefixLemmas.{listed_all, reads_listed}
use Rattle.escape_framing.proofs.framer.Framer.whole_sequence.Goals as goal

pub returns-clause-reads : goal.returns-clause-reads
returns-clause-reads c =
    reads_listed c.args.self.now c.args.bytes.now c.in_ok-remaining.remaining.now c.list_of-list.result.now c.in_ok-control.control c.requires c.in_ok-remaining.ensures c.list_of-list.ensures c.in_ok-control.ensures

pub returns-clause-list : goal.returns-clause-list
returns-clause-list c = record {
  listed = listed_all c.in_ok-remaining.remaining.now c.list_of-list.result.now c.list_of-list.ensures;
  short = omega (arith, c.if-list-gt-MOST_BYTES.false);
}
