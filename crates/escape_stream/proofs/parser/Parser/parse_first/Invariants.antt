use Rattle.std.proofs.Common.{◌≡◌, ℕ, ◌-◌, List, length, false}
use Rattle.escape_framing.specs.Held.{held_of}
use Rattle.escape_stream.specs.Parsing.{DecidesAction}
use Rattle.escape_stream.proofs.FirstLemmas.{IsReadTo}
use Rattle.escape_stream.proofs.parser.Parser.parse_first.Given as goal

abbrev pub invariant-loop-count : goal.invariant-loop-count
invariant-loop-count l = record {
  read : (stream : List ℕ) → l.fn.self.held ≡ held_of stream → IsReadTo (DecidesAction stream) stream l.bytes l.self.held l.count;
  failed : l.self.failed ≡ false;
}

abbrev pub decreases-loop-count : goal.decreases-loop-count
decreases-loop-count l = length l.bytes - l.count
