use Rattle.std.proofs.Common.{◌≡◌, ℕ, ◌-◌, List, length, map, take, false}
use Rattle.escape_framing.specs.Held.{held_of}
use Rattle.escape_stream.specs.StreamActionView.{value_of}
use Rattle.escape_stream.specs.StreamActions.{newly_decided_actions}
use Rattle.escape_stream.specs.Parsing.{Settles}
use Rattle.escape_stream.proofs.FirstLemmas.{IsReadTo}
use Rattle.escape_stream.proofs.parser.Parser.parse_first_as_vec.Given as goal

abbrev pub invariant-loop-count : goal.invariant-loop-count
invariant-loop-count l = record {
  read : (stream : List ℕ) → l.fn.self.held ≡ held_of stream → IsReadTo (Settles stream) stream l.bytes l.self.held l.count × (map value_of l.kept.actions.items ≡ newly_decided_actions stream (take l.count l.bytes));
  failed : l.self.failed ≡ false;
}

abbrev pub decreases-loop-count : goal.decreases-loop-count
decreases-loop-count l = length l.bytes - l.count
