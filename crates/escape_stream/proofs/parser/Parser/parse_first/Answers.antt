use Rattle.std.proofs.Common.{◌<◌, length, ap, sym, refl, ◌∙◌, ◌++◌, take}
use Rattle.std.specs.Option.{option_map}
use Rattle.escape_stream.specs.StreamActionView.{value_of}
use Rattle.escape_stream.proofs.FirstLemmas.{first_found, first_not, first_part, held_more, held_part}
use Rattle.escape_stream.proofs.parser.Parser.parse_first.Goals as goal

pub returns-in-Some-clause-first : goal.returns-in-Some-clause-first
returns-in-Some-clause-first c stream held =
    let bytes = c.args.bytes.now in
    let count = c.loop-count.count in
    let below : count < length bytes = c.loop-count-test.true in
    let read = c.loop-count.invariant.read stream held in
    let new = first_part stream bytes count (λ p. option_map value_of p.action) _ _ c.part.result.now c.part.ensures refl (c.in_default.ensures.done (stream ++ take count bytes) read.held_is) in
    rw c.in-Some.is (first_found stream bytes count c.loop-count.self.held (value_of c.in-Some.action) below read (sym new ∙ ap (option_map value_of) c.in-Some.is))

pub returns-in-Some-clause-held : goal.returns-in-Some-clause-held
returns-in-Some-clause-held c stream held =
    let bytes = c.args.bytes.now in
    let count = c.loop-count.count in
    let read = c.loop-count.invariant.read stream held in
    held_more stream bytes count c.hand_to.new.self.held (held_part stream bytes count c.hand_to.new.self.held c.part.result.now c.part.ensures (c.in_default.ensures.held (stream ++ take count bytes) read.held_is))

pub loop-count-preserved : goal.loop-count-preserved
loop-count-preserved c = record {
  read = λ stream held.
      let bytes = c.args.bytes.now in
      let count = c.loop-count.count in
      let read = c.loop-count.invariant.read stream held in
      let after = held_part stream bytes count c.hand_to.new.self.held c.part.result.now c.part.ensures (c.in_default.ensures.held (stream ++ take count bytes) read.held_is) in
      let new = first_part stream bytes count (λ p. option_map value_of p.action) _ _ c.part.result.now c.part.ensures refl (c.in_default.ensures.done (stream ++ take count bytes) read.held_is) in
      first_not stream bytes count c.loop-count.self.held c.hand_to.new.self.held read after (sym new ∙ ap (option_map value_of) c.in_default-action.is);
  failed = search;
}
