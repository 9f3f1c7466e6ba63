use Rattle.std.proofs.Common.{◌<◌, length, ap, sym, ◌∙◌, ◌++◌, take, map, IsTrue, ◌≡◌, false}
use Rattle.escape_stream.specs.Parsing.{Settles}
use Rattle.escape_stream.specs.StreamActionView.{value_of}
use Rattle.escape_stream.proofs.FirstLemmas.{held_more, held_part, kept_part, nothing_new, read_none, settled_found, settled_more, settled_not, settles_none}
use Rattle.escape_stream.proofs.parser.Parser.parse_first_as_vec.Goals as goal

pub loop-count-init : goal.loop-count-init
loop-count-init c = record {
  read = λ stream held. (read_none (Settles stream) stream c.args.bytes.now c.args.self.now.held held (settles_none stream), ap (map value_of) c.new.ensures.items ∙ nothing_new stream);
  failed = search;
}

pub returns-then-is_settled-clause-first : goal.returns-then-is_settled-clause-first
returns-then-is_settled-clause-first c stream held =
    let bytes = c.args.bytes.now in
    let count = c.loop-count.count in
    let read = c.loop-count.invariant.read stream held in
    let after = held_part stream bytes count c.hand_to.new.self.held c.part.result.now c.part.ensures (c.in_default.ensures.held (stream ++ take count bytes) read.0.held_is) in
    let new = kept_part stream bytes count (λ p. map value_of p.actions.items) _ _ c.part.result.now c.part.ensures (c.in_default.ensures.done (stream ++ take count bytes) read.0.held_is) in
    let below : count < length bytes = c.loop-count-test.true in
    let settled = c.is_settled.ensures.0 c.if-is_settled.true in
    settled_found stream bytes count c.loop-count.self.held c.hand_to.new.self.held _ _ below read.0 after read.1 new (λ none. settled.0 (ap (map value_of) c.deref.ensures.value ∙ none)) settled.1

pub returns-then-is_settled-clause-held : goal.returns-then-is_settled-clause-held
returns-then-is_settled-clause-held c stream held =
    let bytes = c.args.bytes.now in
    let count = c.loop-count.count in
    let read = c.loop-count.invariant.read stream held in
    held_more stream bytes count c.hand_to.new.self.held (held_part stream bytes count c.hand_to.new.self.held c.part.result.now c.part.ensures (c.in_default.ensures.held (stream ++ take count bytes) read.0.held_is))

pub loop-count-preserved : goal.loop-count-preserved
loop-count-preserved c = record {
  read = λ stream held.
      let bytes = c.args.bytes.now in
      let count = c.loop-count.count in
      let read = c.loop-count.invariant.read stream held in
      let after = held_part stream bytes count c.hand_to.new.self.held c.part.result.now c.part.ensures (c.in_default.ensures.held (stream ++ take count bytes) read.0.held_is) in
      let new = kept_part stream bytes count (λ p. map value_of p.actions.items) _ _ c.part.result.now c.part.ensures (c.in_default.ensures.done (stream ++ take count bytes) read.0.held_is) in (
        settled_not stream bytes count c.loop-count.self.held c.hand_to.new.self.held _ _ read.0 after read.1 new
            (λ some idle. let is : IsTrue c.is_settled.result = c.is_settled.ensures.1 ((λ none. some (sym (ap (map value_of) c.deref.ensures.value) ∙ none)), idle) in let not : c.is_settled.result ≡ false = c.if-is_settled.false in cc),
        settled_more stream bytes count _ _ read.1 new,
      );
  failed = search;
}
