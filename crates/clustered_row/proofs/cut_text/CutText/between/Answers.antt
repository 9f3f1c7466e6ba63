use Rattle.clustered_row.proofs.BetweenLemmas.{between_positions}
use Rattle.clustered_row.proofs.StepLemmas.{sized_of}
use Rattle.clustered_row.proofs.cut_text.CutText.between.Goals as goal

pub invariant_of-result : goal.invariant_of-result
invariant_of-result c =
    let t = c.args.self.now in
    let first = c.position_before-first in
    let last = c.position_before-last in
    let are = between_positions t.text.items c.deref.result.now t.sizes.items c.deref-2.result.now t.sized_bytes t.sized_columns first.result last.result c.args.from c.args.to (sized_of t)
    c.deref.ensures.value c.deref-2.ensures.value first.ensures.position last.ensures.position last.ensures.index last.ensures.bytes first.ensures.column last.ensures.column in
    record { bytes = are.bytes; parts = are.parts }

pub returns : goal.returns
returns c =
    let t = c.args.self.now in
    let first = c.position_before-first in
    let last = c.position_before-last in
    (between_positions t.text.items c.deref.result.now t.sizes.items c.deref-2.result.now t.sized_bytes t.sized_columns first.result last.result c.args.from c.args.to (sized_of t)
    c.deref.ensures.value c.deref-2.ensures.value first.ensures.position last.ensures.position last.ensures.index last.ensures.bytes first.ensures.column last.ensures.column).shown
