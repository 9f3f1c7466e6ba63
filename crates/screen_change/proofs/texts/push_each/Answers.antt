use Rattle.std.proofs.Common.{refl, arith}
use Rattle.screen_change.proofs.CutLemmas.{bytes_first, first_boundary, left_utf8}
use Rattle.screen_change.proofs.texts.push_each.Goals as goal

pub split_at-requires : goal.split_at-requires
split_at-requires c =
    let l = c.loop-len in
    let bytes = bytes_first c.args.lens.now l.len-index _ 0 c.loop-len-test.true refl in
    first_boundary _ l.rest.now _ l.invariant.text (omega (arith, bytes, l.invariant.bytes)) (left_utf8 c.args.lens.now l.rest.now l.len-index _ 0 c.loop-len-test.true refl l.invariant.parts)
