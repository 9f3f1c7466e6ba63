use Rattle.std.proofs.Common.{◌≡◌, List, ℕ, get_or, arith}
use Rattle.screen_difference.specs.Drawing.{Drawing, with_all}
use Rattle.screen_difference.specs.FreshCells.{placed}
use Rattle.screen_difference.specs.ShownCells.{differing}
use Rattle.screen_difference.proofs.TextLemmas.{other_on, same_on}
use Rattle.screen_difference.proofs.fast.plain_cells.write_differing.Goals as goal
use Rattle.screen_difference.proofs.fast.plain_cells.write_differing.Goals.{then-olds-at+in_ok-push_plain, else-olds-at}

pub loop-at-preserved : goal.loop-at-preserved
loop-at-preserved c =
    let old : List ℕ = c.args.old.now in
    let text : List ℕ = c.args.text.now in
    let attrs = c.args.attrs.now in
    let at = c.loop-at.at in
    let before = c.loop-at.invariant.order in
    let whole : Drawing = with_all c.args.writer.now (placed c.args.row (differing c.args.column old text attrs)) in
    elim c.if-olds-at.branch [
      | then-olds-at+in_ok-push_plain w ↦
          let same : get_or old at 0 ≡ get_or text at 0 = cc (w.if-olds-at.true, c.as_bytes-olds.ensures.value, c.as_bytes-news.ensures.value) in record {
            order = omega (arith, w.from-is);
            written =
                same_on whole c.loop-at.writer w.push_plain.new.self c.if-olds-at.writer c.args.row c.args.column c.loop-at.from c.if-olds-at.from at old text w.part.result.now attrs
                w.writer-is w.from-is c.loop-at-test.true c.requires.same same w.part.ensures.part w.in_ok-push_plain.ensures c.loop-at.invariant.written;
          }
      | else-olds-at w ↦
          let other : get_or old at 0 ≡ get_or text at 0 → ⊥ = λ e. w.if-olds-at.false (cc (e, c.as_bytes-olds.ensures.value, c.as_bytes-news.ensures.value)) in record {
            order = omega (arith, w.from-is);
            written =
                other_on whole c.loop-at.writer c.if-olds-at.writer c.args.row c.args.column c.loop-at.from c.if-olds-at.from at old text attrs
                w.writer-is w.from-is before c.loop-at-test.true c.requires.same other c.loop-at.invariant.written;
          }
    ]
