use Rattle.std.proofs.Common.{◌+◌, ◌∙◌, drop, ap, sym, arith, length-drop}
use Rattle.std.proofs.lemmas.List.{length-map}
use Rattle.screen_difference.specs.Drawing.{with_all}
use Rattle.screen_difference.specs.FreshCells.{row_fresh, rows_of}
use Rattle.screen_difference.proofs.FreshLemmas.{rows_end}
use Rattle.screen_difference.proofs.regions.write_region.Goals as goal

pub returns : goal.returns
returns c =
    let left = drop c.loop-at.at c.args.news.now in
    let olds = length-map (drop c.loop-at.at c.args.olds.now) (λ line. line.columns) in
    let old_count = length-drop c.loop-at.at c.args.olds.now in
    let news = length-map left (λ line. line.columns) in
    let new_count = length-drop c.loop-at.at c.args.news.now in
    sym (ap (with_all c.loop-at.writer) (rows_end (row_fresh c.args.x c.args.other_x c.args.width) (c.args.number + c.loop-at.at) (rows_of (drop c.loop-at.at c.args.olds.now)) (rows_of left) (let f = c.loop-at-test.false in let m = c.min-at-end.ensures in omega arith)))
    ∙ c.loop-at.invariant
