use Rattle.std.proofs.Common.{◌≡◌, ◌≤◌, ◌+◌, ◌-◌, ◌++◌, ◌∷◌, [], suc, length, replicate, ap, ◌∙◌, append_assoc, arith}
use Rattle.cell_base.specs.Row.{plain_row}
use Rattle.cell_line.specs.LineContent.{LineContent, clustered_line_of}
use Rattle.screen_grid.proofs.MoveLemmas.{one_more}
use Rattle.screen_grid.proofs.rows.add_rows.Goals as goal
use Rattle.std.specs.Prelude.{List}

pub loop-preserved : goal.loop-preserved
loop-preserved c =
    let init = c.args.rows.now in
    let x = clustered_line_of 0 (plain_row c.args.width) in
    let n = c.len-counter.ensures in
    let o = c.loop.auto.counter in
    let next : suc (c.loop.counter - length init) ≡ c.loop.counter + 1 - length init = omega arith in
    c.in_ok-push.ensures.done ∙ ap (λ (line : LineContent). c.loop.rows ++ line ∷ []) c.with_width_clustered.ensures ∙ ap (λ (l : List LineContent). l ++ x ∷ []) c.loop.invariant
    ∙ append_assoc init (replicate (c.loop.counter - length init) x) (x ∷ []) ∙ ap (λ (l : List LineContent). init ++ l) (one_more (c.loop.counter - length init) x ∙ ap (λ m. replicate m x) next)

pub returns : goal.returns
returns c =
    let init = c.args.rows.now in
    let n = c.len-counter.ensures in
    let o = c.loop.auto.counter in
    let r = c.requires in
    let first : c.len-counter.result ≤ c.args.height = omega arith in
    let l : c.loop.counter ≤ c.args.height = c.loop.auto.counter-end first in
    let t = c.loop-test.false in
    let same : c.loop.counter - length init ≡ c.args.height - length init = omega arith in
    c.loop.invariant ∙ ap (λ m. init ++ replicate m (clustered_line_of 0 (plain_row c.args.width))) same
