use Rattle.std.proofs.Common.{◌≡◌, ◌+◌, ◌-◌, ◌^◌, ℕ, List, min, true, subst, arith}
use Rattle.std.specs.Prelude.{sum_by}
use Rattle.unicode_segmentation.specs.Grapheme.{graphemes}
use Rattle.cell_base.proofs.columns.unicode_column_width.Goals as goal

pub returns : goal.returns
returns g c =
    let f = g.W.Widths.width_of c.args.w.now in
    let all : ℕ = sum_by f (graphemes true c.args.s.now) in
    let at_end = subst (λ (xs : List (List ℕ)). min (c.loop-cluster.columns + sum_by f xs) (2 ^ 64 - 1) ≡ min all (2 ^ 64 - 1)) c.in-None.ensures.steps.0 c.loop-cluster.invariant.0 in
    omega arith
