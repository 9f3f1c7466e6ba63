use Rattle.std.proofs.Common.{◌≡◌, ◌+◌, ◌-◌, ◌^◌, ◌≤◌, min, true}
use Rattle.std.specs.Prelude.{sum_by}
use Rattle.unicode_segmentation.specs.Grapheme.{graphemes}
use Rattle.unicode_segmentation.specs.Iter.{graphemes_left}
use Rattle.cell_base.proofs.columns.unicode_column_width.Given as goal

abbrev pub invariant-loop-cluster : goal.invariant-loop-cluster
invariant-loop-cluster g l =
    (min (l.columns + sum_by (g.W.Widths.width_of l.w) (graphemes_left l.cluster-iterator)) (2 ^ 64 - 1) ≡ min (sum_by (g.W.Widths.width_of l.w) (graphemes true l.s)) (2 ^ 64 - 1))
    × (l.columns ≤ 2 ^ 64 - 1)
