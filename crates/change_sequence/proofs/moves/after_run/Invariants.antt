use Rattle.std.proofs.Common.{◌≡◌, ◌≤◌, map}
use Rattle.std.specs.Prelude.{fold}
use Rattle.unicode_segmentation.specs.Iter.{graphemes_left}
use Rattle.cell_base.specs.Cluster.{clusters}
use Rattle.screen_effects.specs.Strokes.{Cluster}
use Rattle.change_sequence.specs.Positions.{position_of}
use Rattle.change_sequence.specs.Sequence.{stroke_moved}
use Rattle.change_sequence.proofs.moves.after_run.Given as goal

-- the remaining clusters lead from here to the position that the whole text leads to
abbrev pub invariant-loop-cluster : goal.invariant-loop-cluster
invariant-loop-cluster g l =
    (fold (stroke_moved (g.W.Widths.width_of l.widths) l.columns) (position_of l.position) (map Cluster (graphemes_left l.cluster-iterator))
    ≡ fold (stroke_moved (g.W.Widths.width_of l.widths) l.columns) (position_of l.initial.position) (map Cluster (clusters l.text)))
    × (l.position.0 ≤ l.columns)
