use denote.Shadow.{shadow}
use denote.Text.{Utf8}
use Rattle.std.proofs.Common.{length}
use Rattle.cell_base.specs.Cluster.{clusters}
use Rattle.cell_surface.specs.Surface.{shown_by}
use Rattle.terminal_steps.specs.ProfileView.{modes_in}
use Rattle.terminal_steps.specs.RunView.{CanBePut, IsFrame}
use Rattle.terminal_steps.proofs.RunLemmas.{IsMidway}
use Rattle.terminal_steps.proofs.runs.put_clusters.Given as goal

-- the clusters that are left lead where all lead
abbrev pub invariant-loop-cluster : goal.invariant-loop-cluster
invariant-loop-cluster g l = record {
  leads : IsFrame (modes_in l.modes) (shown_by l.fn.surface).screen l.frame → CanBePut (λ w. g.W.Widths.width_of w) l.fn.surface l.text → IsMidway (λ w. g.W.Widths.width_of w) (modes_in l.modes) l.fn.surface l.surface l.run l.text l.left;
  text : shadow (Utf8 l.left);
}

abbrev pub decreases-loop-cluster : goal.decreases-loop-cluster
decreases-loop-cluster g l = length (clusters l.left)
