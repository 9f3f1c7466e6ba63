use denote.Shadow.{shadow}
use denote.Text.{Utf8}
use Rattle.std.proofs.Common.{length}
use Rattle.cell_base.specs.Cluster.{clusters}
use Rattle.screen_grid.specs.Grid.{LeadsOn}
use Rattle.screen_grid.proofs.grid.Grid.put_run.Given as goal

-- the remaining clusters give the same display on the current grid as all clusters on the first one
abbrev pub invariant-loop-cluster : goal.invariant-loop-cluster
invariant-loop-cluster g l = record {
  leads : LeadsOn (g.W.Widths.width_of l.fn.self.widths) l.fn.self l.self (clusters l.text) (clusters l.left);
  text : shadow (Utf8 l.left);
}

abbrev pub decreases-loop-cluster : goal.decreases-loop-cluster
decreases-loop-cluster g l = length (clusters l.left)
