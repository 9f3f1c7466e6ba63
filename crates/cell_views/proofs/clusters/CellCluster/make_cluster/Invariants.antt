use Rattle.std.specs.Prelude.{map}
use Rattle.cell_views.specs.CellRefView.{shown_by}
use Rattle.cell_views.specs.Clusters.{clusters_of}
use Rattle.cell_views.specs.ClusterView.{IsMadeOf}
use Rattle.cell_views.proofs.clusters.CellCluster.make_cluster.Given as goal

-- the clusters so far are those of the cells so far
abbrev pub invariant-loop-cell : goal.invariant-loop-cell
invariant-loop-cell g l = IsMadeOf (clusters_of (map shown_by l.yielded)) l.clusters
