use denote.Shadow.{shadow}
use denote.Text.{Utf8}
use Rattle.std.proofs.Common.{◌≡◌, length, fold}
use Rattle.std.specs.Prelude.{ℕ, List}
use Rattle.cell_base.specs.Cluster.{clusters}
use Rattle.terminal_table.specs.Runs.{last_cluster}
use Rattle.terminal_steps.proofs.runs.last_cluster.Given as goal

-- the last cluster of what is left, or the last one so far, is that of the text
pub record IsMidway (text so_far left : List ℕ) : Type 0 where
  pub leads : fold (λ _ (cluster : List ℕ). cluster) so_far (clusters left) ≡ last_cluster text
  pub rest : shadow (Utf8 left)
  pub found : shadow (Utf8 so_far)

abbrev pub invariant-loop-cluster : goal.invariant-loop-cluster
invariant-loop-cluster l = IsMidway l.text l.last l.left

abbrev pub decreases-loop-cluster : goal.decreases-loop-cluster
decreases-loop-cluster l = length (clusters l.left)
