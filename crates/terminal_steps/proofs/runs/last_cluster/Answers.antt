use Rattle.std.proofs.Common.{◌≡◌, [], List, fold, map, refl, sym, ap, ◌∙◌}
use Rattle.std.specs.Prelude.{ℕ}
use Rattle.text_clusters.proofs.PlainLemmas.{graphemes-nil}
use Rattle.cell_base.specs.Cluster.{clusters, read_cluster}
use Rattle.terminal_steps.proofs.runs.last_cluster.Goals as goal

pub returns : goal.returns
returns c =
    let empty : c.loop-cluster.left.now ≡ [] = c.in_default.ensures.none.0 refl in
    let none : clusters c.loop-cluster.left.now ≡ [] = ap clusters empty ∙ ap (map read_cluster) graphemes-nil in
    sym (ap (fold (λ _ (cluster : List ℕ). cluster) c.loop-cluster.last.now) none) ∙ c.loop-cluster.invariant.leads
