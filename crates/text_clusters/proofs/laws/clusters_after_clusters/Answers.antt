use Rattle.text_clusters.proofs.TextLemmas.{joined_clusters, clusters_after}
use Rattle.text_clusters.proofs.laws.clusters_after_clusters.Goals as goal

pub returns-clause-joined : goal.returns-clause-joined
returns-clause-joined c = joined_clusters c.args.text.now c.utf8.text

pub returns-clause-after : goal.returns-clause-after
returns-clause-after c = λ count. clusters_after count c.args.text.now c.utf8.text
