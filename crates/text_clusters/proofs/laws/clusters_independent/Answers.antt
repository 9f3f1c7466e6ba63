use Rattle.text_clusters.proofs.IndependentLemmas.{independent_cut}
use Rattle.text_clusters.proofs.laws.clusters_independent.Goals as goal

pub returns : goal.returns
returns c = λ first rest. independent_cut c.args.text.now rest first c.utf8.text
