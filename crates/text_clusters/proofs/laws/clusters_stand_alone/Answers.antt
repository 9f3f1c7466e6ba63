use Rattle.std.proofs.Common.{true, [], ◌∷◌}
use Rattle.unicode_segmentation.specs.Grapheme.{graphemes}
use Rattle.text_clusters.proofs.TextLemmas.{same_at_clusters}
use Rattle.text_clusters.proofs.laws.clusters_stand_alone.Goals as goal

pub returns : goal.returns
returns c = same_at_clusters (graphemes true) (λ cluster. cluster ∷ []) (λ p e. e) c.args.text.now c.utf8.text
