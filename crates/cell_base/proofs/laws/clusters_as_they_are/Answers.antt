use Rattle.cell_base.proofs.PlainClusters.{clusters_are}
use Rattle.cell_base.proofs.laws.clusters_as_they_are.Goals as goal

pub returns : goal.returns
returns c = clusters_are c.args.text.now c.utf8.text
