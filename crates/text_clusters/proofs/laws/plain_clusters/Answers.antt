use Rattle.text_clusters.proofs.PlainLemmas.{run, whole_run}
use Rattle.text_clusters.proofs.laws.plain_clusters.Goals as goal

pub returns-clause-followed : goal.returns-clause-followed
returns-clause-followed c = run

pub returns-clause-alone : goal.returns-clause-alone
returns-clause-alone c = whole_run
