use Rattle.std.proofs.Common.{take, rules}
use Rattle.screen_change.proofs.CutLemmas.{no_cluster}
use Rattle.screen_change.proofs.texts.after_cluster.Goals as goal

pub returns-in_err-cluster-clause-none : goal.returns-in_err-cluster-clause-none
returns-in_err-cluster-clause-none c _ cells = no_cluster c.args.text.now (take c.args.len c.args.text.now) cells (search rules)
