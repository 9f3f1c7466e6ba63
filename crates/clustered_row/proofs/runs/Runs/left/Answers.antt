use Rattle.std.proofs.Common.{◌∙◌, ap}
use Rattle.clustered_row.specs.Runs.{is_begun}
use Rattle.clustered_row.proofs.LeftLemmas.{all_begun}
use Rattle.clustered_row.proofs.runs.Runs.left.Goals as goal

pub invariant_of-result : goal.invariant_of-result
invariant_of-result c = record { begun = ap (is_begun 0) c.deref.ensures.value ∙ all_begun c.self.inside.runs.items c.self.invariant.maximal }
