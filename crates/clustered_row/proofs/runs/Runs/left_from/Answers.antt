use Rattle.std.proofs.Common.{◌∙◌, ap, drop}
use Rattle.clustered_row.proofs.LeftLemmas.{begun_there, left_there}
use Rattle.clustered_row.proofs.runs.Runs.left_from.Goals as goal

pub invariant_of-result : goal.invariant_of-result
invariant_of-result c =
    let position = c.position_from-position.result in
    record { begun = begun_there c.deref-2.result.now c.deref.result.now c.self.inside.runs.items position c.deref-2.ensures.value c.deref.ensures.value c.position_from-position.ensures.position c.self.invariant.maximal }

pub returns : goal.returns
returns c =
    let position = c.position_from-position.result in
    left_there c.deref-2.result.now c.deref.result.now c.self.inside.runs.items position c.args.column c.deref-2.ensures.value c.deref.ensures.value c.position_from-position.ensures.column ∙ ap (drop c.args.column) c.self.view_is
