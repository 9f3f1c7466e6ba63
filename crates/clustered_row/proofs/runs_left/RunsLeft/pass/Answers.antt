use Rattle.clustered_row.proofs.PlainLemmas.{some_left}
use Rattle.clustered_row.proofs.runs_left.RunsLeft.pass.Goals as goal

pub pass_columns-requires-clause-within : goal.pass_columns-requires-clause-within
pass_columns-requires-clause-within c =
    let left = c.args.self.now in
    some_left left.used left.runs.now c.requires left.begun
