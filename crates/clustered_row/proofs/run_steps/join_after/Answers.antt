use Rattle.std.proofs.Common.{rules, arith, ◌≡◌}
use Rattle.clustered_row.proofs.RunSteps.{joined_after_columns}
use Rattle.clustered_row.proofs.run_steps.join_after.Goals as goal

pub returns-clause-columns : goal.returns-clause-columns
returns-clause-columns c =
    let same : c.index-runs-from.result.attributes ≡ c.args.run.now.attributes = search rules in
    joined_after_columns c.args.runs.now c.args.from c.index-runs-from.result c.args.run.now (omega arith) c.index-runs-from.is same
