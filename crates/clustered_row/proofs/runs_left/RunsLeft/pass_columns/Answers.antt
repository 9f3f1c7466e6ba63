use Rattle.std.proofs.Common.{arith}
use Rattle.clustered_row.proofs.PlainLemmas.{run_is, columns_passed, run_passed}
use Rattle.clustered_row.proofs.runs_left.RunsLeft.pass_columns.Goals as goal

pub overflow_add-used : goal.overflow_add-used
overflow_add-used c =
    let left = c.args.self.now in
    let is = run_is left.used left.runs.now c.index-self-0.result (omega (arith, c.requires.some, c.requires.within)) in
    omega (arith, is)

pub returns-then-used-columns : goal.returns-then-used-columns
returns-then-used-columns c =
    let left = c.args.self.now in
    columns_passed left.used c.args.count left.runs.now c.index-self-0.result c.requires.some c.requires.within

pub returns : goal.returns
returns c =
    let left = c.args.self.now in
    run_passed left.used c.args.count left.runs.now c.index-self-0.result c.requires.some c.requires.within (omega arith)
