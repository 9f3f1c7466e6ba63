use Rattle.std.proofs.Common.{arith, ap, refl, sym, subst, ◌∙◌, ◌≡◌, ◌-◌, slice_index_or, slice_set}
use Rattle.clustered_row.specs.declared.run.Run.{Run}
use Rattle.clustered_row.specs.Runs.{spread, AreMaximal}
use Rattle.clustered_row.specs.RunSteps.{counted}
use Rattle.clustered_row.proofs.RunLists.{take_maximal}
use Rattle.clustered_row.proofs.RunSteps.{some_runs, shorter_columns, recounted_maximal, some_columns}
use Rattle.clustered_row.proofs.run_steps.shorten.Goals as goal

pub returns-then-by-count-clause-columns : goal.returns-then-by-count-clause-columns
returns-then-by-count-clause-columns c =
    let runs = c.args.runs.now.items in
    let n = c.len-last.result - 1 in
    let some = some_runs runs (omega arith) in
    let run = c.index.result.now in
    let is : run ≡ slice_index_or runs n run = c.index.ensures in
    let e : c.set_count.new.runs.items ≡ slice_set runs n (counted run (run.count - c.args.by)) = c.set_count.ensures.items run ∙ ap (λ (r : Run). slice_set runs n (counted r (run.count - c.args.by))) (sym is) in
    ap spread e ∙ shorter_columns runs n c.args.by run (omega arith) is c.if-by-count.true

pub returns-then-by-count-clause-maximal : goal.returns-then-by-count-clause-maximal
returns-then-by-count-clause-maximal c =
    let runs = c.args.runs.now.items in
    let n = c.len-last.result - 1 in
    let some = some_runs runs (omega arith) in
    let run = c.index.result.now in
    let is : run ≡ slice_index_or runs n run = c.index.ensures in
    let e : c.set_count.new.runs.items ≡ slice_set runs n (counted run (run.count - c.args.by)) = c.set_count.ensures.items run ∙ ap (λ (r : Run). slice_set runs n (counted r (run.count - c.args.by))) (sym is) in
    subst AreMaximal (sym e) (recounted_maximal runs n run (counted run (run.count - c.args.by)) (omega arith) is refl (omega arith) c.requires.maximal)

pub returns-clause-some : goal.returns-clause-some
returns-clause-some c =
    let runs = c.args.runs.now.items in
    let some = some_runs runs (omega arith) in
    some_columns runs (c.len-last.result - 1) c.index.result.now (omega arith) c.index.ensures c.requires.maximal

pub returns-clause-maximal : goal.returns-clause-maximal
returns-clause-maximal c = subst AreMaximal (sym c.truncate.ensures.items) (take_maximal (c.len-last.result - 1) c.args.runs.now.items c.requires.maximal)
