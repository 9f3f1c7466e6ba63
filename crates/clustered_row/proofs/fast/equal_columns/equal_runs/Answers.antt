use Rattle.std.proofs.Common.{◌∙◌, List, ap, arith, length}
use Rattle.clustered_row.specs.declared.run.Run.{Run}
use Rattle.clustered_row.specs.Runs.{spread}
use Rattle.clustered_row.proofs.EqualLemmas.{part_within, runs_within, same_part, same_runs_prefix}
use Rattle.clustered_row.proofs.fast.equal_columns.equal_runs.Goals as goal

pub overflow_add-result : goal.overflow_add-result
overflow_add-result c =
    let at = c.loop-at.at in
    let run = c.index-runs-at.result in
    let least = c.min-at-end.ensures in
    let all = part_within c.args.runs.now at c.equal_part.result c.loop-at.columns run (omega (arith, c.loop-at-test.true, least)) c.index-runs-at.is c.loop-at.invariant.counted c.equal_part.ensures.within in
    omega (arith, all, c.requires.small)

pub returns-then-not-same_run-clause-within : goal.returns-then-not-same_run-clause-within
returns-then-not-same_run-clause-within c =
    let at = c.loop-at.at in
    let least = c.min-at-end.ensures in
    part_within c.args.runs.now at c.equal_part.result c.loop-at.columns c.index-runs-at.result (omega (arith, c.loop-at-test.true, least)) c.index-runs-at.is c.loop-at.invariant.counted c.equal_part.ensures.within

pub returns-then-not-same_run-clause-other_within : goal.returns-then-not-same_run-clause-other_within
returns-then-not-same_run-clause-other_within c =
    let at = c.loop-at.at in
    let least = c.min-at-end.ensures in
    let counted = c.loop-at.invariant.counted ∙ ap (λ (zs : List Run). length (spread zs)) c.loop-at.invariant.same in
    part_within c.args.other_runs.now at c.equal_part.result c.loop-at.columns c.index-other_runs-at.result (omega (arith, c.loop-at-test.true, least)) c.index-other_runs-at.is counted c.equal_part.ensures.other_within

pub returns-then-not-same_run-clause-equal : goal.returns-then-not-same_run-clause-equal
returns-then-not-same_run-clause-equal c =
    let least = c.min-at-end.ensures in
    let part = c.equal_part.ensures in
    same_part c.args.runs.now c.args.other_runs.now c.loop-at.at c.equal_part.result c.loop-at.columns c.index-runs-at.result c.index-other_runs-at.result
    (omega (arith, c.loop-at-test.true, least)) (omega (arith, c.loop-at-test.true, least)) c.index-runs-at.is c.index-other_runs-at.is
    c.loop-at.invariant.same c.loop-at.invariant.counted part.within part.other_within part.equal

pub overflow_add-columns : goal.overflow_add-columns
overflow_add-columns c =
    let at = c.loop-at.at in
    let run = c.index-runs-at.result in
    let least = c.min-at-end.ensures in
    let all = part_within c.args.runs.now at run.count c.loop-at.columns run (omega (arith, c.loop-at-test.true, least)) c.index-runs-at.is c.loop-at.invariant.counted (omega arith) in
    omega (arith, all, c.requires.small)

pub returns-clause-within : goal.returns-clause-within
returns-clause-within c = runs_within c.args.runs.now c.loop-at.at c.loop-at.columns c.loop-at.invariant.counted

pub returns-clause-other_within : goal.returns-clause-other_within
returns-clause-other_within c =
    let counted = c.loop-at.invariant.counted ∙ ap (λ (zs : List Run). length (spread zs)) c.loop-at.invariant.same in
    runs_within c.args.other_runs.now c.loop-at.at c.loop-at.columns counted

pub returns-clause-equal : goal.returns-clause-equal
returns-clause-equal c =
    same_runs_prefix c.args.runs.now c.args.other_runs.now c.loop-at.at c.loop-at.columns c.loop-at.invariant.same c.loop-at.invariant.counted
