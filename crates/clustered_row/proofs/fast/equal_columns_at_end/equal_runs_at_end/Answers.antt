use Rattle.std.proofs.Common.{◌+◌, ◌-◌, ◌∙◌, List, ap, arith, length}
use Rattle.clustered_row.specs.declared.run.Run.{Run}
use Rattle.clustered_row.specs.Runs.{spread}
use Rattle.clustered_row.proofs.EqualAtEndLemmas.{counted_after, next_after, part_within_after, part_within_other, runs_within_after, same_part_after, same_runs_after}
use Rattle.clustered_row.proofs.fast.equal_columns_at_end.equal_runs_at_end.Goals as goal

pub overflow_add-result : goal.overflow_add-result
overflow_add-result c =
    let least = c.min-count-end.ensures in
    let all = part_within_after c.args.runs.now c.args.other_runs.now c.loop-count.count c.equal_part.result c.loop-count.columns c.index-runs-at.result c.index-other_runs-other_at.result
    (omega (arith, c.loop-count-test.true, least)) (omega (arith, c.loop-count-test.true, least)) c.index-runs-at.is c.index-other_runs-other_at.is c.loop-count.invariant.same c.loop-count.invariant.counted c.equal_part.ensures.within in
    omega (arith, all, c.requires.small)

pub returns-then-not-same_run-clause-within : goal.returns-then-not-same_run-clause-within
returns-then-not-same_run-clause-within c =
    let least = c.min-count-end.ensures in
    part_within_after c.args.runs.now c.args.other_runs.now c.loop-count.count c.equal_part.result c.loop-count.columns c.index-runs-at.result c.index-other_runs-other_at.result
    (omega (arith, c.loop-count-test.true, least)) (omega (arith, c.loop-count-test.true, least)) c.index-runs-at.is c.index-other_runs-other_at.is c.loop-count.invariant.same c.loop-count.invariant.counted c.equal_part.ensures.within

pub returns-then-not-same_run-clause-other_within : goal.returns-then-not-same_run-clause-other_within
returns-then-not-same_run-clause-other_within c =
    let least = c.min-count-end.ensures in
    part_within_other c.args.runs.now c.args.other_runs.now c.loop-count.count c.equal_part.result c.loop-count.columns c.index-runs-at.result c.index-other_runs-other_at.result
    (omega (arith, c.loop-count-test.true, least)) (omega (arith, c.loop-count-test.true, least)) c.index-runs-at.is c.index-other_runs-other_at.is c.loop-count.invariant.same c.loop-count.invariant.counted c.equal_part.ensures.other_within

pub returns-then-not-same_run-clause-equal : goal.returns-then-not-same_run-clause-equal
returns-then-not-same_run-clause-equal c =
    let least = c.min-count-end.ensures in
    let part = c.equal_part.ensures in
    same_part_after c.args.runs.now c.args.other_runs.now c.loop-count.count c.equal_part.result c.loop-count.columns c.index-runs-at.result c.index-other_runs-other_at.result
    (omega (arith, c.loop-count-test.true, least)) (omega (arith, c.loop-count-test.true, least)) c.index-runs-at.is c.index-other_runs-other_at.is c.loop-count.invariant.same c.loop-count.invariant.counted part.within part.other_within part.equal

pub overflow_add-columns : goal.overflow_add-columns
overflow_add-columns c =
    let least = c.min-count-end.ensures in
    let run = c.index-runs-at.result in
    let next = counted_after c.args.runs.now c.loop-count.count c.loop-count.columns run (omega (arith, c.loop-count-test.true, least)) c.index-runs-at.is c.loop-count.invariant.counted in
    let all = runs_within_after c.args.runs.now (length c.args.runs.now - (c.loop-count.count + 1)) (c.loop-count.columns + run.count) next in
    omega (arith, all, c.requires.small)

pub loop-count-preserved : goal.loop-count-preserved
loop-count-preserved c =
    let least = c.min-count-end.ensures in
    let run = c.index-runs-at.result in
    let other = c.index-other_runs-other_at.result in
    record {
      same = next_after c.args.runs.now c.args.other_runs.now c.loop-count.count run other (omega (arith, c.loop-count-test.true, least)) (omega (arith, c.loop-count-test.true, least)) c.index-runs-at.is c.index-other_runs-other_at.is
          (c.same_run.ensures c.if-not-same_run.false) c.loop-count.invariant.same;
      counted = counted_after c.args.runs.now c.loop-count.count c.loop-count.columns run (omega (arith, c.loop-count-test.true, least)) c.index-runs-at.is c.loop-count.invariant.counted;
    }

pub returns-clause-within : goal.returns-clause-within
returns-clause-within c = runs_within_after c.args.runs.now (length c.args.runs.now - c.loop-count.count) c.loop-count.columns c.loop-count.invariant.counted

pub returns-clause-other_within : goal.returns-clause-other_within
returns-clause-other_within c =
    let counted = c.loop-count.invariant.counted ∙ ap (λ (zs : List Run). length (spread zs)) c.loop-count.invariant.same in
    runs_within_after c.args.other_runs.now (length c.args.other_runs.now - c.loop-count.count) c.loop-count.columns counted

pub returns-clause-equal : goal.returns-clause-equal
returns-clause-equal c =
    same_runs_after c.args.runs.now c.args.other_runs.now c.loop-count.count c.loop-count.columns c.loop-count.invariant.same c.loop-count.invariant.counted
