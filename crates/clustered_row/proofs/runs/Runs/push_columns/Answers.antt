use Rattle.std.proofs.Common.{arith, ap, sym, ◌∙◌, ◌≡◌, ◌++◌, ◌+◌, ◌-◌, length, take, drop, replicate}
use Rattle.std.proofs.lemmas.List.{append_assoc, length-append, length-replicate}
use Rattle.clustered_row.specs.Runs.{spread}
use Rattle.clustered_row.proofs.RunLists.{drop_next}
use Rattle.clustered_row.proofs.RunSteps.{next_part}
use Rattle.clustered_row.proofs.runs.Runs.push_columns.Goals as goal

pub loop-run-preserved : goal.loop-run-preserved
loop-run-preserved c =
    let runs = c.args.runs.now in
    let i = c.loop-run.run-index in
    let now = c.loop-run.self in
    let run = c.run-item.result in
    let a = run.attributes in
    let part = c.min-part.result in
    let skipped = c.min-skipped.result in
    let after = drop (i + 1) runs in
    let rest = take (c.loop-run.count - part) (drop (c.loop-run.skip - skipped) (spread after)) in
    let e : c.push.new.self ≡ now ++ replicate part a = c.in_ok-push.ensures.done in
    let more = ap length e in
    let both = length-append now (replicate part a) in
    let some = length-replicate part a in (
      ap (λ ys. ys ++ rest) e ∙ append_assoc now (replicate part a) rest ∙
          ap (λ ys. now ++ ys) (sym (next_part run after c.loop-run.skip c.loop-run.count skipped part c.min-skipped.ensures c.min-part.ensures) ∙ ap (λ ys. take c.loop-run.count (drop c.loop-run.skip (spread ys))) (sym (drop_next runs i run c.loop-run-test.true c.run-item.is))) ∙ c.loop-run.invariant.0,
      omega arith,
    )
