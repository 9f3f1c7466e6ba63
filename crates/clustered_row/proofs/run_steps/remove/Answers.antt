use Rattle.std.proofs.Common.{arith, ap, ◌∙◌, ◌≡◌, ◌+◌, ◌<◌, length, take, drop}
use Rattle.clustered_row.specs.declared.run.Run.{Run}
use Rattle.std.proofs.lemmas.List.Edits.{length-swap}
use Rattle.cell_base.specs.Attributes.{plain}
use Rattle.clustered_row.proofs.RunSteps.{moved_prefix, moved_after}
use Rattle.clustered_row.proofs.run_steps.remove.Goals as goal

abbrev no_run : Run
no_run = record { count = 0; attributes = plain }

pub loop-k-preserved : goal.loop-k-preserved
loop-k-preserved c =
    let old = c.args.runs.now.items in
    let now = c.loop-k.runs.items in
    let from = c.args.from in
    let to = c.args.to in
    let k = c.loop-k.k in
    let long : length now ≡ length old = c.loop-k.invariant.0 in
    let less : from < to = omega arith in
    let within : to + k < length now = omega arith in
    let e = c.swap.ensures.items in (
      ap length e ∙ length-swap now (from + k) (to + k) ∙ long,
      ap (λ ys. take (from + (k + 1)) ys) e ∙ moved_prefix now old from to k no_run less within long c.loop-k.invariant.1 c.loop-k.invariant.2,
      ap (λ ys. drop (to + (k + 1)) ys) e ∙ moved_after now old from to k no_run less within c.loop-k.invariant.2,
    )
