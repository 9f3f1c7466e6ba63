use Rattle.std.proofs.Common.{arith, ap, sym, ◌∙◌, ◌≡◌, ◌-◌, ◌<◌, length, drop, slice_index_or, slice_set}
use Rattle.clustered_row.specs.declared.run.Run.{Run}
use Rattle.clustered_row.specs.Runs.{spread}
use Rattle.clustered_row.specs.RunSteps.{counted}
use Rattle.std.proofs.lemmas.List.{drop-set}
use Rattle.clustered_row.proofs.RunSteps.{below, rest_columns}
use Rattle.clustered_row.proofs.run_steps.begin_at.Goals as goal

pub returns-clause-columns : goal.returns-clause-columns
returns-clause-columns c =
    let runs = c.args.runs.now.items in
    let at = c.args.position.index in
    let k = c.args.position.offset in
    let run = c.index.result.now in
    let is : run ≡ slice_index_or runs at run = c.index.ensures in
    let within = below at (length runs) (λ past. absurd (c.if-position-eq0.false (c.requires.position.after past))) in
    let less : k < run.count = c.requires.position.inside run within is in
    let e : c.set_count.new.runs.items ≡ slice_set runs at (counted run (run.count - k)) = c.set_count.ensures.items run ∙ ap (λ (r : Run). slice_set runs at (counted r (run.count - k))) (sym is) in
    ap (λ ys. spread (drop at ys)) e ∙ ap spread (drop-set runs at (counted run (run.count - k)) within) ∙ rest_columns runs at k run within is (omega arith)
