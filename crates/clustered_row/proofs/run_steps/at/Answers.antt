use Rattle.std.proofs.Common.{arith, ap, sym, ◌∙◌, ◌≡◌, slice_index_or}
use Rattle.clustered_row.specs.declared.run.Run.{Run}
use Rattle.clustered_row.specs.Runs.{spread}
use Rattle.clustered_row.specs.RunSteps.{column_at}
use Rattle.clustered_row.proofs.RunSteps.{found}
use Rattle.clustered_row.proofs.run_steps.at.Goals as goal

pub returns : goal.returns
returns c =
    let runs = c.args.runs.now in
    let position = c.position_of-position.result in
    let run = c.index-runs-position.result in
    let x = (slice_index_or runs position.index run).attributes in
    let here : column_at runs position ≡ c.args.column = omega (arith, c.position_of-position.ensures.column) in
    sym (ap (λ n. slice_index_or (spread runs) n x) (sym here) ∙ found runs position run x c.position_of-position.ensures.position c.position_of-position.ensures.within c.index-runs-position.is ∙ ap (λ (r : Run). r.attributes) c.index-runs-position.is)
