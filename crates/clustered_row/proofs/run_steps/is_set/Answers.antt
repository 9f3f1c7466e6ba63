use Rattle.std.proofs.Common.{arith, ◌+◌}
use Rattle.clustered_row.specs.RunSteps.{column_at}
use Rattle.clustered_row.proofs.RunLists.{length_next}
use Rattle.clustered_row.proofs.RunSteps.{set_already}
use Rattle.clustered_row.proofs.run_steps.is_set.Goals as goal

pub returns-then-count-run : goal.returns-then-count-run
returns-then-count-run c = λ t.
    let runs = c.args.runs.now in
    let from = c.args.from in
    let run = c.index-runs-from.result in
    let inside = c.requires.from.inside run c.requires.within c.index-runs-from.is in
    let more = length_next runs from.index run c.requires.within c.index-runs-from.is in
    set_already runs from run (column_at runs from + c.args.count) c.args.attributes.now c.requires.within c.index-runs-from.is (c.has.ensures.0 t) (omega arith) (omega (arith, inside, more))
