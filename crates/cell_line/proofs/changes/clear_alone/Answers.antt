use Rattle.std.proofs.Common.{◌++◌, ◌∙◌, List, ap}
use Rattle.screen_change.specs.CellChanges.{clear_due}
use Rattle.screen_change.specs.ChangeValue.{ChangeValue}
use Rattle.screen_change.specs.Written.{Written, finished}
use Rattle.screen_change.proofs.RunLemmas.{nothing_written}
use Rattle.cell_line.proofs.changes.clear_alone.Goals as goal

pub returns : goal.returns
returns c =
    c.in_ok-changes.ensures
    ∙ c.in_ok-write_clear.ensures
    ∙ ap (λ (w : Written). finished w ++ clear_due c.args.color) c.new-writer.ensures
    ∙ ap (λ (cs : List ChangeValue). cs ++ clear_due c.args.color) (nothing_written c.args.start.now)
