use Rattle.std.proofs.Common.{ℕ, Option, Some, ◌∙◌, sym, ap}
use Rattle.std.specs.Prelude.{fold, if◌then◌else◌}
use Rattle.screen_change.specs.CellRuns.{is_blank_of}
use Rattle.cell_views.specs.CellRefView.{cells_left}
use Rattle.cell_edits.specs.VisibleCells.{VisibleCell}
use Rattle.cell_line.proofs.changes.last_non_blank.Goals as goal

pub loop-cell-preserved : goal.loop-cell-preserved
loop-cell-preserved c =
    let step : Option ℕ → VisibleCell → Option ℕ = λ last v. if is_blank_of c.args.color v.cell then last else Some v.column in
    ap (λ (last : Option ℕ). fold step last (cells_left c.next.new.self)) c.later_non_blank-last.ensures
    ∙ sym (ap (fold step c.loop-cell.last) c.in-Some.ensures.steps)
    ∙ c.loop-cell.invariant
