use Rattle.std.proofs.Common.{rules, ◌≡◌, List, [], ap, ◌∙◌}
use Rattle.std.specs.Prelude.{fold}
use Rattle.cell_edits.specs.VisibleCells.{visible_cells}
use Rattle.cell_views.specs.CellRefView.{cells_left}
use Rattle.screen_formats.specs.Runs.{Run}
use Rattle.screen_formats.specs.RunSteps.{with_cell}
use Rattle.screen_formats.proofs.RunLemmas.{runs_are_made}
use Rattle.screen_formats.proofs.runs.line_runs.Goals as goal

pub loop-cell-init : goal.loop-cell-init
loop-cell-init c =
    let cells : cells_left c.into_iter-cell-iterator.result ≡ visible_cells c.args.line.now.columns = search rules in
    ap (λ (runs : List Run). fold with_cell runs (cells_left c.into_iter-cell-iterator.result)) c.new-runs.ensures.items
    ∙ ap (fold with_cell []) cells
    ∙ runs_are_made (visible_cells c.args.line.now.columns)
