use Rattle.std.proofs.Common.{rules, ◌≡◌, List, [], ap, sym, ◌∙◌}
use Rattle.std.specs.Prelude.{filter, fold, if◌then◌else◌}
use Rattle.cell_edits.specs.VisibleCells.{visible_cells}
use Rattle.cell_views.specs.CellRefView.{cells_left, shown_by}
use Rattle.screen_formats.specs.Runs.{Run, is_in}
use Rattle.screen_formats.specs.RunSteps.{with_cell}
use Rattle.screen_formats.proofs.RunLemmas.{runs_are_made, wanted_next}
use Rattle.screen_formats.proofs.runs.part_runs.Goals as goal

pub loop-cell-init : goal.loop-cell-init
loop-cell-init c =
    let cells : cells_left c.into_iter-cell-iterator.result ≡ visible_cells c.args.line.now.columns = search rules in
    ap (λ (runs : List Run). fold with_cell runs (filter (is_in c.args.part) (cells_left c.into_iter-cell-iterator.result))) c.new-runs.ensures.items
    ∙ ap (λ cells. fold with_cell [] (filter (is_in c.args.part) cells)) cells
    ∙ runs_are_made (filter (is_in c.args.part) (visible_cells c.args.line.now.columns))

pub loop-cell-preserved : goal.loop-cell-preserved
loop-cell-preserved c =
    let v = shown_by c.in-Some.cell in
    wanted_next (is_in c.args.part) c.loop-cell.runs.items c.push_if.new.runs.items v (cells_left c.next.new.self)
    (c.in_ok-push_if.ensures ∙ ap (λ b. if b then with_cell c.loop-cell.runs.items v else c.loop-cell.runs.items) c.is_in.ensures)
    ∙ ap (λ cells. fold with_cell c.loop-cell.runs.items (filter (is_in c.args.part) cells)) (sym c.in-Some.ensures.steps)
    ∙ c.loop-cell.invariant
