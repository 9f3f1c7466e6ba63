use Rattle.std.proofs.Common.{◌≡◌, ◌∙◌, rules}
use Rattle.cell_edits.specs.VisibleCells.{VisibleCell}
use Rattle.cell_views.specs.CellRefView.{shown_by}
use Rattle.cell_views.specs.Region.{region_left}
use Rattle.screen_difference.specs.Drawing.{with_all}
use Rattle.screen_difference.specs.FreshCells.{placed}
use Rattle.screen_difference.specs.ShownCells.{passed_fresh, shown_left, side_by_side}
use Rattle.screen_difference.proofs.SideLemmas.{cell_written, some_width}
use Rattle.screen_difference.proofs.fresh_cells.write_next.Goals as goal

pub returns-clause-written : goal.returns-clause-written
returns-clause-written c =
    let cell = c.in-Some-next.cell in
    let next : VisibleCell = shown_by cell in
    let same : (c.write_plain.new.writer ≡ c.args.writer.now) × (c.write_plain.new.olds ≡ c.args.olds.now) × (region_left c.write_plain.new.news ≡ region_left c.args.news.now) = search rules in
    cell_written c.write_plain.new.writer c.write_cell.new.writer c.args.row (shown_left c.write_plain.new.olds) (shown_left c.write_cell.new.olds) (region_left c.write_plain.new.news) (region_left c.next.new.self)
    c.args.column c.width.result next (some_width cell) c.width.ensures c.in-Some-next.ensures.steps
    c.in_ok-write_cell.ensures.written c.write_cell.ensures.passed
    ∙ (λ i. with_all (same.0 i) (placed c.args.row (passed_fresh (shown_left (same.1 i)) (side_by_side c.args.column (same.2 i)))))
