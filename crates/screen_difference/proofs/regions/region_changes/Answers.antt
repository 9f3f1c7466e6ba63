use Rattle.std.proofs.Common.{◌∙◌, List, ap}
use Rattle.cell_line.specs.LineContent.{LineContent}
use Rattle.screen_difference.specs.Drawing.{with_all}
use Rattle.screen_difference.specs.FreshCells.{PlacedCell, region_fresh, row_fresh, rows_fresh, rows_of}
use Rattle.screen_difference.proofs.FreshLemmas.{columns_after, columns_within}
use Rattle.screen_difference.proofs.regions.region_changes.Goals as goal

pub returns : goal.returns
returns c =
    let cells : List PlacedCell = region_fresh (rows_of c.args.lines.now) c.args.x c.args.y c.args.width c.args.height (rows_of c.args.other_lines.now) c.args.other_x c.args.other_y in
    let olds : List LineContent = c.lines_from-olds.result.now in
    let rows = rows_fresh (row_fresh c.args.x c.args.other_x c.args.width) c.args.y in
    c.in_ok-changes.ensures c.args.attrs.now cells (
    c.in_ok-write_region.ensures
    ∙ (λ i. with_all (c.new-writer.ensures i) (rows (columns_within c.args.y c.args.height c.min.result c.args.lines.now olds c.lines_from-olds.ensures c.min.ensures i) ((ap rows_of c.lines_from.ensures ∙ columns_after c.args.other_y c.args.other_lines.now) i))))
