use Rattle.std.proofs.Common.{◌∙◌, List, map, ap}
use Rattle.screen_difference.specs.Drawing.{Drawing, with_all}
use Rattle.screen_difference.specs.FreshCells.{PlacedCell, lines_fresh, rows_of}
use Rattle.screen_difference.proofs.regions.line_changes.Goals as goal

pub returns : goal.returns
returns c =
    let cells : List PlacedCell = lines_fresh (rows_of c.args.lines.now) 0 (rows_of (map (λ line. line.now) c.args.other_lines.now)) in
    c.in_ok-changes.ensures c.args.attrs.now cells (c.in_ok-write_lines.ensures ∙ ap (λ (d : Drawing). with_all d cells) c.new-writer.ensures)
