use Rattle.std.proofs.Common.{◌∙◌, ◌∷◌, [], List, length, ap}
use Rattle.cell_base.specs.Row.{Row}
use Rattle.screen_difference.specs.Drawing.{Drawing, new_drawing, with_all}
use Rattle.screen_difference.specs.FreshCells.{PlacedCell, lines_fresh, row_fresh, rows_fresh, rows_of}
use Rattle.screen_difference.proofs.FreshLemmas.{columns_after}
use Rattle.screen_difference.proofs.regions.numbered_line_changes.Goals as goal

pub returns : goal.returns
returns c =
    let cells : List PlacedCell = lines_fresh (rows_of c.args.lines.now) c.args.row (rows_of (c.args.other.now ∷ [])) in
    c.in_ok-changes.ensures c.args.attrs.now cells (
    c.in_ok-write_lines.ensures
    ∙ ap (λ (d : Drawing). with_all d (rows_fresh (λ old new. row_fresh 0 0 (length new) old new) c.args.row (rows_of c.lines_from.result.now) (rows_of (c.args.other.now ∷ [])))) c.new-writer.ensures
    ∙ ap (λ (olds : List Row). with_all (new_drawing c.args.attrs.now) (rows_fresh (λ old new. row_fresh 0 0 (length new) old new) c.args.row olds (rows_of (c.args.other.now ∷ [])))) (ap rows_of c.lines_from.ensures ∙ columns_after c.args.row c.args.lines.now))
