use Rattle.std.proofs.Common.{◌≡◌, ◌++◌, [], get_or, map, ◌∙◌, List}
use Rattle.cell_base.specs.Row.{Row}
use Rattle.cell_base.specs.Screen.{Screen}
use Rattle.cell_surface.specs.Surface.{shown_by}
use Rattle.screen_difference.specs.Difference.{difference}
use Rattle.screen_difference.specs.FreshCells.{lines_fresh, rows_of}
use Rattle.xterm_steps.specs.Place.{place_and_pen}
use Rattle.xterm_steps.proofs.row_moves.lines_changes.Goals as goal

pub returns-clause-changes : goal.returns-clause-changes
returns-clause-changes g c =
    let s : Screen = (shown_by c.args.surface.now).screen in
    let row = c.cursor_position-row.ensures.row in
    let rows : List Row = rows_of (map (λ line. line.now) c.args.news.items) in
    c.in_ok-changes.ensures.changes
    ∙ (λ i. difference (lines_fresh s.rows 0 rows) ++ place_and_pen s.width c.args.column (row i) (c.pen.ensures i) (get_or rows (row i) []))
