use Rattle.std.proofs.Common.{◌≡◌, ◌<◌, ◌++◌, [], get_or, length, map, ap, ◌∙◌, arith, List}
use Rattle.std.proofs.lemmas.List.{length-map}
use Rattle.cell_base.specs.Row.{Row}
use Rattle.cell_base.specs.Screen.{Screen}
use Rattle.cell_line.specs.LineContent.{LineContent}
use Rattle.cell_surface.specs.Surface.{shown_by}
use Rattle.screen_change.specs.ChangeValue.{ChangeValue}
use Rattle.screen_difference.specs.Difference.{difference}
use Rattle.screen_difference.specs.FreshCells.{lines_fresh, rows_of}
use Rattle.xterm_steps.specs.Place.{place_and_pen}
use Rattle.xterm_steps.proofs.MoveLemmas.{read_twice}
use Rattle.xterm_steps.proofs.screens.screen_changes.Goals as goal

pub returns-clause-changes : goal.returns-clause-changes
returns-clause-changes g c =
    let s : Screen = (shown_by c.args.surface.now).screen in
    let wide = c.dimensions-width.ensures.width in
    let rows : List Row = rows_of (map (λ line. line.now) c.args.news.items) in
    let at = c.args.row in
    let size = length-map (map (λ line. line.now) c.args.news.items) (λ (line : LineContent). line.columns) in
    let some = length-map c.args.news.items (λ line. line.now) in
    let within = c.requires.row in
    let there : at < length rows = omega (arith, size, some, within) in
    let line : c.index-line.result.now.now.columns ≡ get_or rows at [] =
    ap (λ line. line.now.columns) c.index-line.ensures
    ∙ read_twice c.args.news.items (λ line. line.now) (λ (line : LineContent). line.columns) at c.index-line.result.now [] there in
    c.in_ok-push_place.ensures
    ∙ ap (λ (changes : List ChangeValue). changes ++ place_and_pen c.dimensions-width.result.0 c.args.column at c.args.pen.now c.index-line.result.now.now.columns) c.in_ok-changes.ensures.changes
    ∙ (λ i. difference (lines_fresh s.rows 0 rows) ++ place_and_pen (wide i) c.args.column at c.args.pen.now (line i))
