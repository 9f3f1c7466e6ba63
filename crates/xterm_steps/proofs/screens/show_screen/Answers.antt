use Rattle.std.proofs.Common.{◌≡◌, [], ◌++◌, List, get_or, length, map, refl, sym, ap, subst, ◌∙◌, arith}
use Rattle.std.specs.Prelude.{All}
use Rattle.std.proofs.lemmas.List.{length-map}
use Rattle.cell_base.specs.Row.{Row}
use Rattle.cell_base.specs.Screen.{Screen}
use Rattle.cell_line.specs.LineContent.{LineContent}
use Rattle.cell_surface.specs.Surface.{shown_by}
use Rattle.screen_difference.specs.Difference.{difference}
use Rattle.screen_difference.specs.FreshCells.{lines_fresh, rows_of}
use Rattle.terminal_table.specs.Led.{led}
use Rattle.xterm_steps.specs.Place.{place_and_pen}
use Rattle.xterm_steps.proofs.MoveLemmas.{screen_led}
use Rattle.xterm_steps.proofs.screens.show_screen.Goals as goal

-- no row to put the cursor into
pub returns-then-row-lines : goal.returns-then-row-lines
returns-then-row-lines g c = λ screen is follows.
    let size = length-map c.args.lines.now (λ (line : LineContent). line.columns) in
    let rows = ap (λ (s : Screen). length s.rows) is in
    let row = ap (λ (s : Screen). s.row) is in
    let inside = follows.lawful.row_in in
    let past = c.if-row-lines.true in
    absurd (omega (arith, size, rows, row, inside, past))

pub returns : goal.returns
returns g c = λ screen is follows.
    let s : Screen = (shown_by c.args.surface.now).screen in
    let none : map (λ line. line.now) c.new-news.result.items ≡ [] = ap (map (λ line. line.now)) c.new-news.ensures.items in
    let lines : map (λ line. line.now) c.push_lines.new.news.items ≡ c.args.lines.now = c.in_ok-push_lines.ensures ∙ (λ i. none i ++ c.args.lines.now) in
    let rows : List Row = rows_of c.args.lines.now in
    let new : Screen = record s { rows = rows; column = c.args.column; row = c.args.row; pen = c.args.pen.now } in
    let there = subst (λ (x : Screen). length x.rows ≡ length s.rows) is follows.tall in
    c.show.ensures screen
    (c.in_ok-changes.ensures.changes
    ∙ (λ i. difference (lines_fresh s.rows 0 (rows_of (lines i))) ++ place_and_pen s.width c.args.column c.args.row c.args.pen.now (get_or (rows_of (lines i)) c.args.row []))
    ∙ sym (screen_led s rows c.args.column c.args.row c.args.pen.now there (subst (λ (x : Screen). All (λ row. length row ≡ x.width) x.rows) is follows.lawful.even))
    ∙ ap (led s) (sym is))
    follows (ap (λ (x : Screen). x.title) is)
