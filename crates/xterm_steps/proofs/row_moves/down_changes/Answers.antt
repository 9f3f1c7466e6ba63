use Rattle.std.proofs.Common.{◌≡◌, ◌++◌, [], get_or, length, map, sym, ap, ◌∙◌, arith}
use Rattle.std.proofs.lemmas.List.{length-map}
use Rattle.cell_base.specs.Screen.{Screen}
use Rattle.cell_line.specs.LineContent.{LineContent}
use Rattle.cell_surface.specs.Surface.{shown_by}
use Rattle.screen_difference.specs.Difference.{difference}
use Rattle.screen_difference.specs.FreshCells.{lines_fresh, rows_of}
use Rattle.screen_effects.specs.Regions.{in_region, moved_down}
use Rattle.xterm_table.specs.RowEdits.{blanks}
use Rattle.xterm_table.specs.RowMoves.{in_column, rows_down}
use Rattle.xterm_steps.specs.Place.{place_and_pen}
use Rattle.xterm_steps.proofs.MoveLemmas.{map-region_down, rows_led}
use Rattle.xterm_steps.proofs.row_moves.down_changes.Goals as goal

pub returns-clause-changes : goal.returns-clause-changes
returns-clause-changes g c =
    let s : Screen = (shown_by c.args.surface.now).screen in
    let first = c.args.first in
    let size = c.args.size in
    let count = c.args.count in
    let new : Screen = in_column c.args.column (rows_down first size count s) in
    let rows : rows_of (map (λ line. line.now) c.in_ok-news.news.items) ≡ new.rows =
    ap rows_of c.in_ok-news.ensures
    ∙ map-region_down (λ (line : LineContent). line.columns) c.args.blank.now count first size c.screen_lines-lines.result.now
    ∙ (λ i. in_region (moved_down (c.requires.blank i) count) first size (c.screen_lines-lines.ensures.rows i)) in
    c.in_ok-changes.ensures.changes
    ∙ (λ i. difference (lines_fresh s.rows 0 (rows i)) ++ place_and_pen s.width c.args.column s.row s.pen (get_or (rows i) s.row []))
    ∙ sym (rows_led s new.rows c.args.column c.requires.follows.tall c.requires.follows.lawful.even)

pub lines_changes-requires-clause-row : goal.lines_changes-requires-clause-row
lines_changes-requires-clause-row g c =
    let s : Screen = (shown_by c.args.surface.now).screen in
    let count = c.args.count in
    let rows : rows_of (map (λ line. line.now) c.in_ok-news.news.items) ≡ in_region (moved_down (blanks s.width s) count) c.args.first c.args.size s.rows =
    ap rows_of c.in_ok-news.ensures
    ∙ map-region_down (λ (line : LineContent). line.columns) c.args.blank.now count c.args.first c.args.size c.screen_lines-lines.result.now
    ∙ (λ i. in_region (moved_down (c.requires.blank i) count) c.args.first c.args.size (c.screen_lines-lines.ensures.rows i)) in
    let all = ap length rows in
    let size = length-map (map (λ line. line.now) c.in_ok-news.news.items) (λ (line : LineContent). line.columns) in
    let some = length-map c.in_ok-news.news.items (λ line. line.now) in
    let within = c.requires.follows.lawful.row_in in
    omega (arith, all, size, some, within)
