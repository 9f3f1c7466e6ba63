use Rattle.std.proofs.Common.{◌≡◌, ℕ, ◌++◌, [], get_or, map, set, sym, ap, ◌∙◌}
use Rattle.std.proofs.lemmas.List.{map-set}
use Rattle.cell_base.specs.Row.{Row}
use Rattle.cell_base.specs.Screen.{Screen}
use Rattle.cell_line.specs.LineContent.{LineContent}
use Rattle.cell_surface.specs.Surface.{shown_by}
use Rattle.screen_difference.specs.Difference.{difference}
use Rattle.screen_difference.specs.FreshCells.{lines_fresh, rows_of}
use Rattle.screen_effects.specs.Regions.{in_region, moved_up}
use Rattle.xterm_table.specs.RowEdits.{active_column, blanks, with_row}
use Rattle.xterm_table.specs.Displays.{rows_erased}
use Rattle.screen_effects.proofs.EffectLaws.{up_length}
use Rattle.xterm_steps.specs.Place.{place_and_pen}
use Rattle.xterm_steps.proofs.DisplayLemmas.{set_outside}
use Rattle.xterm_steps.proofs.MoveLemmas.{map-region_up, rows_led}
use Rattle.xterm_steps.proofs.displays.erased_changes.Goals as goal

pub returns-clause-changes : goal.returns-clause-changes
returns-clause-changes g c =
    let s : Screen = (shown_by c.args.surface.now).screen in
    let first = c.args.first in
    let size = c.args.size in
    let row : Row = c.args.line.now.columns in
    let new : Screen = rows_erased first size (with_row row s) in
    let at : ℕ = c.cursor_position-row.result.1 in
    let others : rows_of (map (λ line. line.now) c.in_ok-news.news.items) ≡ in_region (moved_up (blanks s.width s) size) first size s.rows =
    ap rows_of c.in_ok-news.ensures
    ∙ map-region_up (λ (line : LineContent). line.columns) c.args.blank.now size first size c.screen_lines-lines.result.now
    ∙ (λ i. in_region (moved_up (c.requires.blank i) size) first size (c.screen_lines-lines.ensures.rows i)) in
    let rows : rows_of (map (λ line. line.now) (set c.in_ok-news.news.items at c.args.line)) ≡ new.rows =
    ap rows_of (map-set (λ line. line.now) c.in_ok-news.news.items at c.args.line)
    ∙ map-set (λ (line : LineContent). line.columns) (map (λ line. line.now) c.in_ok-news.news.items) at c.args.line.now
    ∙ (λ i. set (others i) (c.cursor_position-row.ensures.row i) row)
    ∙ set_outside (moved_up (blanks s.width s) size) first size s.row row s.rows (up_length (blanks s.width s) size) c.requires.within c.requires.other in
    c.in_ok-changes.ensures.changes
    ∙ (λ i. difference (lines_fresh s.rows 0 (rows i)) ++ place_and_pen s.width (c.active_column-column.ensures i) s.row s.pen (get_or (rows i) s.row []))
    ∙ sym (rows_led s new.rows (active_column s) c.requires.follows.tall c.requires.follows.lawful.even)
