use Rattle.std.proofs.Common.{subst, sym}
use Rattle.cell_base.specs.Row.{Row}
use Rattle.cell_base.specs.Screen.{Screen}
use Rattle.cell_surface.specs.Surface.{shown_by}
use Rattle.xterm_table.specs.Follows.{Follows}
use Rattle.xterm_table.specs.RowEdits.{with_row}
use Rattle.xterm_steps.specs.Becomes.{Becomes}
use Rattle.xterm_steps.proofs.AddLemmas.{follows_itself}
use Rattle.xterm_steps.proofs.row_edits.erase_columns.Goals as goal

pub replace_row-requires-clause-follows : goal.replace_row-requires-clause-follows
replace_row-requires-clause-follows g c =
    let s : Screen = (shown_by c.args.surface.now).screen in
    let width_of = g.W.Widths.width_of c.args.surface.now.grid.widths in
    let itself : Follows width_of s s = follows_itself width_of (shown_by c.args.surface.now) (c.surfaces_stay_lawful.ensures.lawful c.requires.stays) (c.surfaces_stay_lawful.ensures.cells c.requires.stays) in
    subst (λ (row : Row). Follows width_of s (with_row row s)) (sym c.in_ok-line.ensures)
    (c.erasures_follow.ensures.columns width_of s s c.args.start c.args.finish (g.met.W.Widths.space_is_one c.args.surface.now.grid.widths) c.requires.order c.requires.within itself)

pub returns : goal.returns
returns g c =
    subst (λ (row : Row). Becomes (λ w. g.W.Widths.width_of w) c.args.surface.now (with_row row (shown_by c.args.surface.now).screen) c.replace_row.result c.replace_row.new.surface) c.in_ok-line.ensures c.replace_row.ensures
