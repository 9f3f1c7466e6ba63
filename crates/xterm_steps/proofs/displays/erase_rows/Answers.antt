use Rattle.std.proofs.Common.{◌≡◌, refl, sym, ap, subst, ◌∙◌}
use Rattle.std.specs.Prelude.{⊤, Result, Err}
use Rattle.std.proofs.lemmas.Result.{err_from_is_err_and}
use Rattle.cell_base.specs.Row.{Row}
use Rattle.cell_base.specs.Screen.{Screen}
use Rattle.cell_surface.specs.Surface.{shown_by}
use Rattle.cell_surface.specs.declared.error.SurfaceError.{SurfaceError}
use Rattle.cell_surface.specs.declared.error.SurfaceError.TheVariants.{Memory}
use Rattle.terminal_table.specs.Led.{led}
use Rattle.xterm_table.specs.Displays.{rows_erased}
use Rattle.xterm_table.specs.Follows.{Follows}
use Rattle.xterm_table.specs.RowEdits.{columns_erased, with_row}
use Rattle.xterm_steps.specs.Becomes.{Becomes, ShowsBy}
use Rattle.xterm_steps.proofs.AddLemmas.{follows_itself}
use Rattle.xterm_steps.proofs.ShowLemmas.{no_memory}
use Rattle.xterm_steps.proofs.displays.erase_rows.Goals as goal

pub erased_changes-requires-clause-follows : goal.erased_changes-requires-clause-follows
erased_changes-requires-clause-follows g c =
    let s : Screen = (shown_by c.args.surface.now).screen in
    let width_of = g.W.Widths.width_of c.args.surface.now.grid.widths in
    let narrow = g.met.W.Widths.space_is_one c.args.surface.now.grid.widths in
    let itself : Follows width_of s s = follows_itself width_of (shown_by c.args.surface.now) (c.surfaces_stay_lawful.ensures.lawful c.requires.stays) (c.surfaces_stay_lawful.ensures.cells c.requires.stays) in
    subst (λ (row : Row). Follows width_of s (rows_erased c.args.first c.args.size (with_row row s))) (sym c.in_ok-line.ensures)
    (c.row_moves_follow.ensures.up width_of s (columns_erased c.args.start c.args.finish s) c.args.first c.args.size c.args.size narrow
    (c.erasures_follow.ensures.columns width_of s s c.args.start c.args.finish narrow c.requires.order c.requires.columns itself))

pub returns : goal.returns
returns g c =
    let s : Screen = (shown_by c.args.surface.now).screen in
    let width_of = g.W.Widths.width_of c.args.surface.now.grid.widths in
    let narrow = g.met.W.Widths.space_is_one c.args.surface.now.grid.widths in
    let itself : Follows width_of s s = follows_itself width_of (shown_by c.args.surface.now) (c.surfaces_stay_lawful.ensures.lawful c.requires.stays) (c.surfaces_stay_lawful.ensures.cells c.requires.stays) in
    let follows : Follows width_of s (rows_erased c.args.first c.args.size (with_row c.in_ok-line.line.columns s)) =
    subst (λ (row : Row). Follows width_of s (rows_erased c.args.first c.args.size (with_row row s))) (sym c.in_ok-line.ensures)
    (c.row_moves_follow.ensures.up width_of s (columns_erased c.args.start c.args.finish s) c.args.first c.args.size c.args.size narrow
    (c.erasures_follow.ensures.columns width_of s s c.args.start c.args.finish narrow c.requires.order c.requires.columns itself)) in
    subst (λ (row : Row). Becomes (λ w. g.W.Widths.width_of w) c.args.surface.now (rows_erased c.args.first c.args.size (with_row row s)) c.show.result c.show.new.surface) c.in_ok-line.ensures
    (c.show.ensures (rows_erased c.args.first c.args.size (with_row c.in_ok-line.line.columns s)) c.in_ok-changes.ensures.changes follows refl)

pub returns-in_err-changes : goal.returns-in_err-changes
returns-in_err-changes g c =
    let s : Screen = (shown_by c.args.surface.now).screen in
    let new : Screen = rows_erased c.args.first c.args.size (columns_erased c.args.start c.args.finish s) in
    let refused = c.in_err-changes.ensures.refused in
    let memory : Memory ≡ c.in_err-changes.field-0.0 = cc in
    let p = err_from_is_err_and c.from_residual-in_err-changes.result c.from_residual-in_err-changes.ensures.1 in
    let result : c.from_residual-in_err-changes.result ≡ Err Memory = p.1 ∙ ap Err p.2 ∙ ap Err (sym memory) in
    subst (λ (r : Result ⊤ SurfaceError). ShowsBy (λ w. g.W.Widths.width_of w) c.args.surface.now (led s new) new r c.args.surface.now) (sym result)
    (no_memory (λ w. g.W.Widths.width_of w) c.args.surface.now (led s new) new c.requires.stays)
