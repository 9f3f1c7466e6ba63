use Rattle.std.proofs.Common.{◌≡◌, sym, ap, subst, ◌∙◌}
use Rattle.std.specs.Prelude.{⊤, true, Result, Err}
use Rattle.std.proofs.lemmas.Result.{err_from_is_err_and}
use Rattle.cell_base.specs.Screen.{Screen}
use Rattle.cell_surface.specs.Surface.{shown_by}
use Rattle.cell_surface.specs.declared.error.SurfaceError.{SurfaceError}
use Rattle.screen_difference.specs.FreshCells.{rows_of}
use Rattle.terminal_table.specs.Alignment.{screen_aligned}
use Rattle.terminal_table.specs.Led.{led}
use Rattle.terminal_table.proofs.AlignLemmas.{aligned_follows}
use Rattle.xterm_steps.specs.Additions.{AddsWith}
use Rattle.terminal_steps.proofs.screens.align.Goals as goal

pub returns-in_err-show_screen-clause-added : goal.returns-in_err-show_screen-clause-added
returns-in_err-show_screen-clause-added g c =
    let s : Screen = (shown_by c.args.surface.now).screen in
    let of = g.W.Widths.width_of c.args.surface.now.grid.widths in
    let new : Screen = screen_aligned of s in
    let rows = sym (ap rows_of c.deref.ensures.value ∙ c.in_ok-lines.ensures) in
    let pen = sym c.blank.ensures in
    let is : new ≡ record s { rows = rows_of c.deref.result.now; column = 0; row = 0; pen = c.blank.result } = λ i. record s { rows = rows i; column = 0; row = 0; pen = pen i } in
    let becomes = c.in_err-show_screen.ensures new is (aligned_follows of s (g.met.W.Widths.space_is_one c.args.surface.now.grid.widths) (c.surfaces_stay_lawful.ensures.lawful c.requires.stays).lawful) in
    let p = err_from_is_err_and c.from_residual-in_err-show_screen.result c.from_residual-in_err-show_screen.ensures.1 in
    let result : c.from_residual-in_err-show_screen.result ≡ Err c.in_err-show_screen.field-0.0 = p.1 ∙ ap Err p.2 in
    subst (λ (r : Result ⊤ SurfaceError). AddsWith true (λ w. g.W.Widths.width_of w) c.args.surface.now (led s new) r c.show_screen-2.new.surface) (sym result) becomes.added

pub returns-clause-added : goal.returns-clause-added
returns-clause-added g c =
    let s : Screen = (shown_by c.args.surface.now).screen in
    let of = g.W.Widths.width_of c.args.surface.now.grid.widths in
    let new : Screen = screen_aligned of s in
    let rows = sym (ap rows_of c.deref.ensures.value ∙ c.in_ok-lines.ensures) in
    let pen = sym c.blank.ensures in
    let is : new ≡ record s { rows = rows_of c.deref.result.now; column = 0; row = 0; pen = c.blank.result } = λ i. record s { rows = rows i; column = 0; row = 0; pen = pen i } in
    let becomes = c.in_ok-show_screen.ensures new is (aligned_follows of s (g.met.W.Widths.space_is_one c.args.surface.now.grid.widths) (c.surfaces_stay_lawful.ensures.lawful c.requires.stays).lawful) in
    becomes.added
