use Rattle.std.proofs.Common.{◌≡◌, sym, ap, subst, ◌∙◌}
use Rattle.std.specs.Prelude.{⊤, not, Result, Err}
use Rattle.std.proofs.lemmas.Result.{err_from_is_err_and}
use Rattle.cell_base.specs.Screen.{Screen}
use Rattle.cell_surface.specs.Surface.{shown_by}
use Rattle.cell_surface.specs.declared.error.SurfaceError.{SurfaceError}
use Rattle.screen_difference.specs.FreshCells.{rows_of}
use Rattle.terminal_table.specs.Modes.{Modes, other_rows, region_within}
use Rattle.terminal_table.specs.Screens as screens
use Rattle.terminal_table.specs.Screens.{Screens, restored_column, restored_row, screens_after}
use Rattle.terminal_table.proofs.SwitchLemmas.{Leads, screens_follow}
use Rattle.terminal_steps.specs.ProfileView.{modes_in}
use Rattle.terminal_steps.specs.Switches.{Switches, screens_on}
use Rattle.terminal_steps.proofs.SwitchLemmas.{leads_here}
use Rattle.terminal_steps.proofs.screens.show_and_restore.Goals as goal

pub returns-in_err-show_lines : goal.returns-in_err-show_lines
returns-in_err-show_lines g c = λ can.
    let s : Screen = (shown_by c.args.surface.now).screen in
    let m : Modes = modes_in c.args.modes.now in
    let width_of = g.W.Widths.width_of c.args.surface.now.grid.widths in
    let at : Screens = screens_on c.args.surface.now c.args.saved.now m in
    let leads : Leads width_of s at = leads_here width_of (shown_by c.args.surface.now) c.args.saved.now m (g.met.W.Widths.space_is_one c.args.surface.now.grid.widths) (c.surfaces_stay_lawful.ensures.lawful c.requires.stays) (c.surfaces_stay_lawful.ensures.cells c.requires.stays) can in
    let new : Screen = (screens_after screens.ShowAndRestore at).screen in
    let found = sym (c.column.view_is ∙ c.in_ok-column.ensures) in
    let is : new ≡ record s { rows = other_rows s m.other.rows; column = c.restored_column-column.result; row = c.restored_row-row.result; pen = c.column.inside.pen } =
    λ i. record s {
      rows = other_rows s m.other.rows;
      column = ((λ j. restored_column m.other.with_cursor.pending s.width (found j).column) ∙ sym c.restored_column-column.ensures.column) i;
      row = ((λ j. restored_row m.other.with_cursor.origin (region_within (can.0.tall j) m.region) (can.0.tall j) (found j).row) ∙ sym c.restored_row-row.ensures.row) i;
      pen = (found i).pen;
    } in
    let becomes = c.in_err-show_lines.ensures new is (screens_follow width_of screens.ShowAndRestore at leads) in
    let p = err_from_is_err_and c.from_residual-in_err-show_lines.result c.from_residual-in_err-show_lines.ensures.1 in
    let result : c.from_residual-in_err-show_lines.result ≡ Err c.in_err-show_lines.field-0.0 = p.1 ∙ ap Err p.2 in
    subst
    (λ (r : Result ⊤ SurfaceError). Switches (λ w. g.W.Widths.width_of w) at screens.ShowAndRestore c.args.surface.now r c.show_lines.new.surface c.args.saved.now
    (modes_in (record c.args.modes.now { other = record c.args.modes.now.other { lines = c.show_lines.new.lines } })))
    (sym result) (record { added = becomes.added; saved = tt; modes = tt })

pub returns : goal.returns
returns g c = λ can.
    let s : Screen = (shown_by c.args.surface.now).screen in
    let m : Modes = modes_in c.args.modes.now in
    let width_of = g.W.Widths.width_of c.args.surface.now.grid.widths in
    let at : Screens = screens_on c.args.surface.now c.args.saved.now m in
    let leads : Leads width_of s at = leads_here width_of (shown_by c.args.surface.now) c.args.saved.now m (g.met.W.Widths.space_is_one c.args.surface.now.grid.widths) (c.surfaces_stay_lawful.ensures.lawful c.requires.stays) (c.surfaces_stay_lawful.ensures.cells c.requires.stays) can in
    let new : Screen = (screens_after screens.ShowAndRestore at).screen in
    let found = sym (c.column.view_is ∙ c.in_ok-column.ensures) in
    let is : new ≡ record s { rows = other_rows s m.other.rows; column = c.restored_column-column.result; row = c.restored_row-row.result; pen = c.column.inside.pen } =
    λ i. record s {
      rows = other_rows s m.other.rows;
      column = ((λ j. restored_column m.other.with_cursor.pending s.width (found j).column) ∙ sym c.restored_column-column.ensures.column) i;
      row = ((λ j. restored_row m.other.with_cursor.origin (region_within (can.0.tall j) m.region) (can.0.tall j) (found j).row) ∙ sym c.restored_row-row.ensures.row) i;
      pen = (found i).pen;
    } in
    let becomes = c.in_ok-show_lines.ensures new is (screens_follow width_of screens.ShowAndRestore at leads) in
    record {
      added = becomes.added;
      saved = c.exchange.ensures.saved;
      modes = ap (λ (n : Modes). record n { origin = m.other.with_cursor.origin; charsets = m.other.with_cursor.charsets }) (c.exchange.ensures.modes ∙ (λ i. record m { alternate = not m.alternate; with_cursor = m.other.with_cursor; other = record { rows = (ap rows_of c.in_ok-lines.ensures ∙ c.screen_lines.ensures.rows) i; cursor = c.args.saved.now; with_cursor = m.with_cursor } }));
    }
