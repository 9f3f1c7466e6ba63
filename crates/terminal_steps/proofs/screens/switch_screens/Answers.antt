use Rattle.std.proofs.Common.{◌<◌, length, sym, arith}
use Rattle.cell_base.specs.Screen.{Screen}
use Rattle.cell_surface.specs.Surface.{shown_by}
use Rattle.terminal_table.specs.Modes.{Modes}
use Rattle.terminal_table.specs.Screens.{Screens, screens_changes}
use Rattle.terminal_table.proofs.SwitchLemmas.{Leads}
use Rattle.terminal_steps.specs.FunctionView.{screen_function}
use Rattle.terminal_steps.specs.ProfileView.{modes_in}
use Rattle.terminal_steps.specs.Switches.{screens_on}
use Rattle.terminal_steps.proofs.SwitchLemmas.{leads_here, switch_some}
use Rattle.terminal_steps.proofs.screens.switch_screens.Goals as goal

pub returns-then-current_seqno-eq18446744073709551615-clause-done :
    goal.returns-then-current_seqno-eq18446744073709551615-clause-done
returns-then-current_seqno-eq18446744073709551615-clause-done g c = λ can.
    let s : Screen = (shown_by c.args.surface.now).screen in
    let m : Modes = modes_in c.args.modes.now in
    let width_of = g.W.Widths.width_of c.args.surface.now.grid.widths in
    let at : Screens = screens_on c.args.surface.now c.args.saved.now m in
    let leads : Leads width_of s at = leads_here width_of (shown_by c.args.surface.now) c.args.saved.now m (g.met.W.Widths.space_is_one c.args.surface.now.grid.widths) (c.surfaces_stay_lawful.ensures.lawful c.requires.stays) (c.surfaces_stay_lawful.ensures.cells c.requires.stays) can in
    let some : 0 < length (screens_changes (screen_function c.args.function) at) = switch_some width_of at c.args.function leads (sym c.if-adds_always.ensures) in
    let number = c.current_seqno.ensures in
    let last = c.if-current_seqno-eq18446744073709551615.true in
    record {
      added = record { added = tt; failed = λ e. cc; numbers = λ e. (some, omega (arith, some, number, last)); memory = λ e. cc; fits = tt };
      saved = tt;
      modes = tt;
    }
