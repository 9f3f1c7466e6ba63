use Rattle.std.proofs.Common.{◌<◌, [], length, arith}
use Rattle.std.specs.Prelude.{None}
use Rattle.cell_base.specs.Screen.{Screen}
use Rattle.cell_surface.specs.Surface.{shown_by}
use Rattle.terminal_table.specs.Led.{led}
use Rattle.terminal_table.specs.State.{State, IsState}
use Rattle.terminal_table.specs.Xterm.{xterm_screen}
use Rattle.terminal_table.proofs.XtermLemmas.{xterm_follows}
use Rattle.terminal_steps.specs.FunctionView.{own_function}
use Rattle.xterm_steps.proofs.LedLemmas.{led_some}
use Rattle.terminal_steps.proofs.xterm.perform_xterm.Goals as goal

pub returns-then-current_seqno-eq18446744073709551615-clause-added : goal.returns-then-current_seqno-eq18446744073709551615-clause-added
returns-then-current_seqno-eq18446744073709551615-clause-added g c =
    let before = c.args.surface.now in
    let s : Screen = (shown_by before).screen in
    let new : Screen = xterm_screen (own_function c.args.region c.args.function) s in
    let width_of = g.W.Widths.width_of before.grid.widths in
    let state : State = record { screen = s; saved = None; replies = []; modes = None } in
    let lawful = c.surfaces_stay_lawful.ensures.lawful c.requires.stays in
    let is : IsState width_of state = record { lawful = lawful.lawful; whole = lawful.whole; narrow = g.met.W.Widths.space_is_one before.grid.widths; sound = c.surfaces_stay_lawful.ensures.cells c.requires.stays; other = tt; last = tt } in
    let some : 0 < length (led s new) = led_some width_of s new (xterm_follows width_of (own_function c.args.region c.args.function) state is) in
    let number = c.current_seqno.ensures in
    let last = c.if-current_seqno-eq18446744073709551615.true in
    record { added = tt; failed = λ e. cc; numbers = λ e. (some, omega (arith, some, number, last)); memory = λ e. cc; fits = tt }
