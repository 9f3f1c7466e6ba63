use Rattle.std.proofs.Common.{ℕ, List, arith, refl}
use Rattle.std.specs.String.{string_bytes}
use Rattle.cell_surface.specs.Surface.{shown_by}
use Rattle.terminal_table.specs.Charsets.{Charset, charset_in_use, text_in}
use Rattle.terminal_table.specs.Modes.{Modes}
use Rattle.terminal_table.proofs.CharsetLemmas.{run_in, some_in}
use Rattle.terminal_steps.specs.ProfileView.{modes_in}
use Rattle.terminal_steps.proofs.WholeRunLemmas.{run_some, some_of}
use Rattle.terminal_steps.proofs.runs.print_xterm.Goals as goal

pub returns-then-current_seqno-eq18446744073709551615-clause-puts :
    goal.returns-then-current_seqno-eq18446744073709551615-clause-puts
returns-then-current_seqno-eq18446744073709551615-clause-puts g c = λ can.
    let of = g.W.Widths.width_of c.args.surface.now.grid.widths in
    let modes : Modes = modes_in c.args.modes.now in
    let set : Charset = charset_in_use modes.charsets in
    let text : List ℕ = string_bytes c.args.text in
    let some = run_some of (shown_by c.args.surface.now) (shown_by c.args.surface.now).screen modes (text_in set text) (run_in set text can.printed) (some_in set text can.printed.utf8 (some_of text c.requires.some)) can.state can.shown refl in
    let last = c.if-current_seqno-eq18446744073709551615.true in
    let number = c.current_seqno.ensures in
    record { added = tt; failed = λ e. cc; numbers = λ e. (some, omega (arith, some, last, number)); memory = λ e more. cc; fits = tt }
