use Rattle.std.proofs.Common.{rules, ◌≡◌, ◌<◌, ◌+◌, ◌^◌, refl, sym, ap, subst, ◌∙◌}
use Rattle.std.specs.Prelude.{Option, None, IfOk, true, false}
use Rattle.std.specs.String.{string_bytes}
use Rattle.cell_surface.specs.Surface.{Surface, number_of, shown_by}
use Rattle.terminal_table.specs.Modes.{Modes}
use Rattle.terminal_table.specs.Runs.{run_changes}
use Rattle.xterm_steps.specs.Additions.{AddsAll}
use Rattle.terminal_steps.specs.ProfileView.{kept_modes}
use Rattle.terminal_steps.proofs.NumberLemmas.{looked_number}
use Rattle.terminal_steps.proofs.StateLemmas.{plain_kept, run_logs, settled_on, xterm_adds, xterm_kept}
use Rattle.terminal_steps.proofs.state.TerminalState.settle.Goals as goal

pub returns-in-None-clause-done : goal.returns-in-None-clause-done
returns-in-None-clause-done g c =
    let plain : None ≡ kept_modes c.args.self.now.modes = sym (ap kept_modes c.in-None.is) in
    settled_on (λ w. g.W.Widths.width_of w) c.args.self.now _ c.print.result (search rules) (search rules) refl refl (plain_kept (λ w. g.W.Widths.width_of w) c.args.self.now c.print.result c.in-None.is)
    (λ ready.
    subst (λ (modes : Option Modes). IfOk c.print.result (λ x. AddsAll (λ w. g.W.Widths.width_of w) c.args.self.now.surface c.print.new.surface (run_changes modes (g.W.Widths.width_of c.args.self.now.surface.grid.widths) (shown_by c.args.self.now.surface).screen (string_bytes c.args.self.now.held)))) plain
    (subst (λ (s : Surface g.row.W.Denot). IfOk c.print.result (λ x. AddsAll (λ w. g.W.Widths.width_of w) s c.print.new.surface (run_changes None (g.W.Widths.width_of c.args.self.now.surface.grid.widths) (shown_by c.args.self.now.surface).screen (string_bytes c.args.self.now.held)))) c.pooled_text-next.ensures.same
    (subst (λ t. IfOk c.print.result (λ x. AddsAll (λ w. g.W.Widths.width_of w) c.pooled_text-next.new.self c.print.new.surface (run_changes None (g.W.Widths.width_of c.args.self.now.surface.grid.widths) (shown_by c.args.self.now.surface).screen (string_bytes t)))) c.replace-text.ensures.value c.print.ensures.added)))
    (λ ready. subst (λ (s : Surface g.row.W.Denot). IfOk c.print.result (λ x. number_of s < 2 ^ 64 → number_of c.print.new.surface < 2 ^ 64)) c.pooled_text-next.ensures.same c.print.ensures.fits)

pub returns-in-Some-clause-done : goal.returns-in-Some-clause-done
returns-in-Some-clause-done g c =
    settled_on (λ w. g.W.Widths.width_of w) c.args.self.now _ c.print_xterm.result (search rules) (search rules) refl refl (xterm_kept (λ w. g.W.Widths.width_of w) c.args.self.now c.replace-text.result c.in-Some.modes c.print_xterm.new.modes c.print_xterm.result c.replace-text.ensures.value c.in-Some.is c.print_xterm.ensures.last)
    (λ ready. (xterm_adds (λ w. g.W.Widths.width_of w) c.args.self.now c.pooled_text-next.new.self c.print_xterm.new.surface c.replace-text.result c.in-Some.modes c.print_xterm.result c.pooled_text-next.ensures.same c.replace-text.ensures.value c.in-Some.is c.print_xterm.ensures.puts ready).added)
    (λ ready. (xterm_adds (λ w. g.W.Widths.width_of w) c.args.self.now c.pooled_text-next.new.self c.print_xterm.new.surface c.replace-text.result c.in-Some.modes c.print_xterm.result c.pooled_text-next.ensures.same c.replace-text.ensures.value c.in-Some.is c.print_xterm.ensures.puts ready).fits)

pub returns-in-Some-clause-failed : goal.returns-in-Some-clause-failed
returns-in-Some-clause-failed g c = λ e ready.
    let adds = xterm_adds (λ w. g.W.Widths.width_of w) c.args.self.now c.pooled_text-next.new.self c.print_xterm.new.surface c.replace-text.result c.in-Some.modes c.print_xterm.result c.pooled_text-next.ensures.same c.replace-text.ensures.value c.in-Some.is c.print_xterm.ensures.puts ready in
    let clash : true ≡ false = sym (adds.failed e) ∙ ready.stays in cc

pub returns-in-Some-clause-numbers : goal.returns-in-Some-clause-numbers
returns-in-Some-clause-numbers g c = λ e ready events.
    let adds = xterm_adds (λ w. g.W.Widths.width_of w) c.args.self.now c.pooled_text-next.new.self c.print_xterm.new.surface c.replace-text.result c.in-Some.modes c.print_xterm.result c.pooled_text-next.ensures.same c.replace-text.ensures.value c.in-Some.is c.print_xterm.ensures.puts ready in
    looked_number (λ w. g.W.Widths.width_of w) c.args.self.now (search rules) (adds.numbers e).1

pub returns-in-Some-clause-refused : goal.returns-in-Some-clause-refused
returns-in-Some-clause-refused g c = λ e ready.
    (run_logs (λ w. g.W.Widths.width_of w) c.args.self.now ready (search rules), subst (λ (s : Surface g.row.W.Denot). number_of s + 1 < 2 ^ 64) c.pooled_text-next.ensures.same (c.print_xterm.ensures.numbered e), c.print_xterm.ensures.memory e)
