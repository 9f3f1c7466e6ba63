use Rattle.std.proofs.Common.{◌≡◌, refl, sym, ap, ◌∙◌}
use Rattle.std.specs.Prelude.{Err}
use Rattle.std.proofs.lemmas.Result.{err_from_is_err_and}
use Rattle.cell_surface.specs.Surface.{shown_by}
use Rattle.terminal_steps.specs.ProfileView.{kept_modes}
use Rattle.terminal_steps.proofs.LineLemmas.{shown_whole}
use Rattle.terminal_steps.proofs.NumberLemmas.{resized_had, resized_over, resized_past}
use Rattle.terminal_steps.proofs.state.TerminalState.resize.Goals as goal

pub returns-in-Ok-clause-done : goal.returns-in-Ok-clause-done
returns-in-Ok-clause-done g c = λ ready events.
    let had = c.in_ok-settle.ensures.done ready (tt, tt) in
    let now = c.settle.new.self in
    resized_had (λ w. g.W.Widths.width_of w) c.args.self.now now c.resize.new.self _ c.args.width c.args.height c.requires.size.columns.0 c.requires.size.rows.0
    refl refl refl refl (c.in-Ok.ensures (shown_whole (g.W.Widths.width_of now.surface.grid.widths) (shown_by now.surface).screen (kept_modes now.modes) had.ready.lawful.other)) had c.in_ok-resize.ensures.resized
    (λ p. let clash = c.in_ok-resize.ensures.numbers.1 p in cc)

pub returns-in_err-settle-clause-numbers : goal.returns-in_err-settle-clause-numbers
returns-in_err-settle-clause-numbers g c = λ e ready events.
    let p = err_from_is_err_and c.from_residual.result c.from_residual.ensures.1 in
    let result : c.from_residual.result ≡ Err c.in_err-settle.field-0.0 = p.1 ∙ ap Err p.2 in
    resized_past (λ w. g.W.Widths.width_of w) c.args.self.now c.args.width c.args.height (c.in_err-settle.ensures.numbers (sym result ∙ e)) ready

pub returns-in_err-resize-clause-numbers : goal.returns-in_err-resize-clause-numbers
returns-in_err-resize-clause-numbers g c = λ e ready events.
    let p = err_from_is_err_and c.from_residual-in_err-resize.result c.from_residual-in_err-resize.ensures.1 in
    let result : c.from_residual-in_err-resize.result ≡ Err c.in_err-resize.field-0.0 = p.1 ∙ ap Err p.2 in
    let over = c.in_err-resize.ensures.numbers.0 (sym result ∙ e) in
    resized_over (λ w. g.W.Widths.width_of w) c.args.self.now c.settle.new.self c.args.width c.args.height (c.in_ok-settle.ensures.done ready (tt, tt)) over.1 over.2
