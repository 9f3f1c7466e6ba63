use Rattle.std.proofs.Common.{◌≡◌, refl, sym, ap, ◌∙◌}
use Rattle.std.specs.Prelude.{Err}
use Rattle.std.proofs.lemmas.Result.{err_from_is_err_and}
use Rattle.escape_stream.specs.StreamActionView.{value_of}
use Rattle.terminal_steps.proofs.NumberLemmas.{acted_memory}
use Rattle.terminal_steps.proofs.StateLemmas.{act_had}
use Rattle.terminal_steps.proofs.state.TerminalState.apply.Goals as goal

pub returns-clause-done : goal.returns-clause-done
returns-clause-done g c = λ ready events.
    let had = c.in_ok-settle.ensures.done ready (tt, tt) in
    let carried = c.in_ok-apply.ensures.done had.ready.stays had.ready.lawful.other had.ready.lawful.last in
    act_had (λ w. g.W.Widths.width_of w) c.args.self.now c.settle.new.self c.apply.new.surface (value_of c.args.action) _ c.requires refl refl had carried.added carried.saved carried.replies carried.modes (carried.fits had.ready.fits)

pub returns-in_err-apply-clause-memory : goal.returns-in_err-apply-clause-memory
returns-in_err-apply-clause-memory g c = λ e ready.
    let p = err_from_is_err_and c.from_residual-in_err-apply.result c.from_residual-in_err-apply.ensures.1 in
    let result : c.from_residual-in_err-apply.result ≡ Err c.in_err-apply.field-0.0 = p.1 ∙ ap Err p.2 in
    acted_memory (λ w. g.W.Widths.width_of w) c.args.self.now c.settle.new.self (value_of c.args.action) c.apply.new.surface.is_failed c.in_ok-settle.ensures.done
    (λ there. (c.in_err-apply.ensures.done there.stays there.lawful.other there.lawful.last).memory (sym result ∙ e) there.fits) ready c.requires
