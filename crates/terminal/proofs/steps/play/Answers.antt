use Rattle.std.proofs.Common.{Result, Err, ◌≡◌, ◌<◌, length, arith}
use Rattle.std.proofs.lemmas.Result.{err_from_is_err_and}
use Rattle.terminal_steps.specs.declared.error.TerminalError.{TerminalError}
use Rattle.terminal_steps.specs.declared.error.TerminalError.TheVariants.{Number}
use Rattle.terminal.specs.declared.steps.Step.TheVariants as code
use Rattle.terminal.proofs.PlayLemmas.{step_played, step_past, sizes_left}
use Rattle.terminal.proofs.steps.play.Goals as goal

pub returns-in_err-take_step-clause-number : goal.returns-in_err-take_step-clause-number
returns-in_err-take_step-clause-number g c =
    let p = err_from_is_err_and c.from_residual-in_err-take_step.result c.from_residual-in_err-take_step.ensures.1 in
    let within : c.loop-step.step-index < length c.args.steps.now = omega (arith, c.loop-step-test.true) in
    rw (p.1, p.2) (λ e.
    let refused : ◌≡◌ {A = Result (Unit {0}) TerminalError} (Err c.in_err-take_step.field-0.0) (Err Number) = cc in
    step_past (λ w. g.W.Widths.width_of w) c.args.widths c.args.width c.args.height c.args.steps.now c.loop-step.step-index _ c.loop-step.terminal within c.loop-step.invariant.played (c.in_err-take_step.ensures.number refused))

pub loop-step-preserved : goal.loop-step-preserved
loop-step-preserved g c =
    let within : c.loop-step.step-index < length c.args.steps.now = omega (arith, c.loop-step-test.true) in
    record {
      sizes = sizes_left c.args.steps.now c.loop-step.step-index (code.Settle) within c.loop-step.invariant.sizes;
      played = step_played (λ w. g.W.Widths.width_of w) c.args.widths c.args.width c.args.height c.args.steps.now c.loop-step.step-index _ c.loop-step.terminal c.take_step.new.terminal within c.loop-step.invariant.played c.in_ok-take_step.ensures.done;
    }
