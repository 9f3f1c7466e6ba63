use Rattle.std.proofs.Common.{◌≡◌, ◌<◌, ◌^◌, ◌∙◌, Err, ap, false, length, refl, subst, sym, true}
use Rattle.std.proofs.lemmas.Result.{err_from_is_err_and}
use Rattle.cell_surface.specs.declared.error.SurfaceError.{SurfaceError}
use Rattle.cell_surface.specs.declared.error.SurfaceError.TheVariants as refusal
use Rattle.screen_log.specs.LogSteps.{Sized}
use Rattle.terminal_steps.specs.Refusals.{of_surface}
use Rattle.terminal.specs.Refusals.{HasNumbersToLook}
use Rattle.terminal.specs.Terminal.{IsSpelled, Terminal}
use Rattle.terminal.proofs.GoLemmas.{look_has, look_takes, with_parts}
use Rattle.terminal.proofs.SpellLemmas.{looked_spelled}
use Rattle.terminal.proofs.ViewLemmas.{settle_keeps_size}
use Rattle.terminal.proofs.terminal.Terminal.settle.Goals as goal

by_refusal : {P : Type 0} (r : SurfaceError) → (r ≡ refusal.Failed → ⊥) → (r ≡ refusal.Number → ⊥) → (r ≡ refusal.Memory → P) → P
by_refusal refusal.Failed failed number memory = absurd (failed refl)
by_refusal refusal.Number failed number memory = absurd (number refl)
by_refusal refusal.Memory failed number memory = memory refl

pub returns-in_err-settle-clause-numbered : goal.returns-in_err-settle-clause-numbered
returns-in_err-settle-clause-numbered g c =
    let p = err_from_is_err_and c.from_residual.result c.from_residual.ensures.1 in
    let can = c.self.invariant c.if-self.false in
    rw (p.1, p.2) (λ other whole. by_refusal {P = HasNumbersToLook (λ w. g.W.Widths.width_of w) c.args.self.now true} c.in_err-settle.field-0.0
    (λ is. c.in_err-settle.ensures.failed (ap Err is) can.ready)
    (λ is. other (ap (λ r. Err (of_surface r)) is))
    (λ is. look_takes (λ w. g.W.Widths.width_of w) c.self.inside.state c.self.inside.parser.held c.args.self.now c.settle.new.self.surface.is_failed
    ((λ i. record (with_parts c.self.inside.state c.self.inside.parser.held) { is_failed = sym c.if-self.false i }) ∙ c.self.view_is)
    (c.in_err-settle.ensures.refused (ap Err is) can.ready)))

pub returns-clause-numbered : goal.returns-clause-numbered
returns-clause-numbered g c = λ other whole.
    let can = c.self.invariant c.if-self.false in
    let had = c.in_ok-settle.ensures.done can.ready (tt, tt) in
    look_has (λ w. g.W.Widths.width_of w) c.self.inside.state c.self.inside.parser.held c.args.self.now false
    ((λ i. record (with_parts c.self.inside.state c.self.inside.parser.held) { is_failed = sym c.if-self.false i }) ∙ c.self.view_is)
    (subst (λ (l : Sized). l.log.number < 2 ^ 64) had.log had.ready.fits)

pub invariant_of-self-2 : goal.invariant_of-self-2
invariant_of-self-2 g c =
    let can = c.self.invariant c.if-self.false in
    let had = c.in_ok-settle.ensures.done can.ready (tt, tt) in
    λ e. record {
      ready = had.ready;
      parser = can.parser;
      reached = can.reached;
      spelled = looked_spelled (λ w. g.W.Widths.width_of w) c.self.inside.state c.settle.new.self c.self.inside.parser.held can.reached can.ready (subst IsSpelled (λ i. record (with_parts c.self.inside.state c.self.inside.parser.held) { is_failed = c.if-self.false i }) can.spelled) had;
    }

pub returns-clause-width : goal.returns-clause-width
returns-clause-width g c =
    let can = c.self.invariant c.if-self.false in
    let size = settle_keeps_size (λ w. g.W.Widths.width_of w) c.self.inside.state c.settle.new.self c.self.inside.parser.held can.reached can.ready (c.in_ok-settle.ensures.done can.ready (tt, tt)) in
    sym size.wide ∙ ap (λ (t : Terminal g.row.W.Denot). t.surface.grid.width) c.self.view_is

pub returns-clause-height : goal.returns-clause-height
returns-clause-height g c =
    let can = c.self.invariant c.if-self.false in
    let size = settle_keeps_size (λ w. g.W.Widths.width_of w) c.self.inside.state c.settle.new.self c.self.inside.parser.held can.reached can.ready (c.in_ok-settle.ensures.done can.ready (tt, tt)) in
    sym size.tall ∙ ap (λ (t : Terminal g.row.W.Denot). length t.surface.grid.lines) c.self.view_is
