use Rattle.std.proofs.Common.{subst, sym}
use Rattle.terminal.specs.Terminal.{IsSpelled}
use Rattle.terminal.proofs.GoLemmas.{with_parts}
use Rattle.terminal.proofs.SpellLemmas.{forgot_spelled}
use Rattle.terminal.proofs.terminal.Terminal.forget_before.Goals as goal

pub invariant_of-self : goal.invariant_of-self
invariant_of-self g c = λ e.
    let can = c.self.invariant e in
    let had = c.forget_before.ensures can.ready (tt, tt) in
    record {
      ready = had.ready;
      parser = can.parser;
      reached = can.reached;
      spelled = subst IsSpelled (λ i. record (with_parts c.forget_before.new.self c.self.inside.parser.held) { is_failed = sym e i })
          (forgot_spelled (λ w. g.W.Widths.width_of w) c.self.inside.state c.forget_before.new.self c.self.inside.parser.held c.args.number can.reached can.ready
          (subst IsSpelled (λ i. record (with_parts c.self.inside.state c.self.inside.parser.held) { is_failed = e i }) can.spelled) had);
    }
