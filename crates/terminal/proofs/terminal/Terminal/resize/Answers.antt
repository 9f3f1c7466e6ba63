use Rattle.std.proofs.Common.{subst}
use Rattle.terminal.specs.Terminal.{IsSpelled}
use Rattle.terminal.proofs.GoLemmas.{with_parts}
use Rattle.terminal.proofs.SpellLemmas.{resized_spelled}
use Rattle.terminal.proofs.terminal.Terminal.resize.Goals as goal

pub invariant_of-self-2 : goal.invariant_of-self-2
invariant_of-self-2 g c =
    let can = c.self.invariant c.if-self.false in
    let had = c.in_ok-resize.ensures.done can.ready ((c.requires.size.columns.0, c.requires.size.rows.0), tt) in
    λ e. record {
      ready = had.ready;
      parser = can.parser;
      reached = can.reached;
      spelled = resized_spelled (λ w. g.W.Widths.width_of w) c.self.inside.state c.resize.new.self c.self.inside.parser.held c.args.width c.args.height c.requires.size.columns c.requires.size.rows can.reached can.ready (subst IsSpelled (λ i. record (with_parts c.self.inside.state c.self.inside.parser.held) { is_failed = c.if-self.false i }) can.spelled) had;
    }
