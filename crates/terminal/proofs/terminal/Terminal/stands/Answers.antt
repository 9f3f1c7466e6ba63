use Rattle.std.proofs.Common.{sym, ap, subst, ◌∙◌}
use Rattle.terminal.specs.Terminal.{Terminal, IsSpelled}
use Rattle.terminal.proofs.GoLemmas.{stands_somewhere, with_parts}
use Rattle.terminal.proofs.terminal.Terminal.stands.Goals as goal

pub returns-clause-stands : goal.returns-clause-stands
returns-clause-stands g c = λ e.
    let whole = ap (λ (t : Terminal g.row.W.Denot). t.is_failed) c.self.view_is ∙ e in
    let can = c.self.invariant whole in
    stands_somewhere (λ w. g.W.Widths.width_of w) c.self.inside.state c.self.inside.parser.held c.args.self.now can.reached can.ready
    ((λ i. record (with_parts c.self.inside.state c.self.inside.parser.held) { is_failed = sym whole i }) ∙ c.self.view_is)

pub returns-clause-spelled : goal.returns-clause-spelled
returns-clause-spelled g c = λ e.
    let whole = ap (λ (t : Terminal g.row.W.Denot). t.is_failed) c.self.view_is ∙ e in
    subst IsSpelled c.self.view_is (c.self.invariant whole).spelled
