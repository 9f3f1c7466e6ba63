use Rattle.std.proofs.Common.{ap, []}
use Rattle.terminal_steps.specs.ProfileView.{modes_of}
use Rattle.terminal_steps.proofs.ProfileLemmas.{profile_is_new}
use Rattle.terminal.proofs.GoLemmas.{with_parts}
use Rattle.terminal.proofs.SpellLemmas.{spelled_first}
use Rattle.terminal.proofs.terminal.Terminal.with_profile.Goals as goal

pub invariant_of-result : goal.invariant_of-result
invariant_of-result g c = λ e.
    let view = c.in_ok-state.ensures.view in
    record {
      ready = c.in_ok-state.ensures.ready;
      parser = c.new.ensures.failed;
      reached = ([], c.new.ensures.held);
      spelled = spelled_first (λ w. g.W.Widths.width_of w) (with_parts c.in_ok-state.state c.new.result.held) (modes_of c.args.profile) c.args.width c.args.height (profile_is_new c.args.profile) c.requires.size.columns.1 c.requires.size.rows.1
          (record { state = ap (λ v. v.state) view; run = ap (λ v. v.held) view; unfinished = c.new.ensures.held })
          (ap (λ l. l.entries) c.in_ok-state.ensures.log) c.in_ok-state.ensures.shape c.in_ok-state.ensures.ready.stays;
    }
