use Rattle.terminal.proofs.LawLemmas.{alone_state, alone_log, alone_idle}
use Rattle.terminal.proofs.laws.single_actions.Goals as goal

pub returns-clause-state : goal.returns-clause-state
returns-clause-state g c = alone_state (λ w. g.W.Widths.width_of w) c.single_actions_are_their_rows.ensures.state

pub returns-clause-log : goal.returns-clause-log
returns-clause-log g c = alone_log (λ w. g.W.Widths.width_of w) c.single_actions_are_their_rows.ensures.logged

pub returns-clause-idle : goal.returns-clause-idle
returns-clause-idle g c = alone_idle (λ w. g.W.Widths.width_of w) c.single_actions_are_their_rows.ensures.idle
