use Rattle.terminal.proofs.LawLemmas.{look_again}
use Rattle.terminal.proofs.laws.settled_terminals_stay.Goals as goal

pub returns : goal.returns
returns g c = look_again (λ w. g.W.Widths.width_of w)
