use Rattle.terminal.proofs.LawLemmas.{alike}
use Rattle.terminal.proofs.laws.histories_decide.Goals as goal

pub returns : goal.returns
returns g c = alike (λ w. g.W.Widths.width_of w)
