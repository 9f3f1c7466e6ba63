use Rattle.terminal.proofs.LawLemmas.{asks_nothing}
use Rattle.terminal.proofs.laws.bytes_that_ask_for_nothing.Goals as goal

pub returns : goal.returns
returns g c = asks_nothing (λ w. g.W.Widths.width_of w)
