use Rattle.terminal.proofs.TakeLemmas.{taken_together}
use Rattle.terminal.proofs.laws.replies_are_separate.Goals as goal

pub returns : goal.returns
returns g c = taken_together (λ w. g.W.Widths.width_of w)
