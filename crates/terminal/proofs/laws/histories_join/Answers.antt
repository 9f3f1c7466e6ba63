use Rattle.terminal.proofs.GoLemmas.{in_turn}
use Rattle.terminal.proofs.LawLemmas.{pieces_in_turn}
use Rattle.terminal.proofs.laws.histories_join.Goals as goal

pub returns-clause-in_turn : goal.returns-clause-in_turn
returns-clause-in_turn g c = in_turn (λ w. g.W.Widths.width_of w)

pub returns-clause-pieces : goal.returns-clause-pieces
returns-clause-pieces g c = pieces_in_turn (λ w. g.W.Widths.width_of w)
