use Rattle.screen_difference.proofs.JoinLemmas.{prints_after, still_after}
use Rattle.screen_difference.proofs.print_laws.prints_join.Goals as goal

pub returns-clause-prints : goal.returns-clause-prints
returns-clause-prints c = prints_after

pub returns-clause-still : goal.returns-clause-still
returns-clause-still c = still_after
