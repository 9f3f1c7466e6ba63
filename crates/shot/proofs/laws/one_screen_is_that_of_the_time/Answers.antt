use Rattle.shot.proofs.CutLemmas.{one_screen}
use Rattle.shot.proofs.laws.one_screen_is_that_of_the_time.Goals as goal

pub returns : goal.returns
returns c = one_screen
