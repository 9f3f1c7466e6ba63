use Rattle.screen_effects.proofs.WrittenLemmas.{written_are_shown}
use Rattle.screen_effects.proofs.replay_laws.written_cells_are_shown.Goals as goal

pub returns : goal.returns
returns c = written_are_shown
