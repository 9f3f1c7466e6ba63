use Rattle.terminal_render.proofs.WholeLemmas.{have_the_effect}
use Rattle.terminal_render.proofs.laws.renderings_have_the_effect.Goals as goal

pub returns : goal.returns
returns c = have_the_effect
