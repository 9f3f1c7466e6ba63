use Rattle.terminal_render.proofs.EncodedSizeLemmas.{lists_short}
use Rattle.terminal_render.proofs.sizes.encoded_lists_are_short.Goals as goal

pub returns : goal.returns
returns c = lists_short c.renderings_are_short.ensures.remaining c.renderings_are_short.ensures.texts c.renderings_are_short.ensures.runs
