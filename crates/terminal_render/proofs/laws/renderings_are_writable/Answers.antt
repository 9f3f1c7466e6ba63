use Rattle.terminal_render.proofs.WritableLemmas.{are_writable}
use Rattle.terminal_render.proofs.laws.renderings_are_writable.Goals as goal

pub returns : goal.returns
returns c = are_writable c.writable_actions_read_back.ensures.action c.writable_actions_read_back.ensures.text
