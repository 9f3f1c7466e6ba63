use Rattle.terminal_render.proofs.SpelledWritableLemmas.{spelled_writable}
use Rattle.terminal_render.proofs.encoding_laws.spelled_changes_are_writable.Goals as goal

pub returns : goal.returns
returns c = spelled_writable c.renderings_are_writable.ensures c.lists_join.ensures.writable
