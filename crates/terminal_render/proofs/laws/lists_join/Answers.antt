use Rattle.terminal_render.proofs.ListLemmas.{renderings_join, writable_lists_join}
use Rattle.terminal_render.proofs.laws.lists_join.Goals as goal

pub returns-clause-renderings : goal.returns-clause-renderings
returns-clause-renderings c = renderings_join

pub returns-clause-writable : goal.returns-clause-writable
returns-clause-writable c = writable_lists_join
