use Rattle.terminal_render.proofs.LogLemmas.{all_some}
use Rattle.terminal_render.proofs.encoding_laws.spelled_changes_are_rendered.Goals as goal

pub returns : goal.returns
returns c = all_some
