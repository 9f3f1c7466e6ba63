use Rattle.terminal_render.proofs.ViewLemmas.{event_has}
use Rattle.terminal_render.proofs.encoding_laws.logged_changes_have_encodings.Goals as goal

pub returns : goal.returns
returns c = event_has
