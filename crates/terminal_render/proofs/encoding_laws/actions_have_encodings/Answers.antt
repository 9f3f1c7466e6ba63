use Rattle.terminal_render.proofs.ActedLemmas.{actions_have_encodings}
use Rattle.terminal_render.proofs.encoding_laws.actions_have_encodings.Goals as goal

pub returns : goal.returns
returns c = actions_have_encodings
