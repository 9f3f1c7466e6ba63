use Rattle.escape_stream.proofs.ActionOffsets.{undecided_action}
use Rattle.escape_stream.proofs.action_laws.actions_as_soon_as_decided.Goals as goal

pub returns : goal.returns
returns c = undecided_action
