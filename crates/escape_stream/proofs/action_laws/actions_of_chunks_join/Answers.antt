use Rattle.escape_stream.proofs.ActionOffsets.{actions_join}
use Rattle.escape_stream.proofs.action_laws.actions_of_chunks_join.Goals as goal

pub returns : goal.returns
returns c = actions_join
