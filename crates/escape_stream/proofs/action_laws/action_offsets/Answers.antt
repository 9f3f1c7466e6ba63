use Rattle.escape_stream.proofs.ActionOffsets.{each_placed, each_collected, of_piece}
use Rattle.escape_stream.proofs.action_laws.action_offsets.Goals as goal

pub returns-clause-placed : goal.returns-clause-placed
returns-clause-placed c = each_placed

pub returns-clause-all : goal.returns-clause-all
returns-clause-all c = each_collected

pub returns-clause-in_chunks : goal.returns-clause-in_chunks
returns-clause-in_chunks c = of_piece
