use Rattle.terminal.proofs.WorkedLemmas.{three_letters}
use Rattle.terminal.proofs.worked.written_updates.Goals as goal

pub returns : goal.returns
returns c = three_letters
