use Rattle.escape_osc.proofs.WritableBack.{writable_back}
use Rattle.escape_osc.proofs.laws.writable_command_reads_back.Goals as goal

pub returns : goal.returns
returns c = writable_back
