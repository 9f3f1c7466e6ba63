use Rattle.terminal.proofs.WorkedLemmas.{middle_bytes, pending_bytes}
use Rattle.terminal.proofs.worked.encoded_patches.Goals as goal

pub returns-clause-middle : goal.returns-clause-middle
returns-clause-middle c = middle_bytes

pub returns-clause-pending : goal.returns-clause-pending
returns-clause-pending c = pending_bytes
