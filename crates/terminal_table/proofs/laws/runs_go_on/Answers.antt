use Rattle.terminal_table.proofs.ReplyLemmas.{forgets_separate, nothing_decided}
use Rattle.terminal_table.proofs.laws.runs_go_on.Goals as goal

pub returns-clause-forgets : goal.returns-clause-forgets
returns-clause-forgets c = forgets_separate

pub returns-clause-undecided : goal.returns-clause-undecided
returns-clause-undecided c = nothing_decided
