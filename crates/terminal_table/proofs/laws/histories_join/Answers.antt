use Rattle.terminal_table.proofs.JoinLemmas.{after_joins, logged_joins, cut_after, cut_logged}
use Rattle.terminal_table.proofs.laws.histories_join.Goals as goal

pub returns-clause-after : goal.returns-clause-after
returns-clause-after c = after_joins

pub returns-clause-logged : goal.returns-clause-logged
returns-clause-logged c = logged_joins

pub returns-clause-cut : goal.returns-clause-cut
returns-clause-cut c = cut_after c.actions_of_chunks_join.ensures

pub returns-clause-cut_logged : goal.returns-clause-cut_logged
returns-clause-cut_logged c = cut_logged c.actions_of_chunks_join.ensures
