use Rattle.terminal_table.proofs.EventLemmas.{event_is, after_is}
use Rattle.terminal_table.proofs.laws.views_stay_lawful.Goals as goal

pub returns-clause-event : goal.returns-clause-event
returns-clause-event c = event_is

pub returns-clause-history : goal.returns-clause-history
returns-clause-history c = after_is c.one_cut.ensures.cut
