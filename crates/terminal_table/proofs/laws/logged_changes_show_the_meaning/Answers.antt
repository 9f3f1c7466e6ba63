use Rattle.terminal_table.proofs.EventLemmas.{event_turns, history_turns}
use Rattle.terminal_table.proofs.laws.logged_changes_show_the_meaning.Goals as goal

pub returns-clause-event : goal.returns-clause-event
returns-clause-event c = event_turns

pub returns-clause-history : goal.returns-clause-history
returns-clause-history c = history_turns c.one_cut.ensures.cut
