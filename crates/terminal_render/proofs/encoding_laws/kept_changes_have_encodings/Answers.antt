use Rattle.terminal_render.proofs.LogLemmas.{due_has, event_keeps, history_keeps}
use Rattle.terminal_render.proofs.encoding_laws.kept_changes_have_encodings.Goals as goal

pub returns-clause-event : goal.returns-clause-event
returns-clause-event c = event_keeps

pub returns-clause-history : goal.returns-clause-history
returns-clause-history c = history_keeps c.one_cut.ensures.cut

pub returns-clause-due : goal.returns-clause-due
returns-clause-due c = due_has
