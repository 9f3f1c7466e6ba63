use Rattle.terminal_render.proofs.ViewLemmas.{event_spelled, new_spelled, new_spelled_with}
use Rattle.terminal_render.proofs.encoding_laws.views_stay_spelled.Goals as goal

pub returns-clause-new : goal.returns-clause-new
returns-clause-new c = new_spelled

pub returns-clause-modes : goal.returns-clause-modes
returns-clause-modes c = new_spelled_with

pub returns-clause-event : goal.returns-clause-event
returns-clause-event c = event_spelled
