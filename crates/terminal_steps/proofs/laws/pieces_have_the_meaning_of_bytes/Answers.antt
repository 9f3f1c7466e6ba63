use Rattle.terminal_steps.proofs.SpellLemmas.{call_state, call_held, call_logged, call_events}
use Rattle.terminal_steps.proofs.laws.pieces_have_the_meaning_of_bytes.Goals as goal

pub returns-clause-state : goal.returns-clause-state
returns-clause-state c = call_state c.chunks_join.ensures c.pieces_are_actions.ensures.placed

pub returns-clause-run : goal.returns-clause-run
returns-clause-run c = call_held c.chunks_join.ensures c.pieces_are_actions.ensures.placed

pub returns-clause-logged : goal.returns-clause-logged
returns-clause-logged c = call_logged c.chunks_join.ensures c.pieces_are_actions.ensures.placed

pub returns-clause-events : goal.returns-clause-events
returns-clause-events c = call_events c.one_cut.ensures.cut c.chunks_join.ensures c.pieces_are_actions.ensures.placed
