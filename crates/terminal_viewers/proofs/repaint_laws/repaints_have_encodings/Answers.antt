use Rattle.terminal_viewers.proofs.RepaintLemmas.{repaint_rest, repaint_encoded}
use Rattle.terminal_viewers.proofs.repaint_laws.repaints_have_encodings.Goals as goal

pub returns-clause-remaining : goal.returns-clause-remaining
returns-clause-remaining c = repaint_rest

pub returns-clause-all : goal.returns-clause-all
returns-clause-all c = repaint_encoded
