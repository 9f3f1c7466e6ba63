use Rattle.terminal_viewers.proofs.ReplyLemmas.{session_with}
use Rattle.terminal_viewers.proofs.SessionLemmas.{terminals_go, viewers_stay}
use Rattle.terminal_viewers.proofs.session_laws.sessions_go_on.Goals as goal

pub returns-clause-terminal : goal.returns-clause-terminal
returns-clause-terminal c = terminals_go

pub returns-clause-viewers : goal.returns-clause-viewers
returns-clause-viewers c = viewers_stay

pub returns-clause-replies : goal.returns-clause-replies
returns-clause-replies c = session_with
