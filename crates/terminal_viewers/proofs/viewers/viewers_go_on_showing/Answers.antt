use Rattle.terminal_viewers.proofs.ShowLemmas.{history_shows, shows_itself}
use Rattle.terminal_viewers.proofs.viewers.viewers_go_on_showing.Goals as goal

pub returns-clause-history : goal.returns-clause-history
returns-clause-history c = λ width_of shown number view log history. history_shows width_of c.one_cut.ensures.cut shown number view log history

pub returns-clause-seen : goal.returns-clause-seen
returns-clause-seen c = shows_itself
