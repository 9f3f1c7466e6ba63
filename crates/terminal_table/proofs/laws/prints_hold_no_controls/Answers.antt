use Rattle.terminal_table.proofs.PrintLemmas.{events_are}
use Rattle.terminal_table.proofs.laws.prints_hold_no_controls.Goals as goal

pub returns : goal.returns
returns c = events_are c.one_cut.ensures.cut
