use Rattle.terminal_viewers.proofs.PaintLemmas.{painted_is_shown}
use Rattle.terminal_viewers.proofs.update_laws.updates_paint_the_screen.Goals as goal

pub returns : goal.returns
returns c = painted_is_shown
