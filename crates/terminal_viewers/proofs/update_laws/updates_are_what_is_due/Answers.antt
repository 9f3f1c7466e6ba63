use Rattle.std.proofs.Common.{ap}
use Rattle.cell_base.specs.Screen.{height}
use Rattle.terminal_render.specs.Lists.{all_rendered}
use Rattle.terminal_viewers.specs.Update.{bytes_of, due_or, painted_anew}
use Rattle.terminal_viewers.proofs.update_laws.updates_are_what_is_due.Goals as goal

pub returns-clause-due : goal.returns-clause-due
returns-clause-due c = λ screen log number changes e. ap (due_or (painted_anew screen)) e

pub returns-clause-painted : goal.returns-clause-painted
returns-clause-painted c = λ screen log number e. ap (due_or (painted_anew screen)) e

pub returns-clause-nothing : goal.returns-clause-nothing
returns-clause-nothing c = λ screen log number e. ap (λ d. bytes_of (all_rendered (due_or (painted_anew screen) d) screen.width (height screen))) e
