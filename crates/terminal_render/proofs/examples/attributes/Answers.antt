-- each computes
use Rattle.std.proofs.Common.{refl}
use Rattle.terminal_render.proofs.Computing.{sending}
use Rattle.terminal_render.proofs.examples.attributes.Goals as goal

pub returns-clause-plain : goal.returns-clause-plain
unfolding sending
returns-clause-plain c = refl

pub returns-clause-bold : goal.returns-clause-bold
unfolding sending
returns-clause-bold c = refl

pub returns-clause-link : goal.returns-clause-link
unfolding sending
returns-clause-link c = refl

pub returns-clause-colour : goal.returns-clause-colour
unfolding sending
returns-clause-colour c = refl

pub returns-clause-many : goal.returns-clause-many
unfolding sending
returns-clause-many c = refl

pub returns-clause-wrapped : goal.returns-clause-wrapped
unfolding sending
returns-clause-wrapped c = refl

pub returns-clause-prompt : goal.returns-clause-prompt
unfolding sending
returns-clause-prompt c = refl

pub returns-clause-implicit : goal.returns-clause-implicit
unfolding sending
returns-clause-implicit c = refl

pub returns-clause-empty_link : goal.returns-clause-empty_link
unfolding sending
returns-clause-empty_link c = refl

pub returns-clause-colon : goal.returns-clause-colon
unfolding sending
returns-clause-colon c = refl

pub returns-clause-bell : goal.returns-clause-bell
unfolding sending
returns-clause-bell c = refl

pub returns-clause-link_ends : goal.returns-clause-link_ends
unfolding sending
returns-clause-link_ends c = refl

pub returns-clause-hidden : goal.returns-clause-hidden
unfolding sending
returns-clause-hidden c = refl

pub returns-clause-visible : goal.returns-clause-visible
unfolding sending
returns-clause-visible c = refl

pub returns-clause-cursor_colour : goal.returns-clause-cursor_colour
unfolding sending
returns-clause-cursor_colour c = refl

pub returns-clause-cursor_shape : goal.returns-clause-cursor_shape
unfolding sending
returns-clause-cursor_shape c = refl

pub returns-clause-line_size : goal.returns-clause-line_size
unfolding sending
returns-clause-line_size c = refl
