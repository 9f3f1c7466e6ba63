-- each computes
use Rattle.std.proofs.Common.{refl}
use Rattle.terminal_render.proofs.Computing.{sending}
use Rattle.terminal_render.proofs.examples.texts.Goals as goal

pub returns-clause-controls : goal.returns-clause-controls
unfolding sending
returns-clause-controls c = refl

pub returns-clause-empty : goal.returns-clause-empty
unfolding sending
returns-clause-empty c = refl

pub returns-clause-c1 : goal.returns-clause-c1
unfolding sending
returns-clause-c1 c = refl

pub returns-clause-no_break_space : goal.returns-clause-no_break_space
unfolding sending
returns-clause-no_break_space c = refl

pub returns-clause-title : goal.returns-clause-title
unfolding sending
returns-clause-title c = refl

pub returns-clause-empty_title : goal.returns-clause-empty_title
unfolding sending
returns-clause-empty_title c = refl

pub returns-clause-title_with_control : goal.returns-clause-title_with_control
unfolding sending
returns-clause-title_with_control c = refl

pub returns-clause-title_with_delete : goal.returns-clause-title_with_delete
unfolding sending
returns-clause-title_with_delete c = refl

pub returns-clause-title_with_c1 : goal.returns-clause-title_with_c1
unfolding sending
returns-clause-title_with_c1 c = refl
