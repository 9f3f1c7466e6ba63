use Rattle.std.proofs.Common.{ap}
use Rattle.terminal_table.specs.Steps.{step_of}
use Rattle.terminal_table.specs.Changes.{changes_of}
use Rattle.terminal_table.proofs.OtherLemmas.{other_view, other_logged}
use Rattle.terminal_table.proofs.laws.other_actions_end_runs.Goals as goal

pub returns-clause-state : goal.returns-clause-state
returns-clause-state c = λ action state e. ap (λ f. step_of f state) e

pub returns-clause-changes : goal.returns-clause-changes
returns-clause-changes c = λ action state e. ap (λ f. changes_of f state) e

pub returns-clause-view : goal.returns-clause-view
returns-clause-view c = other_view

pub returns-clause-logged : goal.returns-clause-logged
returns-clause-logged c = other_logged
