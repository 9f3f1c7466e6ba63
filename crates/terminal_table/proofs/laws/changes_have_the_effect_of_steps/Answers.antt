use Rattle.terminal_table.specs.Functions.{function_of}
use Rattle.terminal_table.proofs.RunningLemmas.{run_step_turns}
use Rattle.terminal_table.proofs.TurnLemmas.{step_turns, action_turns}
use Rattle.terminal_table.proofs.laws.changes_have_the_effect_of_steps.Goals as goal

pub returns-clause-functions : goal.returns-clause-functions
returns-clause-functions c = step_turns

pub returns-clause-actions : goal.returns-clause-actions
returns-clause-actions c = λ width_of action state display. action_turns width_of (function_of action) state display

pub returns-clause-runs : goal.returns-clause-runs
returns-clause-runs c = run_step_turns
