use Rattle.std.specs.Prelude.{None}
use Rattle.terminal_table.proofs.StateLemmas.{new_is, step_is, size_is}
use Rattle.terminal_table.proofs.RunningLemmas.{run_is}
use Rattle.terminal_table.proofs.laws.states_stay_lawful.Goals as goal

pub returns-clause-new : goal.returns-clause-new
returns-clause-new c = λ width_of width height. new_is width_of None width height tt

pub returns-clause-modes : goal.returns-clause-modes
returns-clause-modes c = new_is

pub returns-clause-steps : goal.returns-clause-steps
returns-clause-steps c = step_is

pub returns-clause-runs : goal.returns-clause-runs
returns-clause-runs c = run_is

pub returns-clause-sizes : goal.returns-clause-sizes
returns-clause-sizes c = size_is
