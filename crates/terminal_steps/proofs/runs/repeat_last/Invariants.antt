use Rattle.std.proofs.Common.{◌-◌}
use Rattle.std.specs.Prelude.{Some}
use Rattle.terminal_table.specs.State.{HasLast}
use Rattle.terminal_steps.specs.ProfileView.{modes_in}
use Rattle.terminal_steps.proofs.RepeatLemmas.{IsAgain}
use Rattle.terminal_steps.proofs.runs.repeat_last.Given as goal

-- so many clusters are left
abbrev pub invariant-loop : goal.invariant-loop
invariant-loop g l = HasLast (Some (modes_in l.modes)) → IsAgain (λ w. g.W.Widths.width_of w) (modes_in l.modes) l.fn.surface l.surface l.count (l.count - l.counter)
