use Rattle.std.proofs.Common.{◌≡◌, false, replicate}
use Rattle.terminal_steps.proofs.tab_stops.clear_stops.Given as goal

-- so many columns are no stops
abbrev pub invariant-loop : goal.invariant-loop
invariant-loop l = l.stops.items ≡ replicate l.counter false
