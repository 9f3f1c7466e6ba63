use Rattle.std.proofs.Common.{◌≡◌, ◌+◌, ◌-◌, ◌≤◌}
use Rattle.terminal_table.specs.TabStops.{first_stop}
use Rattle.terminal_steps.proofs.tab_stops.next_stop.Given as goal

-- the first stop from here on is the first one past the column
abbrev pub invariant-loop-next : goal.invariant-loop-next
invariant-loop-next l = first_stop l.stops l.next (l.last - l.next) ≡ first_stop l.stops (l.column + 1) (l.last - (l.column + 1))

abbrev pub decreases-loop-next : goal.decreases-loop-next
decreases-loop-next l = l.last - l.next
