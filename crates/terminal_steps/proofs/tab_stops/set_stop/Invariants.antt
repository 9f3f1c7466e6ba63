use Rattle.std.proofs.Common.{◌≡◌, ◌+◌, ◌-◌, length}
use Rattle.terminal_table.specs.TabStops.{extended}
use Rattle.terminal_steps.proofs.tab_stops.set_stop.Given as goal

-- what comes is that of the first stops
abbrev pub invariant-loop-stops : goal.invariant-loop-stops
invariant-loop-stops l = extended l.stops.items (l.column + 1 - length l.stops.items) ≡ extended l.initial.stops.items (l.column + 1 - length l.initial.stops.items)

abbrev pub decreases-loop-stops : goal.decreases-loop-stops
decreases-loop-stops l = l.column + 1 - length l.stops.items
