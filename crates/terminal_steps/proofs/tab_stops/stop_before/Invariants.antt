use Rattle.std.proofs.Common.{◌≡◌, ◌≤◌}
use Rattle.terminal_table.specs.TabStops.{stop_before}
use Rattle.terminal_steps.proofs.tab_stops.stop_before.Given as goal

-- the last stop before here is the one before the column
abbrev pub invariant-loop-before : goal.invariant-loop-before
invariant-loop-before l = (stop_before l.stops l.before ≡ stop_before l.stops l.column) × (l.before ≤ l.column)

abbrev pub decreases-loop-before : goal.decreases-loop-before
decreases-loop-before l = l.before
