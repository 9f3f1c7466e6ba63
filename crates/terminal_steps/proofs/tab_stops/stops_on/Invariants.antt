use Rattle.std.proofs.Common.{◌≡◌, ◌-◌, ◌<◌}
use Rattle.terminal_table.specs.TabStops.{stops_on}
use Rattle.terminal_steps.proofs.tab_stops.stops_on.Given as goal

-- so many stops are left
abbrev pub invariant-loop : goal.invariant-loop
invariant-loop l = (stops_on l.stops l.width l.at (l.count - l.counter) ≡ stops_on l.stops l.width l.column l.count) × (l.at < l.width)
