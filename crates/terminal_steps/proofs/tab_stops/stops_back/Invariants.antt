use Rattle.std.proofs.Common.{◌≡◌, ◌-◌, ◌≤◌}
use Rattle.terminal_table.specs.TabStops.{stops_back}
use Rattle.terminal_steps.proofs.tab_stops.stops_back.Given as goal

-- so many stops are left
abbrev pub invariant-loop : goal.invariant-loop
invariant-loop l = (stops_back l.stops l.at (l.count - l.counter) ≡ stops_back l.stops l.column l.count) × (l.at ≤ l.column)
