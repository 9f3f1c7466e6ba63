use Rattle.std.proofs.Common.{◌≡◌}
use Rattle.screen_grid.proofs.rows.add_room.Given as goal

-- the rows stay
abbrev pub invariant-loop : goal.invariant-loop
invariant-loop l = l.rows ≡ l.initial.rows
