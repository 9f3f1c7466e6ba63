use Rattle.std.proofs.Common.{◌≡◌, ◌-◌}
use Rattle.screen_difference.specs.ShownCells.{from_column, shown_left, Fits}
use Rattle.screen_difference.proofs.shown_cells.ShownCells.pass.Given as goal

-- those that are left from the column on
abbrev pub invariant-loop-self : goal.invariant-loop-self
invariant-loop-self l = record { fits : Fits l.self; left : from_column l.column (shown_left l.self) ≡ from_column l.column (shown_left l.initial.self) }

abbrev pub decreases-loop-self : goal.decreases-loop-self
decreases-loop-self l = l.column - l.self.column
