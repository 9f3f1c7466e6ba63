use Rattle.std.proofs.Common.{◌-◌, ◌≤◌, length}
use Rattle.std.specs.Option.{option_map}
use Rattle.screen_repaint.specs.PaintedRows.{IsTail, LeadsOn, rows_of, with_changes}
use Rattle.screen_repaint.specs.Repaint.{are_some, rows_painted}
use Rattle.screen_repaint.proofs.rows.paint_rows.Given as goal

-- painting the remaining lines after what was written is painting all of the lines
abbrev pub invariant-loop-line : goal.invariant-loop-line
invariant-loop-line l =
    LeadsOn (with_changes (rows_painted l.initial.writer.pen (rows_of l.lines)) l.initial.writer) (are_some (rows_painted l.initial.writer.pen (rows_of l.lines))) l.writer l.painted (l.at - length l.left) (rows_of l.left)
    × (length l.left ≤ l.at)
    × IsTail l.tail.0 (option_map (λ a. a.now) l.tail.1) (rows_of l.left)

abbrev pub decreases-loop-line : goal.decreases-loop-line
decreases-loop-line l = length l.left
