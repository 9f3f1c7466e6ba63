use Rattle.std.proofs.Common.{◌≡◌}
use Rattle.screen_repaint.specs.PaintedRows.{moves, with_changes}
use Rattle.screen_repaint.proofs.rows.write_moves.Given as goal

-- `counter` moves were written
abbrev pub invariant-loop : goal.invariant-loop
invariant-loop l = l.writer ≡ with_changes (moves l.counter) l.initial.writer
