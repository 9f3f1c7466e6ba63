use Rattle.std.proofs.Common.{◌≡◌, ◌++◌, ◌-◌, length, replicate}
use Rattle.cell_base.specs.Row.{plain_row}
use Rattle.cell_line.specs.LineContent.{clustered_line_of}
use Rattle.screen_grid.proofs.rows.add_rows.Given as goal

-- the rows so far
abbrev pub invariant-loop : goal.invariant-loop
invariant-loop l = l.rows ≡ l.initial.rows ++ replicate (l.counter - length l.initial.rows) (clustered_line_of 0 (plain_row l.width))
