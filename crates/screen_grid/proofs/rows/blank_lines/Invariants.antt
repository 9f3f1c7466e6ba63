use Rattle.std.proofs.Common.{◌≡◌, replicate}
use Rattle.cell_base.specs.Row.{plain_row}
use Rattle.cell_line.specs.LineContent.{clustered_line_of}
use Rattle.screen_grid.proofs.rows.blank_lines.Given as goal

-- the rows so far are plain
abbrev pub invariant-loop : goal.invariant-loop
invariant-loop l = l.lines.items ≡ replicate l.counter (clustered_line_of 0 (plain_row l.width))
