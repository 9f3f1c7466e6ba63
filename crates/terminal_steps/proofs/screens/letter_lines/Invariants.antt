use Rattle.std.proofs.Common.{◌≡◌, replicate}
use Rattle.cell_surface.specs.Surface.{shown_by}
use Rattle.screen_difference.specs.FreshCells.{rows_of}
use Rattle.terminal_table.specs.Alignment.{alignment_row}
use Rattle.terminal_steps.proofs.screens.letter_lines.Given as goal

-- so many lines are added
abbrev pub invariant-loop : goal.invariant-loop
invariant-loop g l = rows_of l.lines.items ≡ replicate l.counter (alignment_row (g.W.Widths.width_of l.surface.grid.widths) (shown_by l.surface).screen.width)
