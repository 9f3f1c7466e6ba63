use Rattle.std.proofs.Common.{◌≡◌, replicate}
use Rattle.cell_surface.specs.Surface.{shown_by}
use Rattle.screen_difference.specs.FreshCells.{rows_of}
use Rattle.terminal_steps.proofs.screens.blank_lines.Given as goal
use Rattle.xterm_table.specs.RowEdits.{blanks}

-- so many lines are added
abbrev pub invariant-loop : goal.invariant-loop
invariant-loop g l = rows_of l.lines.items ≡ replicate l.counter (blanks (shown_by l.surface).screen.width (shown_by l.surface).screen)
