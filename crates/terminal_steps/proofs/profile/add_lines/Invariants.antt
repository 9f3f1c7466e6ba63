use Rattle.std.proofs.Common.{◌≡◌, ◌++◌, ◌-◌, length, replicate}
use Rattle.cell_base.specs.Row.{plain_row}
use Rattle.screen_difference.specs.FreshCells.{rows_of}
use Rattle.terminal_steps.proofs.profile.add_lines.Given as goal

-- the lines so far
abbrev pub invariant-loop : goal.invariant-loop
invariant-loop l = rows_of l.lines.items ≡ rows_of l.initial.lines.items ++ replicate (l.counter - length l.initial.lines.items) (plain_row l.width)
