use Rattle.std.proofs.Common.{◌≡◌, take}
use Rattle.terminal_steps.proofs.screens.copy_lines.Given as goal

-- so many lines are copied
abbrev pub invariant-loop-line : goal.invariant-loop-line
invariant-loop-line l = l.copies.items ≡ take l.line-index l.lines
