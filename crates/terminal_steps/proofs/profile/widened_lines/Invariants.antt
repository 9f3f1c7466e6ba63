use Rattle.std.proofs.Common.{◌≡◌, map, take}
use Rattle.cell_line.specs.LineCalls.{resize}
use Rattle.terminal_steps.proofs.profile.widened_lines.Given as goal

-- so many lines are copied
abbrev pub invariant-loop-line : goal.invariant-loop-line
invariant-loop-line l = l.copies.items ≡ map (λ line. resize line l.width 0) (take l.line-index l.lines)
