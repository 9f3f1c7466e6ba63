use Rattle.std.proofs.Common.{◌≡◌, take}
use Rattle.screen_grid.proofs.rows.copy.Given as goal

-- copies of the lines so far
abbrev pub invariant-loop-line : goal.invariant-loop-line
invariant-loop-line l = l.lines.items ≡ take l.line-index l.rows
