use Rattle.std.proofs.Common.{◌≡◌, ◌++◌, map, take}
use Rattle.xterm_steps.proofs.row_moves.push_lines.Given as goal

-- the lines so far are appended
abbrev pub invariant-loop-line : goal.invariant-loop-line
invariant-loop-line l = map (λ line. line.now) l.news.items ≡ map (λ line. line.now) l.initial.news.items ++ take l.line-index l.lines
