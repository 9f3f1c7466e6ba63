use Rattle.std.proofs.Common.{◌≡◌, ◌++◌, map, replicate}
use Rattle.xterm_steps.proofs.row_moves.push_copies.Given as goal

-- so many are appended
abbrev pub invariant-loop-at : goal.invariant-loop-at
invariant-loop-at l = map (λ line. line.now) l.news.items ≡ map (λ line. line.now) l.initial.news.items ++ replicate l.at l.line
