use Rattle.std.proofs.Common.{◌≡◌, ◌+◌, drop, length, map}
use Rattle.screen_difference.specs.Drawing.{with_all}
use Rattle.screen_difference.specs.FreshCells.{row_fresh, rows_fresh, rows_of}
use Rattle.screen_difference.proofs.regions.write_lines.Given as goal

-- the cells written so far, and then the fresh cells of the remaining lines, are all fresh cells
abbrev pub invariant-loop-at : goal.invariant-loop-at
invariant-loop-at l =
    with_all l.writer (rows_fresh (λ old new. row_fresh 0 0 (length new) old new) (l.number + l.at) (rows_of (drop l.at l.olds)) (rows_of (map (λ line. line.now) (drop l.at l.news))))
    ≡ with_all l.initial.writer (rows_fresh (λ old new. row_fresh 0 0 (length new) old new) l.number (rows_of l.olds) (rows_of (map (λ line. line.now) l.news)))
