use Rattle.std.proofs.Common.{◌≡◌, length}
use Rattle.screen_repaint.specs.Ends.{are_blanks_with, passing_at_end}
use Rattle.screen_repaint.specs.Repaint.{row_cells}
use Rattle.screen_repaint.proofs.ends.blank_lines_at_end.Given as goal

-- going on with the remaining lines gives the count for all lines
abbrev pub invariant-loop-line : goal.invariant-loop-line
invariant-loop-line l = passing_at_end (λ x. are_blanks_with l.attrs (row_cells x.columns)) l.count l.left ≡ passing_at_end (λ x. are_blanks_with l.attrs (row_cells x.columns)) (length l.lines) l.lines

abbrev pub decreases-loop-line : goal.decreases-loop-line
decreases-loop-line l = length l.left
