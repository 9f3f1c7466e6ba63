-- Lines whose number may come last.
use Rattle.std.proofs.Common.{◌≡◌, ℕ, ◌<◌, [], ◌∷◌, length, refl, ap, arith}
use Rattle.cell_base.specs.Row.{Row}
use Rattle.cell_line.specs.LineContent.{LineContent, changed, changed_unless_empty}
use Rattle.cell_line.specs.LineCalls.{update_last_change_seqno}

pub left_none : (line : LineContent) (number : ℕ) (r : Row) → r ≡ [] → changed_unless_empty line number r ≡ line
left_none line number r e = ap (changed_unless_empty line number) e

pub left_some : (line : LineContent) (number : ℕ) (r : Row) → 0 < length r → changed_unless_empty line number r ≡ changed line number r
left_some line number [] h = absurd (omega arith)
left_some line number (column ∷ r) h = refl

-- the number may come last
pub numbered_last : (line : LineContent) (number : ℕ) (f r : Row) → update_last_change_seqno (changed_unless_empty (record line { columns = f }) number r) number ≡ changed_unless_empty (changed line number f) number r
numbered_last line number f [] = refl
numbered_last line number f (column ∷ r) = refl
