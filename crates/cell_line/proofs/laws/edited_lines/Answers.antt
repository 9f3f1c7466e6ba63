use Rattle.std.proofs.Common.{[], ◌∷◌, ap, Bool, false}
use Rattle.std.specs.Prelude.{not, ◌||◌, codes, if◌then◌else◌}
use Rattle.cell_base.specs.Attributes.{plain}
use Rattle.cell_base.specs.Row.{Narrow, Row, space}
use Rattle.cell_base.specs.SameAttributes.{same_attributes_equivalence}
use Rattle.cell_line.specs.LineContent.{line_of, changed_unless_empty}
use Rattle.cell_line.specs.Samples.{letters}
use Rattle.cell_line.proofs.laws.edited_lines.Goals as goal

-- two blanks, up to the last that isn't plain
abbrev two_blanks : Bool → Row
two_blanks same = if not same || (not same || false) then Narrow space plain ∷ (if not same || false then Narrow space plain ∷ [] else []) else []

pub returns-clause-pruned : goal.returns-clause-pruned
returns-clause-pruned c = ap (λ same. changed_unless_empty (line_of 1 (letters (codes "a  "))) 7 (Narrow (codes "a") plain ∷ two_blanks same)) (same_attributes_equivalence.refl plain)

pub returns-clause-all_blank : goal.returns-clause-all_blank
returns-clause-all_blank c = ap (λ same. changed_unless_empty (line_of 1 (letters (codes "  "))) 7 (two_blanks same)) (same_attributes_equivalence.refl plain)
