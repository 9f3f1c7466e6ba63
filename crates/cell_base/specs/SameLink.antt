-- When two links are equal.
use Rattle.std.specs.Prelude.{◌≡◌, Bool}
use Rattle.std.specs.Bool.{Decides}
use Rattle.std.specs.Cmp.{IsEquivalence}
use Rattle.cell_base.specs.Link.{Link}
use Rattle.cell_base.specs.SameValue.{is_same, is_same_decides, is_same_equivalence}
use Rattle.cell_base.specs.contracts.hyperlink.Hyperlink.{the_row}

-- parameters and URI are the same, and both links were found in a text or neither
pub same_link : Link → Link → Bool
same_link = is_same the_row.coded

pub same_link_decides : (a b : Link) → Decides (same_link a b) (a ≡ b)
unfolding same_link
same_link_decides = is_same_decides the_row.coded

pub same_link_equivalence : IsEquivalence same_link
unfolding same_link
same_link_equivalence = is_same_equivalence the_row.coded
