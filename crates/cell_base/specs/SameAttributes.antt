-- When the attributes of two cells are equal.
use Rattle.std.specs.Prelude.{◌≡◌, Bool}
use Rattle.std.specs.Bool.{Decides}
use Rattle.std.specs.Cmp.{IsEquivalence}
use Rattle.cell_base.specs.Attributes.{Attributes}
use Rattle.cell_base.specs.SameValue.{is_same, is_same_decides, is_same_equivalence}
use Rattle.cell_base.specs.contracts.cell_attributes.CellAttributes.{the_row}

-- each attribute is the same
pub same_attributes : Attributes → Attributes → Bool
same_attributes = is_same the_row.coded

pub same_attributes_decides : (a b : Attributes) → Decides (same_attributes a b) (a ≡ b)
unfolding same_attributes
same_attributes_decides = is_same_decides the_row.coded

pub same_attributes_equivalence : IsEquivalence same_attributes
unfolding same_attributes
same_attributes_equivalence = is_same_equivalence the_row.coded
