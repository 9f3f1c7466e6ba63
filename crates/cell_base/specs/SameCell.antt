-- When two cells are equal.
use Rattle.std.specs.Prelude.{◌≡◌, Bool}
use Rattle.std.specs.Bool.{Decides}
use Rattle.std.specs.Cmp.{IsEquivalence}
use Rattle.cell_base.specs.CellContent.{CellContent}
use Rattle.cell_base.specs.SameValue.{is_same, is_same_decides, is_same_equivalence}
use Rattle.cell_base.specs.contracts.cell.Cell.{the_row}

-- text, width and attributes are the same
pub same_cell : CellContent → CellContent → Bool
same_cell = is_same the_row.coded

pub same_cell_decides : (a b : CellContent) → Decides (same_cell a b) (a ≡ b)
unfolding same_cell
same_cell_decides = is_same_decides the_row.coded

pub same_cell_equivalence : IsEquivalence same_cell
unfolding same_cell
same_cell_equivalence = is_same_equivalence the_row.coded
