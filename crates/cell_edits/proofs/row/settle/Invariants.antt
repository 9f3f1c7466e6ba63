use Rattle.std.proofs.Common.{◌≡◌, ◌-◌, ◌++◌, false, take, drop, length}
use Rattle.cell_base.specs.CellContent.{row_of_cells}
use Rattle.cell_edits.specs.CellList.{ends_split}
use Rattle.cell_edits.specs.ShownCells.{lent_cells}
use Rattle.cell_edits.proofs.row.settle.Given as goal

-- the cells so far, followed by the lent cells of the remaining ones, are the lent cells of the whole row
abbrev pub invariant-loop-at : goal.invariant-loop-at
invariant-loop-at l = record {
  whole : ends_split (take l.at l.cells.items) ≡ false;
  row : row_of_cells l.cells.items ≡ row_of_cells l.initial.cells.items;
  same : take l.at l.cells.items ++ lent_cells (row_of_cells (drop l.at l.cells.items)) ≡ lent_cells (row_of_cells l.initial.cells.items);
}

abbrev pub decreases-loop-at : goal.decreases-loop-at
decreases-loop-at l = length l.cells.items - l.at
