use Rattle.std.proofs.Common.{◌≡◌, ◌≤◌, false, take, length}
use Rattle.cell_base.specs.CellContent.{row_of_cells}
use Rattle.cell_edits.specs.CellList.{ends_split}
use Rattle.cell_edits.specs.RowEdits.{pruned_row}
use Rattle.cell_edits.proofs.row.pruned_width.Given as goal

-- the columns that were passed are plain blanks
abbrev pub invariant-loop-width : goal.invariant-loop-width
invariant-loop-width l = record {
  within : l.width ≤ length l.cells;
  whole : ends_split (take l.width l.cells) ≡ false;
  same : pruned_row (row_of_cells (take l.width l.cells)) ≡ pruned_row (row_of_cells l.cells);
}

abbrev pub decreases-loop-width : goal.decreases-loop-width
decreases-loop-width l = l.width
