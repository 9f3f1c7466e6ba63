use Rattle.std.proofs.Common.{◌≡◌, ◌≤◌, ◌-◌, max}
use Rattle.cell_base.specs.CellContent.{row_of_cells}
use Rattle.cell_edits.specs.RowEdits.{filled}
use Rattle.cell_edits.proofs.row.fill.Given as goal

-- the columns so far are set
abbrev pub invariant-loop-at : goal.invariant-loop-at
invariant-loop-at l = record {
  set : row_of_cells l.cells.items ≡ filled (row_of_cells l.initial.cells.items) l.start (l.at - l.start) l.cell;
  within : l.at ≤ max l.start l.end;
}
