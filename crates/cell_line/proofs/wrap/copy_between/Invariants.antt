use Rattle.std.proofs.Common.{◌≡◌, ◌++◌, false}
use Rattle.std.specs.Prelude.{filter, nat_le, nat_lt, ◌&&◌}
use Rattle.cell_base.specs.CellContent.{row_of_cells}
use Rattle.cell_edits.specs.CellList.{ends_split}
use Rattle.cell_views.specs.ReadCells.{read_from, read_left}
use Rattle.cell_edits.specs.VisibleCells.{row_of_visible}
use Rattle.cell_line.proofs.wrap.copy_between.Given as goal

-- the columns so far, and then those that are left, are the whole
abbrev pub invariant-loop-column : goal.invariant-loop-column
invariant-loop-column l = record {
  whole : ends_split l.kept.items ≡ false;
  row : row_of_cells l.kept.items ++ row_of_visible (filter (λ v. nat_le l.start v.column && nat_lt v.column l.end) (read_left l.column-iterator))
      ≡ row_of_visible (filter (λ v. nat_le l.start v.column && nat_lt v.column l.end) (read_from 0 l.cells));
}
