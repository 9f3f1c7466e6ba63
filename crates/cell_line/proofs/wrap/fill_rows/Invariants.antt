use Rattle.std.proofs.Common.{◌≡◌, ◌++◌, [], false}
use Rattle.std.specs.Prelude.{map, filter}
use Rattle.cell_base.specs.CellContent.{row_of_cells}
use Rattle.cell_edits.specs.CellList.{ends_split}
use Rattle.cell_line.specs.LineContent.{line_of}
use Rattle.cell_views.specs.ReadCells.{read_from}
use Rattle.cell_line.specs.TakenCells.{taken_left}
use Rattle.cell_edits.specs.VisibleCells.{contents}
use Rattle.cell_line.specs.OpenRows.{rows_from}
use Rattle.cell_views.specs.OpenZones.{is_kept_by}
use Rattle.cell_line.proofs.wrap.fill_rows.Given as goal

-- the lines so far, followed by those of the open row and the remaining cells, are the lines of all cells
abbrev pub invariant-loop-column : goal.invariant-loop-column
invariant-loop-column l = record {
  whole : ends_split l.open.items ≡ false;
  lines : l.lines.items ++ map (line_of l.seqno) (rows_from l.width (row_of_cells l.open.items) (contents (filter (λ v. is_kept_by l.last v.column) (taken_left l.column-iterator))))
      ≡ map (line_of l.seqno) (rows_from l.width [] (contents (filter (λ v. is_kept_by l.last v.column) (read_from 0 l.fn.cells.items))));
}
