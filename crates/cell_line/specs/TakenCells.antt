-- Cells of a line that is taken apart, as they are read from the left.
use Rattle.std.specs.Prelude.{List}
use Rattle.std.specs.Vec.Iter.{into_iter_items}
use Rattle.cell_views.specs.ReadCells.{read_from}
use Rattle.cell_edits.specs.VisibleCells.{VisibleCell}
use Rattle.cell_line.specs.declared.taken_cells.TakenCells.{TakenCells}

-- the remaining cells
abbrev pub taken_left : TakenCells → List VisibleCell
taken_left s = read_from s.cell_index (into_iter_items s.cells)
