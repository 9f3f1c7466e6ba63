-- Visible cells that an iteration has left.
use Rattle.std.specs.Prelude.{ℕ, ◌++◌, List, replicate}
use Rattle.cell_base.specs.Row.{Row, blank}
use Rattle.cell_edits.specs.VisibleCells.{VisibleCell, visible_at, visible_from}
use Rattle.clustered_row.specs.declared.visible.ClusteredCell.{ClusteredCell}
use Rattle.clustered_row.specs.declared.visible.ClusteredCells.{ClusteredCells}
use Rattle.clustered_row.specs.Faces.{row_of}
use Rattle.clustered_row.specs.Sizes.{width_of}
use Rattle.clustered_row.specs.VisibleRuns.{attributes_left}
use Rattle.clustered_row.specs.VisibleTexts.{faces_left}

-- the `VisibleCell` of a borrowed cell
abbrev pub shown_by : ClusteredCell → VisibleCell
shown_by cell = visible_at cell.column cell.text.now (width_of cell.is_wide) cell.attributes.now

-- the row of the remaining columns: the written ones, and the blanks after them
abbrev pub row_left : ClusteredCells → Row
row_left cells =
    row_of (faces_left cells.texts) (attributes_left cells.runs) ++ replicate cells.blanks (blank cells.rest.now)

-- the first column of the next cell
abbrev pub next_column : ClusteredCells → ℕ
next_column cells = cells.column

-- the remaining cells
abbrev pub cells_left : ClusteredCells → List VisibleCell
cells_left cells = visible_from (next_column cells) (row_left cells)
