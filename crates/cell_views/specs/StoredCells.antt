-- The row that a stored form shows.
use Rattle.cell_base.specs.CellContent.{row_of_cells}
use Rattle.cell_base.specs.Row.{Row}
use Rattle.cell_views.specs.declared.stored_cells.StoredCells.{StoredCells}
use Rattle.cell_views.specs.declared.stored_cells.StoredCells.TheVariants.{Cells, Clustered}

-- the row of cells, which are read from the left, or the clustered row itself
abbrev pub stored_row : StoredCells → Row
stored_row (Cells cells) = row_of_cells cells.now
stored_row (Clustered row) = row.now
