-- Columns as cells, one for each.
use Rattle.std.specs.Prelude.{List, map}
use Rattle.cell_base.specs.CellContent.{CellContent, blank_cell}
use Rattle.cell_base.specs.Row.{Column, Narrow, LeftHalf, RightHalf, Row}

-- the cell that begins at a column; at the right half of a wide cell the blank with its attributes
abbrev pub column_cell : Column → CellContent
column_cell (Narrow text attributes) = record { text = text; width = 1; attributes = attributes }
column_cell (LeftHalf text attributes) = record { text = text; width = 2; attributes = attributes }
column_cell (RightHalf attributes) = blank_cell attributes

-- the cells that a line of these columns lends
abbrev pub lent_cells : Row → List CellContent
lent_cells columns = map column_cell columns
