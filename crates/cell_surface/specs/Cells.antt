-- The cells of rows, one for each column.
use Rattle.std.specs.Prelude.{◌==◌, List, [], ◌∷◌, map, if◌then◌else◌}
use Rattle.cell_base.specs.CellContent.{CellContent, blank_cell, cell_of}
use Rattle.cell_base.specs.Row.{Row, Column, Narrow, LeftHalf, RightHalf}
use Rattle.cell_views.specs.CellRefView.{copy_of}

-- the cell of a column: the right half of a wide cell is a blank with its attributes
abbrev pub column_cell : Column → CellContent
column_cell (Narrow text attributes) = cell_of text 1 attributes
column_cell (LeftHalf text attributes) = cell_of text 2 attributes
column_cell (RightHalf attributes) = blank_cell attributes

abbrev pub column_cells : Row → List CellContent
column_cells row = map column_cell row

-- the cells of the columns that one visible cell takes
abbrev pub cells_of : CellContent → List CellContent
cells_of cell = copy_of cell ∷ (if cell.width == 2 then blank_cell cell.attributes ∷ [] else [])
