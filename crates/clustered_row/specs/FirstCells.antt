-- The first cell of a row.
use Rattle.std.specs.Prelude.{ℕ, ◌&&◌, nat_le, nat_lt, [], ◌∷◌, if◌then◌else◌}
use Rattle.cell_base.specs.CellContent.{CellContent}
use Rattle.cell_base.specs.Row.{Row, blank}
use Rattle.cell_edits.specs.CellList.{cell_columns}

-- the columns of a cell where `room` columns are left: a wide cell that has room for one column only is a blank
abbrev pub first_columns : CellContent → ℕ → Row
first_columns cell room =
    if nat_le 2 cell.width && nat_lt room 2 then blank cell.attributes ∷ [] else cell_columns cell
