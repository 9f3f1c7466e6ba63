-- What a `Line` shows, and what it keeps.
use Rattle.std.specs.Prelude.{◌≡◌, Bool, true, false, []}
use Rattle.cell_base.specs.CellContent.{row_of_cells}
use Rattle.cell_base.specs.Row.{Row}
use Rattle.cell_line.specs.LineContent.{LineContent}
use Rattle.cell_line.specs.declared.line.Line.TheInside.{Inside}

-- the columns of a line: of a clustered one its row, of any other its cells, read from the left
abbrev pub columns_kept : Bool → Inside → Row
columns_kept true a = a.row
columns_kept false a = row_of_cells a.cells.items

abbrev pub content_of : Inside → LineContent
content_of a =
    record { number = a.number; bits = a.bits; columns = columns_kept a.is_clustered a; clustered = a.is_clustered }

-- beside a clustered row no cells are kept
abbrev pub IsKeptOnce : Inside → Type 0
IsKeptOnce a = a.is_clustered ≡ true → a.cells.items ≡ []
