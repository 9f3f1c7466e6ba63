-- How the columns of a line are kept.
use Rattle.std.specs.Prelude.{◌≡◌, Bool, true, false}
use Rattle.cell_base.specs.CellContent.{row_of_cells}
use Rattle.cell_base.specs.Row.{Row}
use Rattle.clustered_row.specs.StoredRows.{IsStored}
use Rattle.cell_line.specs.declared.stored_line.StoredLine.{StoredLine}
use Rattle.cell_line.specs.declared.stored_line.StoredLine.TheVariants.{Cells, Clustered}

-- whether these columns, of a line that is clustered or not, are kept so: a clustered line's as one text, the sizes of
-- its cells and runs of equal attributes, any other line's as cells, which are read from the left
abbrev pub IsKept : Bool → Row → StoredLine → Type 0
IsKept true columns (Clustered stored) = IsStored stored columns
IsKept true columns (Cells cells) = ⊥
IsKept false columns (Clustered stored) = ⊥
IsKept false columns (Cells cells) = row_of_cells cells.now ≡ columns
