-- What a `Cell` holds.
use Rattle.cell_base.specs.CellText.{cell_with}
use Rattle.cell_base.specs.CellContent.{CellContent}
use Rattle.cell_base.specs.declared.cell.Cell.TheInside.{Inside}

abbrev pub content_of : Inside → CellContent
content_of a = cell_with a.text a.attributes
