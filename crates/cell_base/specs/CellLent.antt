-- The cell after a mutable borrow of its attributes.
use Rattle.std.specs.Borrow.{Lends, MutBor, Fml}
use Rattle.cell_base.specs.Attributes.{Attributes}
use Rattle.cell_base.specs.CellContent.{CellContent}
use Rattle.cell_base.specs.contracts.cell.Cell.{the_row}
use Rattle.cell_base.specs.contracts.cell_attributes.CellAttributes.{the_row as attributes_row}

abbrev pub with_attributes : CellContent → Attributes → CellContent
with_attributes cell attributes = record cell { attributes = attributes }

-- the cell ends with the attributes that were last written through r
abbrev pub LendsAttributes : MutBor CellContent → MutBor Attributes → Fml
LendsAttributes cell r = Lends the_row attributes_row cell r (with_attributes cell.now)
