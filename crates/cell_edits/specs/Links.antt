-- Links of a line.
use Rattle.std.specs.Prelude.{Bool, false, Option, Some, None, if◌then◌else◌}
use Rattle.std.specs.List.{list_any}
use Rattle.cell_base.specs.Attributes.{Attributes}
use Rattle.cell_base.specs.Link.{Link}
use Rattle.cell_base.specs.CellContent.{CellContent}
use Rattle.cell_base.specs.Row.{Column, Narrow, LeftHalf, RightHalf, Row}
use Rattle.cell_edits.specs.VisibleCells.{visible_cells}

-- whether a link was found in a text
abbrev pub is_implicit : Option Link → Bool
is_implicit None = false
is_implicit (Some link) = link.implicit

abbrev pub has_implicit_link : Row → Bool
has_implicit_link row = list_any (λ v. is_implicit v.cell.attributes.hyperlink) (visible_cells row)

-- the attributes less a link that was found in a text
abbrev pub without_implicit : Attributes → Attributes
without_implicit attributes =
    if is_implicit attributes.hyperlink then record attributes { hyperlink = None } else attributes

abbrev pub column_with : (Attributes → Attributes) → Column → Column
column_with change (Narrow text attributes) = Narrow text (change attributes)
column_with change (LeftHalf text attributes) = LeftHalf text (change attributes)
column_with change (RightHalf attributes) = RightHalf (change attributes)

-- the cell less a link found in a text
abbrev pub cell_without_implicit : CellContent → CellContent
cell_without_implicit cell = record cell { attributes = without_implicit cell.attributes }
