-- Changes of a line that are being made.
use Rattle.std.specs.Prelude.{ℕ, ◌++◌, List, Option, Some, None, fold, if◌then◌else◌}
use Rattle.cell_base.specs.declared.color.ColorAttribute.{ColorAttribute}
use Rattle.cell_base.specs.Attributes.{Attributes, blank_of}
use Rattle.cell_base.specs.CellContent.{CellContent}
use Rattle.screen_change.specs.CellChanges.{attributes_due, cells_written, last_pen, clear_due}
use Rattle.screen_change.specs.CellRuns.{is_blank_of}
use Rattle.screen_change.specs.ChangeValue.{ChangeValue}
use Rattle.cell_edits.specs.VisibleCells.{VisibleCell}

-- the background of a cell that is a space, plain except for its background
abbrev pub background_of : CellContent → Option ColorAttribute
background_of cell = if is_blank_of cell.attributes.background cell then Some cell.attributes.background else None

-- the column of the last cell that isn't a blank of a background
abbrev pub last_non_blank : ColorAttribute → List VisibleCell → Option ℕ
last_non_blank color cells = fold (λ last v. if is_blank_of color v.cell then last else Some v.column) None cells

-- cells, and a clear after them with its attributes
abbrev pub written_with_clear : Attributes → List CellContent → ColorAttribute → List ChangeValue
written_with_clear start cells color =
    cells_written start cells ++ attributes_due (last_pen start cells) (blank_of color) ++ clear_due color
