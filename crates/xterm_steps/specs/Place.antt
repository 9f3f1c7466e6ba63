-- The changes that put the cursor at its place and set the pen, by the parts of a screen.
use Rattle.std.specs.Prelude.{ℕ, ◌==◌, List, [], ◌∷◌, Option, Some, None, if◌then◌else◌}
use Rattle.cell_base.specs.declared.attributes.Position.TheVariants.{Absolute}
use Rattle.cell_base.specs.Attributes.{Attributes}
use Rattle.cell_base.specs.Row.{Row}
use Rattle.cell_edits.specs.VisibleCells.{VisibleCell}
use Rattle.screen_change.specs.ChangeValue.{ChangeValue, AllAttributes, CursorPosition, Text}
use Rattle.terminal_table.specs.Led.{last_cell}

-- a cell of a row written once more, if there is one, and then the pen
abbrev pub cell_again : ℕ → Attributes → Option VisibleCell → List ChangeValue
cell_again row pen None = []
cell_again row pen (Some v) =
    CursorPosition (Absolute v.column) (Absolute row) ∷ AllAttributes v.cell.attributes ∷ Text v.cell.text
    ∷ AllAttributes pen ∷ []

-- The cursor's position in a row with these columns, and the pen. Where a wrap is pending, the row's last cell is
-- written once more, and then the pen is set.
abbrev pub place_and_pen : ℕ → ℕ → ℕ → Attributes → Row → List ChangeValue
place_and_pen width column row pen columns =
    if column == width then cell_again row pen (last_cell columns)
    else CursorPosition (Absolute column) (Absolute row) ∷ AllAttributes pen ∷ []
