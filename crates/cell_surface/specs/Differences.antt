-- The changes that make parts of a display show what other rows show.
use Rattle.std.specs.Prelude.{ℕ, List, [], ◌∷◌, ◌++◌, length}
use Rattle.cell_base.specs.declared.attributes.Position.TheVariants.{Absolute}
use Rattle.cell_base.specs.Row.{Row}
use Rattle.screen_change.specs.ChangeValue.{ChangeValue, AllAttributes, CursorPosition}
use Rattle.screen_difference.specs.Difference.{difference}
use Rattle.screen_difference.specs.FreshCells.{region_fresh, lines_fresh}
use Rattle.screen_effects.specs.Display.{Display}

-- the difference of a region of the display from one of the other display
abbrev pub regions_difference : Display → ℕ → ℕ → ℕ → ℕ → Display → ℕ → ℕ → List ChangeValue
regions_difference display x y width height other other_x other_y =
    difference (region_fresh display.screen.rows x y width height other.screen.rows other_x other_y)

-- the difference of the rows from row y on from other rows
abbrev pub lines_difference : Display → ℕ → List Row → List ChangeValue
lines_difference display y rows = difference (lines_fresh display.screen.rows y rows)

-- the changes that set the cursor's position and the pen as they are
abbrev pub brought_back : Display → List ChangeValue
brought_back display =
    CursorPosition (Absolute display.screen.column) (Absolute display.screen.row) ∷ AllAttributes display.screen.pen
    ∷ []

-- another display drawn at a position, with the cursor and the pen as they were
abbrev pub drawn : Display → Display → ℕ → ℕ → List ChangeValue
drawn display other x y =
    regions_difference display x y other.screen.width (length other.screen.rows) other 0 0 ++ brought_back display
