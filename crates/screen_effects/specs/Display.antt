-- A screen, and what is kept beside it: the size of each row, and the cursor's shape.
use Rattle.std.specs.Prelude.{◌≡◌, ℕ, List, length, replicate, Option, None, All}
use Rattle.cell_base.specs.declared.attributes.CursorShape.{CursorShape}
use Rattle.cell_base.specs.declared.attributes.LineAttribute.{LineAttribute}
use Rattle.cell_base.specs.declared.attributes.LineAttribute.TheVariants.{SingleWidthLine}
use Rattle.cell_base.specs.Screen.{Screen, IsScreen, new_screen}
use Rattle.cell_base.specs.WholeRow.{IsWhole}

-- the screen; for each of its rows whether it has single or double width and height; and the shape, if one was set
pub record Display : Type 0 where
  pub screen : Screen
  pub sizes : List LineAttribute
  pub shape : Option CursorShape

-- a new screen, whose rows have single width, and no shape
abbrev pub new_display : ℕ → ℕ → Display
new_display width height =
    record { screen = new_screen width height; sizes = replicate height SingleWidthLine; shape = None }

-- the invariant of displays: a lawful screen, whole rows, and a size for each
pub record IsDisplay (display : Display) : Type 0 where
  pub lawful : IsScreen display.screen
  pub whole : All IsWhole display.screen.rows
  pub sized : length display.sizes ≡ length display.screen.rows
