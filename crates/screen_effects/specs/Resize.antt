-- A display of another size.
use Rattle.std.specs.Prelude.{ℕ, ◌-◌, List, ◌++◌, length, take, map, min, replicate}
use Rattle.cell_base.specs.declared.attributes.LineAttribute.TheVariants.{SingleWidthLine}
use Rattle.cell_base.specs.Row.{Row, plain_row, closed_end}
use Rattle.cell_base.specs.Screen.{Screen}
use Rattle.screen_effects.specs.Display.{Display}

-- the first `size` elements, and `other` for each missing one
abbrev pub fitted : {A : Type 0} → A → ℕ → List A → List A
fitted other size xs = take size xs ++ replicate (size - length xs) other

-- a row is cut, and a wide text that the cut splits becomes a blank; or plain blanks are added
abbrev pub resized_row : ℕ → Row → Row
resized_row width row = closed_end (take width row) ++ plain_row (width - length row)

-- the top left stays, plain blanks are added at the right and below, and the cursor stays within the last column and
-- row, so that no wrap is pending
abbrev pub resized_screen : ℕ → ℕ → Screen → Screen
resized_screen width height screen = record screen {
  width = width;
  rows = fitted (plain_row width) height (map (resized_row width) screen.rows);
  column = min screen.column (width - 1);
  row = min screen.row (height - 1);
}

abbrev pub resized : ℕ → ℕ → Display → Display
resized width height display =
    record display
    { screen = resized_screen width height display.screen; sizes = fitted SingleWidthLine height display.sizes }
