-- What each change does to a display.
use Rattle.std.specs.Prelude.{ℕ, ◌+◌, ◌-◌, Bool, true, false, List, [], ◌∷◌, ◌++◌, length, take, replicate, map, fold}
use Rattle.std.specs.Prelude.{slice_index_or, slice_set, Some}
use Rattle.cell_base.specs.declared.attributes.CursorVisibility.{CursorVisibility as Visibility}
use Rattle.cell_base.specs.declared.attributes.CursorVisibility.TheVariants.{Hidden, Visible}
use Rattle.cell_base.specs.declared.attributes.LineAttribute.TheVariants.{SingleWidthLine}
use Rattle.cell_base.specs.declared.color.ColorAttribute.{ColorAttribute}
use Rattle.cell_base.specs.Attributes.{Attributes, blank_of}
use Rattle.cell_base.specs.Row.{Row, blank, plain_row, set_columns}
use Rattle.cell_base.specs.Screen.{Screen, height}
use Rattle.screen_change.specs.ChangeValue.{ChangeValue, Attribute, AllAttributes, Text, ClearScreen, ClearToEndOfLine}
use Rattle.screen_change.specs.ChangeValue.{ClearToEndOfScreen, CursorPosition, CursorColor, CursorShape}
use Rattle.screen_change.specs.ChangeValue.{CursorVisibility, LineAttribute, ScrollRegionUp, ScrollRegionDown, Title}
use Rattle.screen_effects.specs.Display.{Display}
use Rattle.screen_effects.specs.Pen.{with_attribute}
use Rattle.screen_effects.specs.Positions.{resolved, resolved_column}
use Rattle.screen_effects.specs.Regions.{in_region, moved_up, moved_down}
use Rattle.screen_effects.specs.Strokes.{text_done}

abbrev pub on_screen : (Screen → Screen) → Display → Display
on_screen change display = record display { screen = change display.screen }

abbrev pub with_pen : Attributes → Screen → Screen
with_pen pen screen = record screen { pen = pen }

-- ---- clears: blanks of a colour, which is the pen's background from then on

-- a row of blanks of a colour
abbrev pub blank_row : ℕ → ColorAttribute → Row
blank_row width color = replicate width (blank (blank_of color))

-- the cursor's row
abbrev pub cursor_row : Screen → Row
cursor_row screen = slice_index_or screen.rows screen.row []

-- the row with blanks from a column on
abbrev pub cleared_after : ℕ → ColorAttribute → Row → Row
cleared_after column color row = set_columns row column (blank_row (length row - column) color)

-- clears all rows, and moves the cursor home
abbrev pub cleared_screen : ColorAttribute → Screen → Screen
cleared_screen color screen =
    record screen
    { rows = map (λ _. blank_row screen.width color) screen.rows; column = 0; row = 0; pen = blank_of color }

-- clears the cursor's row from the cursor's column on; where a wrap is pending, nothing of it
abbrev pub cleared_line : ColorAttribute → Screen → Screen
cleared_line color screen =
    record screen {
      rows = slice_set screen.rows screen.row (cleared_after screen.column color (cursor_row screen));
      pen = blank_of color;
    }

-- as `cleared_line`, and clears all rows below
abbrev pub cleared_below : ColorAttribute → Screen → Screen
cleared_below color screen = record screen {
  rows =
      take screen.row screen.rows ++ cleared_after screen.column color (cursor_row screen)
      ∷ replicate (height screen - (screen.row + 1)) (blank_row screen.width color);
  pen = blank_of color;
}

-- ---- regions: rows that enter are plain and have single width

abbrev pub scrolled_up : ℕ → ℕ → ℕ → Display → Display
scrolled_up first size count display = record display {
  screen =
      record display.screen
      { rows = in_region (moved_up (plain_row display.screen.width) count) first size display.screen.rows };
  sizes = in_region (moved_up SingleWidthLine count) first size display.sizes;
}

abbrev pub scrolled_down : ℕ → ℕ → ℕ → Display → Display
scrolled_down first size count display = record display {
  screen =
      record display.screen
      { rows = in_region (moved_down (plain_row display.screen.width) count) first size display.screen.rows };
  sizes = in_region (moved_down SingleWidthLine count) first size display.sizes;
}

-- ---- all changes

abbrev pub is_visible : Visibility → Bool
is_visible Hidden = false
is_visible Visible = true

-- the colour of the cursor isn't kept, since nothing shows it
abbrev pub effect : (List ℕ → ℕ) → Display → ChangeValue → Display
effect width_of display (Attribute change) =
    on_screen (λ screen. with_pen (with_attribute screen.pen change) screen) display
effect width_of display (AllAttributes pen) = on_screen (with_pen pen) display
effect width_of display (Text text) = text_done width_of display text
effect width_of display (ClearScreen color) = on_screen (cleared_screen color) display
effect width_of display (ClearToEndOfLine color) = on_screen (cleared_line color) display
effect width_of display (ClearToEndOfScreen color) = on_screen (cleared_below color) display
effect width_of display (CursorPosition x y) =
    on_screen
    (λ screen. record screen
    { column = resolved_column screen.width screen.column x; row = resolved (height screen) screen.row y }) display
effect width_of display (CursorColor color) = display
effect width_of display (CursorShape shape) = record display { shape = Some shape }
effect width_of display (CursorVisibility visibility) =
    on_screen (λ screen. record screen { visible = is_visible visibility }) display
effect width_of display (LineAttribute size) =
    record display { sizes = slice_set display.sizes display.screen.row size }
effect width_of display (ScrollRegionUp first size count) = scrolled_up first size count display
effect width_of display (ScrollRegionDown first size count) = scrolled_down first size count display
effect width_of display (Title title) = on_screen (λ screen. record screen { title = title }) display

-- the display after each of the changes in turn
abbrev pub replay : (List ℕ → ℕ) → Display → List ChangeValue → Display
replay width_of display changes = fold (effect width_of) display changes
