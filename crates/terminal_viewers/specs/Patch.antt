-- The bytes that bring a viewer up to date that shows another screen of the same size.
use Rattle.std.specs.Prelude.{ℕ, ◌==◌, List, [], ◌∷◌, ◌++◌, Option, Some, None, if◌then◌else◌}
use Rattle.cell_base.specs.Screen.{Screen, height}
use Rattle.screen_change.specs.ChangeValue.{ChangeValue, CursorVisibility, Title}
use Rattle.cell_edits.specs.VisibleCells.{VisibleCell}
use Rattle.screen_difference.specs.Difference.{difference}
use Rattle.screen_difference.specs.FreshCells.{screen_fresh}
use Rattle.screen_effects.specs.Effect.{cursor_row}
use Rattle.screen_difference.specs.Prints.{PlacedText}
use Rattle.terminal_render.specs.Lists.{all_rendered}
use Rattle.terminal_table.specs.Changes.{visibility}
use Rattle.terminal_table.specs.Led.{last_cell, position_and_pen}
use Rattle.terminal_viewers.specs.Update.{bytes_of}

-- the changes of a patch: the title, the cells that the old screen doesn't show, the cursor's position and the pen, and
-- whether the cursor is visible
abbrev pub patch_changes : Screen → Screen → List ChangeValue
patch_changes old new =
    Title new.title ∷ difference (screen_fresh old new) ++ position_and_pen new
    ++ CursorVisibility (visibility new.visible) ∷ []

-- the patch: the bytes that encode these changes in turn
abbrev pub patch_of : Screen → Screen → List ℕ
patch_of old new = bytes_of (all_rendered (patch_changes old new) new.width (height new))

-- the text that a patch prints for the position of a pending wrap: the cell that it writes once more
abbrev pub print_again : Screen → Option VisibleCell → List PlacedText
print_again screen None = []
print_again screen (Some v) = record { row = screen.row; column = v.column; text = v.cell.text } ∷ []

abbrev pub position_prints : Screen → List PlacedText
position_prints screen =
    if screen.column == screen.width then print_again screen (last_cell (cursor_row screen)) else []
