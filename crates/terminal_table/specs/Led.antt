-- What is logged for a step that is given by the screen after it: the difference of two screens.
use Rattle.std.specs.Prelude.{Bool, true, false, ◌==◌, fold, List, [], ◌∷◌, ◌++◌, Option, Some, None, if◌then◌else◌}
use Rattle.cell_base.specs.declared.attributes.Position.TheVariants.{Absolute}
use Rattle.cell_base.specs.Row.{Row}
use Rattle.cell_base.specs.Screen.{Screen}
use Rattle.screen_change.specs.ChangeValue.{ChangeValue, AllAttributes, CursorPosition, CursorVisibility, Text, Title}
use Rattle.cell_edits.specs.VisibleCells.{VisibleCell, visible_cells}
use Rattle.screen_difference.specs.Difference.{difference}
use Rattle.screen_difference.specs.FreshCells.{screen_fresh}
use Rattle.screen_effects.specs.Effect.{cursor_row}
use Rattle.terminal_table.specs.Changes.{changes, visibility}
use Rattle.terminal_table.specs.Functions.{ControlFunction}
use Rattle.terminal_table.specs.Modes.{SavedCursor}
use Rattle.terminal_table.specs.Steps.{screen_step}

-- ---- the cursor's place

-- the last visible cell of a row, if there is one
abbrev pub last_cell : Row → Option VisibleCell
last_cell row = fold (λ _ v. Some v) None (visible_cells row)

-- a cell of the cursor's row written once more at its position, and the pen as it was
abbrev pub written_again : Screen → Option VisibleCell → List ChangeValue
written_again screen None = []
written_again screen (Some v) =
    CursorPosition (Absolute v.column) (Absolute screen.row) ∷ AllAttributes v.cell.attributes ∷ Text v.cell.text
    ∷ AllAttributes screen.pen ∷ []

-- The cursor's position and the pen. Only a printed character moves the cursor past the last column: so where a wrap is
-- pending, the last visible cell of the cursor's row is written once more, and then the pen is set.
abbrev pub position_and_pen : Screen → List ChangeValue
position_and_pen screen =
    if screen.column == screen.width then written_again screen (last_cell (cursor_row screen))
    else CursorPosition (Absolute screen.column) (Absolute screen.row) ∷ AllAttributes screen.pen ∷ []

-- ---- from one screen to another

-- whether the cursor is visible, where that changes
abbrev pub sight_changes : Bool → Bool → List ChangeValue
sight_changes true true = []
sight_changes false false = []
sight_changes true false = CursorVisibility (visibility false) ∷ []
sight_changes false true = CursorVisibility (visibility true) ∷ []

-- what leads from one screen to another with the same title: the cells that the first doesn't show, the cursor's
-- position and the pen, and whether the cursor is visible, where that changes
abbrev pub led : Screen → Screen → List ChangeValue
led before after =
    difference (screen_fresh before after) ++ position_and_pen after ++ sight_changes before.visible after.visible

-- the same with the title
abbrev pub led_with_title : Screen → Screen → List ChangeValue
led_with_title before after = Title after.title ∷ led before after

-- the changes of a control function, as a scroll of all rows, and then what leads on from the screen that it leaves
abbrev pub led_behind : ControlFunction → Option SavedCursor → Screen → Screen → List ChangeValue
led_behind function saved before after =
    changes function saved before ++ led (screen_step function saved before) after
