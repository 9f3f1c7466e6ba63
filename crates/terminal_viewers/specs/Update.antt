-- The update for a viewer that has seen the changes before a number.
use Rattle.std.specs.Prelude.{ℕ, ◌==◌, List, [], ◌∷◌, replicate, Option, Some, None, if◌then◌else◌}
use Rattle.std.specs.List.{flat_map}
use Rattle.cell_base.specs.declared.attributes.LineAttribute.TheVariants.{SingleWidthLine}
use Rattle.cell_base.specs.declared.attributes.Position.TheVariants.{Absolute}
use Rattle.cell_base.specs.Screen.{Screen, height}
use Rattle.screen_change.specs.ChangeValue.{ChangeValue, CursorPosition, Title}
use Rattle.screen_log.specs.Log.{due}
use Rattle.screen_log.specs.LogSteps.{Sized}
use Rattle.escape_stream.specs.StreamAction.{StreamAction}
use Rattle.escape_stream.specs.StreamText.{stream_text}
use Rattle.screen_effects.specs.Display.{Display}
use Rattle.screen_effects.specs.Effect.{cursor_row}
use Rattle.screen_repaint.specs.Repaint.{repaint_with}
use Rattle.terminal_render.specs.Lists.{all_rendered}
use Rattle.terminal_table.specs.Led.{last_cell, written_again}

-- a screen by itself: its rows have single width, and the cursor has no shape
abbrev pub display_on : Screen → Display
display_on screen = record { screen = screen; sizes = replicate (height screen) SingleWidthLine; shape = None }

-- ---- an update

-- A change of a repaint as it can be encoded: only a printed character moves the cursor past the last column, so for
-- the position of a pending wrap the last visible cell of the cursor's row is written once more.
abbrev pub as_encoded : Screen → ChangeValue → List ChangeValue
as_encoded screen (CursorPosition (Absolute column) y) =
    if column == screen.width then written_again screen (last_cell (cursor_row screen))
    else CursorPosition (Absolute column) y ∷ []
as_encoded screen change = change ∷ []

-- the screen painted anew, with its title, also an empty one
abbrev pub painted_anew : Screen → List ChangeValue
painted_anew screen = flat_map (as_encoded screen) (repaint_with (Title screen.title ∷ []) (display_on screen))

-- the changes that are due; where the log doesn't have them, those that paint the screen anew
abbrev pub due_or : List ChangeValue → Option (List ChangeValue) → List ChangeValue
due_or painted None = painted
due_or painted (Some changes) = changes

abbrev pub update_changes : Screen → Sized → ℕ → List ChangeValue
update_changes screen log number = due_or (painted_anew screen) (due log.most log.log number)

-- the bytes of actions, if there are any
abbrev pub bytes_of : Option (List StreamAction) → List ℕ
bytes_of None = []
bytes_of (Some actions) = stream_text actions

-- the update: the bytes that encode these changes in turn
abbrev pub update_of : Screen → Sized → ℕ → List ℕ
update_of screen log number = bytes_of (all_rendered (update_changes screen log number) screen.width (height screen))
