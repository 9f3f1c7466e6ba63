-- The changes that are logged, in this order, for each control function and for a run, from the state before it.
use Rattle.std.specs.Prelude.{ℕ, ◌-◌, min, Bool, true, false, ◌==◌, List, [], ◌∷◌, Option, Some, None, if◌then◌else◌}
use Rattle.cell_base.specs.declared.attributes.CursorVisibility.{CursorVisibility as Visibility}
use Rattle.cell_base.specs.declared.attributes.CursorVisibility.TheVariants.{Hidden, Visible}
use Rattle.cell_base.specs.declared.attributes.Position.TheVariants.{Absolute}
use Rattle.cell_base.specs.declared.color.ColorAttribute.TheVariants.{Default}
use Rattle.cell_base.specs.Attributes.{Attributes}
use Rattle.cell_base.specs.AttributeValue as attribute
use Rattle.cell_base.specs.Color.{attribute_of}
use Rattle.cell_base.specs.Screen.{Screen, height}
use Rattle.screen_change.specs.ChangeValue.{ChangeValue, Attribute, AllAttributes, Text, ClearScreen, ClearToEndOfLine}
use Rattle.screen_change.specs.ChangeValue.{ClearToEndOfScreen, CursorPosition, CursorVisibility, ScrollRegionUp}
use Rattle.screen_change.specs.ChangeValue.{ScrollRegionDown}
use Rattle.screen_change.specs.ChangeValue as change
use Rattle.csi_codec.specs.declared.rendition.Sgr.{Sgr}
use Rattle.csi_codec.specs.declared.rendition.Sgr.TheVariants as sgr
use Rattle.terminal_table.specs.Modes.{SavedCursor}
use Rattle.terminal_table.specs.State.{State}
use Rattle.terminal_table.specs.Functions.{Move, Up, ControlFunction, Moves, LineFeed, CarriageReturn, NextRow}
use Rattle.terminal_table.specs.Functions.{ReverseIndex, EraseToEndOfDisplay, EraseDisplay, EraseToEndOfLine, EraseLine}
use Rattle.terminal_table.specs.Functions.{ScrollUp, ScrollDown, Rendition, Hyperlink, Title, ShowCursor, SaveCursor}
use Rattle.terminal_table.specs.Functions.{RestoreCursor, FullReset, ReportStatus, ReportPosition}
use Rattle.terminal_table.specs.Steps.{active_column, target, with_rendition, cursor_to_restore}

-- the change that puts the cursor at a column and a row, at most the last ones
abbrev pub position : ℕ × ℕ → Screen → ChangeValue
position at screen =
    CursorPosition (Absolute (min at.0 (screen.width - 1))) (Absolute (min at.1 (height screen - 1)))

-- the change that puts the cursor where a move leads
abbrev pub move_change : Move → Screen → ChangeValue
move_change move screen = position (target move (active_column screen) screen.row) screen

-- the change that puts the cursor where it is, and so ends a pending wrap
abbrev pub same_position : Screen → ChangeValue
same_position screen = position (active_column screen, screen.row) screen

-- SGR: a setting without an attribute change of its own gives a change of all attributes, those of the new pen; a font
-- gives none
abbrev pub rendition_changes : Sgr → Attributes → List ChangeValue
rendition_changes (sgr.Intensity value) pen = Attribute (attribute.Intensity value) ∷ []
rendition_changes (sgr.Underline value) pen = Attribute (attribute.Underline value) ∷ []
rendition_changes (sgr.Blink value) pen = Attribute (attribute.Blink value) ∷ []
rendition_changes (sgr.Italic value) pen = Attribute (attribute.Italic value) ∷ []
rendition_changes (sgr.Inverse value) pen = Attribute (attribute.Reverse value) ∷ []
rendition_changes (sgr.Invisible value) pen = Attribute (attribute.Invisible value) ∷ []
rendition_changes (sgr.StrikeThrough value) pen = Attribute (attribute.StrikeThrough value) ∷ []
rendition_changes (sgr.Foreground value) pen = Attribute (attribute.Foreground (attribute_of value)) ∷ []
rendition_changes (sgr.Background value) pen = Attribute (attribute.Background (attribute_of value)) ∷ []
rendition_changes (sgr.Font value) pen = []
rendition_changes sgr.Reset pen = AllAttributes (with_rendition sgr.Reset pen) ∷ []
rendition_changes (sgr.UnderlineColor value) pen = AllAttributes (with_rendition (sgr.UnderlineColor value) pen) ∷ []
rendition_changes (sgr.Overline value) pen = AllAttributes (with_rendition (sgr.Overline value) pen) ∷ []
rendition_changes (sgr.VerticalAlign value) pen = AllAttributes (with_rendition (sgr.VerticalAlign value) pen) ∷ []

abbrev pub visibility : Bool → Visibility
visibility true = Visible
visibility false = Hidden

-- the changes that restore a saved cursor: its position and its pen
abbrev pub cursor_changes : SavedCursor → Screen → List ChangeValue
cursor_changes cursor screen = position (cursor.column, cursor.row) screen ∷ AllAttributes cursor.pen ∷ []

-- the changes of a control function
abbrev pub changes : ControlFunction → Option SavedCursor → Screen → List ChangeValue
changes (Moves move) saved screen = move_change move screen ∷ []
changes LineFeed saved screen = Text (10 ∷ []) ∷ []
changes CarriageReturn saved screen = Text (13 ∷ []) ∷ []
changes NextRow saved screen = Text (13 ∷ 10 ∷ []) ∷ []
changes ReverseIndex saved screen =
    (if screen.row == 0 then ScrollRegionDown 0 (height screen) 1 else move_change (Up 1) screen) ∷ []
changes EraseToEndOfDisplay saved screen = ClearToEndOfScreen screen.pen.background ∷ AllAttributes screen.pen ∷ []
changes EraseDisplay saved screen =
    ClearScreen screen.pen.background ∷ same_position screen ∷ AllAttributes screen.pen ∷ []
changes EraseToEndOfLine saved screen = ClearToEndOfLine screen.pen.background ∷ AllAttributes screen.pen ∷ []
changes EraseLine saved screen =
    position (0, screen.row) screen ∷ ClearToEndOfLine screen.pen.background ∷ same_position screen
    ∷ AllAttributes screen.pen ∷ []
changes (ScrollUp n) saved screen = ScrollRegionUp 0 (height screen) (min n (height screen)) ∷ []
changes (ScrollDown n) saved screen = ScrollRegionDown 0 (height screen) (min n (height screen)) ∷ []
changes (Rendition value) saved screen = rendition_changes value screen.pen
changes (Hyperlink link) saved screen = Attribute (attribute.Hyperlink link) ∷ []
changes (Title text) saved screen = change.Title text ∷ []
changes (ShowCursor shown) saved screen = CursorVisibility (visibility shown) ∷ []
changes SaveCursor saved screen = []
changes RestoreCursor saved screen = cursor_changes (cursor_to_restore saved) screen
changes FullReset saved screen = ClearScreen Default ∷ CursorVisibility Visible ∷ []
changes ReportStatus saved screen = []
changes ReportPosition saved screen = []

-- the changes of the control function that an action asks for, if it asks for one
abbrev pub changes_of : Option ControlFunction → State → List ChangeValue
changes_of None state = []
changes_of (Some function) state = changes function state.saved state.screen

-- a run is one change
abbrev pub run_change : List ℕ → ChangeValue
run_change text = Text text
