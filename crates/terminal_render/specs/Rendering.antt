-- The encoding of a change: actions that do to the screen of a terminal of some size what the change does.
use Rattle.std.specs.Prelude.{ℕ, Bool, ◌&&◌, ◌==◌, nat_le, min, List, [], ◌∷◌, ◌++◌, map, Option, Some, None}
use Rattle.std.specs.Prelude.{option_map, if◌then◌else◌}
use Rattle.cell_base.specs.declared.attributes.CursorVisibility.{CursorVisibility as Visibility}
use Rattle.cell_base.specs.declared.attributes.CursorVisibility.TheVariants.{Hidden, Visible}
use Rattle.screen_change.specs.ChangeValue.{ChangeValue, Attribute, AllAttributes, Text, ClearScreen, ClearToEndOfLine}
use Rattle.screen_change.specs.ChangeValue.{ClearToEndOfScreen, CursorPosition, CursorColor, CursorShape}
use Rattle.screen_change.specs.ChangeValue.{CursorVisibility, LineAttribute, ScrollRegionUp, ScrollRegionDown, Title}
use Rattle.csi_codec.specs.Actions as codec
use Rattle.csi_codec.specs.declared.cursors.Cursor.{Cursor}
use Rattle.csi_codec.specs.declared.cursors.Cursor.TheVariants as cursor
use Rattle.csi_codec.specs.declared.edits.Edit.{Edit}
use Rattle.csi_codec.specs.declared.edits.Edit.TheVariants as edit
use Rattle.csi_codec.specs.declared.edits.EraseInDisplay.TheVariants as display
use Rattle.csi_codec.specs.declared.edits.EraseInLine.TheVariants as line
use Rattle.csi_codec.specs.declared.modes.Mode.{Mode}
use Rattle.csi_codec.specs.declared.modes.Mode.TheVariants as mode
use Rattle.csi_codec.specs.declared.modes.DecPrivateMode.TheVariants as private
use Rattle.csi_codec.specs.declared.modes.DecPrivateModeCode.TheVariants as dec
use Rattle.escape_stream.specs.StreamAction.{StreamAction, csi}
use Rattle.terminal_render.specs.Pen.{attribute_action, pen_rendering, clear_rendering}
use Rattle.terminal_render.specs.Positions.{position_moves}
use Rattle.terminal_render.specs.Texts.{text_rendering, title_rendering}

abbrev pub edited : Edit → StreamAction
edited value = csi (codec.edit value)

abbrev pub moved : Cursor → StreamAction
moved value = csi (codec.cursor value)

-- whether a region has all rows; a region that goes past the last row ends there
abbrev pub is_whole : ℕ → ℕ → ℕ → Bool
is_whole height first size = first == 0 && nat_le height size

-- SU and SD (ECMA-48 8.3.147 and 8.3.113) move all rows; a region of fewer can't be encoded
unfoldable pub scroll_rendering : (ℕ → Edit) → ℕ → ℕ → ℕ → ℕ → Option (List StreamAction)
scroll_rendering scroll height first size count =
    if is_whole height first size then Some (if count == 0 then [] else edited (scroll (min count height)) ∷ [])
    else None

-- DECTCEM, DEC private mode 25 (xterm: DEC Private Mode Set)
abbrev pub visibility_mode : Visibility → Mode
visibility_mode Visible = mode.SetDecPrivateMode (private.Code dec.ShowCursor)
visibility_mode Hidden = mode.ResetDecPrivateMode (private.Code dec.ShowCursor)

-- The actions that encode a change for a terminal of a width and a height; `None` where no actions do what the change
-- does.
abbrev pub rendering : ChangeValue → ℕ → ℕ → Option (List StreamAction)
rendering (Text text) width height = text_rendering text
rendering (Title text) width height = title_rendering text
rendering (Attribute change) width height = option_map (λ action. action ∷ []) (attribute_action change)
rendering (AllAttributes attributes) width height = pen_rendering attributes
-- ED 2, ECMA-48 8.3.39
rendering (ClearScreen color) width height =
    clear_rendering color (edited (edit.EraseInDisplay display.EraseDisplay) ∷ moved (cursor.Position 1 1) ∷ [])
-- EL 0, 8.3.41
rendering (ClearToEndOfLine color) width height =
    clear_rendering color (edited (edit.EraseInLine line.EraseToEndOfLine) ∷ [])
-- ED 0
rendering (ClearToEndOfScreen color) width height =
    clear_rendering color (edited (edit.EraseInDisplay display.EraseToEndOfDisplay) ∷ [])
rendering (CursorPosition x y) width height = option_map (map moved) (position_moves width height x y)
rendering (CursorVisibility visibility) width height = Some (csi (codec.mode (visibility_mode visibility)) ∷ [])
rendering (ScrollRegionUp first size count) width height = scroll_rendering edit.ScrollUp height first size count
rendering (ScrollRegionDown first size count) width height = scroll_rendering edit.ScrollDown height first size count
rendering (CursorColor color) width height = None
rendering (CursorShape shape) width height = None
rendering (LineAttribute size) width height = None

-- other actions and then the encoding, if there is one
abbrev pub appended : List StreamAction → Option (List StreamAction) → Option (List StreamAction)
appended before found = option_map (λ actions. before ++ actions) found
