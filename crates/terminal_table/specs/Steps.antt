-- The effect of each control function on a state.
use Rattle.std.specs.Prelude.{ℕ, ◌+◌, ◌-◌, ◌*◌, ◌/◌, min, ◌==◌, List, [], ◌∷◌, ◌++◌, length, take, drop, map, Option}
use Rattle.std.specs.Prelude.{Some, None, slice_index_or, slice_set, decimal, if◌then◌else◌}
use Rattle.cell_base.specs.declared.color.ColorAttribute.{ColorAttribute}
use Rattle.cell_base.specs.Attributes.{Attributes, plain}
use Rattle.cell_base.specs.Color.{attribute_of}
use Rattle.cell_base.specs.Link.{Link}
use Rattle.cell_base.specs.Row.{Row, plain_row, closed_end}
use Rattle.cell_base.specs.Screen.{Screen, height, new_screen, line_feed, carriage_return}
use Rattle.csi_codec.specs.declared.rendition.Sgr.{Sgr}
use Rattle.csi_codec.specs.declared.rendition.Sgr.TheVariants as sgr
use Rattle.screen_effects.specs.Effect.{blank_row}
use Rattle.screen_effects.specs.Regions.{moved_up, moved_down}
use Rattle.terminal_table.specs.Modes.{SavedCursor}
use Rattle.terminal_table.specs.State.{State, cursor_of, home_cursor}
use Rattle.terminal_table.specs.Functions.{Move, Up, Down, Left, Right, NextTab, NextLine, PrecedingLine, ToColumn}
use Rattle.terminal_table.specs.Functions.{ToLine, ToPosition, ControlFunction, Moves, LineFeed, CarriageReturn}
use Rattle.terminal_table.specs.Functions.{NextRow}
use Rattle.terminal_table.specs.Functions.{ReverseIndex, EraseToEndOfDisplay, EraseDisplay, EraseToEndOfLine, EraseLine}
use Rattle.terminal_table.specs.Functions.{ScrollUp, ScrollDown, Rendition, Hyperlink, Title, ShowCursor, SaveCursor}
use Rattle.terminal_table.specs.Functions.{RestoreCursor, FullReset, ReportStatus, ReportPosition}

-- ---- moves

-- the cursor's column; where a wrap is pending, the last one
abbrev pub active_column : Screen → ℕ
active_column screen = min screen.column (screen.width - 1)

-- the column and the row that a move leads to from a column and a row, before the screen's edges stop it
abbrev pub target : Move → ℕ → ℕ → ℕ × ℕ
target (Up n) column row = (column, row - n)  -- CUU, VPB
target (Down n) column row = (column, row + n)  -- CUD, VPR
target (Left n) column row = (column - n, row)  -- CUB, HPB, BS
target (Right n) column row = (column + n, row)  -- CUF, HPR
target NextTab column row = (8 * (column / 8 + 1), row)  -- HT
target (NextLine n) column row = (0, row + n)  -- CNL
target (PrecedingLine n) column row = (0, row - n)  -- CPL
target (ToColumn name) column row = (name - 1, row)  -- CHA, HPA
target (ToLine name) column row = (column, name - 1)  -- VPA
target (ToPosition line name) column row = (name - 1, line - 1)  -- CUP, HVP

-- the cursor at a column and a row, at most the last ones; so no wrap is pending
abbrev pub at_position : ℕ × ℕ → Screen → Screen
at_position at screen = record screen { column = min at.0 (screen.width - 1); row = min at.1 (height screen - 1) }

abbrev pub moved : Move → Screen → Screen
moved move screen = at_position (target move (active_column screen) screen.row) screen

-- RI: the row above; at the first row all rows move down by one, and the column is kept, also where a wrap is pending
abbrev pub reverse_index : Screen → Screen
reverse_index screen =
    if screen.row == 0 then record screen { rows = moved_down (plain_row screen.width) 1 screen.rows }
    else moved (Up 1) screen

-- ---- erasures: columns become blanks of the pen's background; the pen is kept

-- a row whose columns from one on are erased; a wide text that is cut there becomes a blank with its own attributes
abbrev pub erased_after : ℕ → ColorAttribute → Row → Row
erased_after column color row = closed_end (take column row) ++ blank_row (length row - column) color

-- EL 0: of the cursor's row the columns from the cursor on; none where a wrap is pending
abbrev pub end_of_line_erased : Screen → Screen
end_of_line_erased screen =
    record screen {
      rows = slice_set screen.rows screen.row
          (erased_after screen.column screen.pen.background (slice_index_or screen.rows screen.row []));
    }

-- a blank row for each of some rows
abbrev pub blanks_for : Screen → List Row → List Row
blanks_for screen rows = map (λ _. blank_row screen.width screen.pen.background) rows

-- ED 0, after EL 0: all rows below the cursor's
abbrev pub rows_below_erased : Screen → Screen
rows_below_erased screen =
    record screen { rows = take (screen.row + 1) screen.rows ++ blanks_for screen (drop (screen.row + 1) screen.rows) }

-- EL 2 and ED 2: the whole row, or all of them; no wrap is pending after it
abbrev pub line_erased : Screen → Screen
line_erased screen =
    record screen {
      rows = slice_set screen.rows screen.row (blank_row screen.width screen.pen.background);
      column = active_column screen;
    }

abbrev pub display_erased : Screen → Screen
display_erased screen = record screen { rows = blanks_for screen screen.rows; column = active_column screen }

-- ---- the pen

-- SGR sets the attribute that it names; a reset leaves the link, which no SGR sets
abbrev pub with_rendition : Sgr → Attributes → Attributes
with_rendition sgr.Reset pen = record plain { hyperlink = pen.hyperlink }
with_rendition (sgr.Intensity value) pen = record pen { intensity = value }
with_rendition (sgr.Underline value) pen = record pen { underline = value }
with_rendition (sgr.UnderlineColor value) pen = record pen { underline_color = attribute_of value }
with_rendition (sgr.Blink value) pen = record pen { blink = value }
with_rendition (sgr.Italic value) pen = record pen { italic = value }
with_rendition (sgr.Inverse value) pen = record pen { reverse = value }
with_rendition (sgr.Invisible value) pen = record pen { invisible = value }
with_rendition (sgr.StrikeThrough value) pen = record pen { strikethrough = value }
with_rendition (sgr.Font value) pen = pen
with_rendition (sgr.Foreground value) pen = record pen { foreground = attribute_of value }
with_rendition (sgr.Background value) pen = record pen { background = attribute_of value }
with_rendition (sgr.Overline value) pen = record pen { overline = value }
with_rendition (sgr.VerticalAlign value) pen = record pen { vertical_align = value }

-- OSC 8 sets the pen's link, or removes it
abbrev pub with_link : Option Link → Attributes → Attributes
with_link link pen = record pen { hyperlink = link }

abbrev pub on_pen : (Attributes → Attributes) → Screen → Screen
on_pen change screen = record screen { pen = change screen.pen }

-- ---- saved cursors, and a full reset

-- DECRC, SCORC: the cursor at the saved position, at most the last column and row, so no wrap is pending; and its pen
abbrev pub with_cursor : SavedCursor → Screen → Screen
with_cursor cursor screen = record (at_position (cursor.column, cursor.row) screen) { pen = cursor.pen }

-- the cursor that DECRC and SCORC restore: home and a plain pen where none was saved
abbrev pub cursor_to_restore : Option SavedCursor → SavedCursor
cursor_to_restore None = home_cursor
cursor_to_restore (Some cursor) = cursor

-- RIS: a new screen, except for its title, which stays
abbrev pub reset_screen : Screen → Screen
reset_screen screen = record (new_screen screen.width (height screen)) { title = screen.title }

-- ---- replies

-- to DSR 5, ECMA-48 8.3.35: ESC [ 0 n, ready
abbrev pub status_reply : List ℕ
status_reply = 27 ∷ 91 ∷ 48 ∷ 110 ∷ []

-- CPR, ECMA-48 8.3.14: ESC [ line ; column R, the line and the column of a row and a column, which count from 0
abbrev pub position_text : ℕ → ℕ → List ℕ
position_text row column = 27 ∷ 91 ∷ decimal (row + 1) ++ 59 ∷ decimal (column + 1) ++ 82 ∷ []

-- to DSR 6: the cursor's
abbrev pub position_reply : Screen → List ℕ
position_reply screen = position_text screen.row (active_column screen)

-- ---- the table

-- the screen after a control function
abbrev pub screen_step : ControlFunction → Option SavedCursor → Screen → Screen
screen_step (Moves move) saved screen = moved move screen
screen_step LineFeed saved screen = line_feed screen  -- LF, VT, FF, IND
screen_step CarriageReturn saved screen = carriage_return screen  -- CR
screen_step NextRow saved screen = line_feed (carriage_return screen)  -- NEL
screen_step ReverseIndex saved screen = reverse_index screen  -- RI
screen_step EraseToEndOfDisplay saved screen = rows_below_erased (end_of_line_erased screen)  -- ED 0
screen_step EraseDisplay saved screen = display_erased screen  -- ED 2
screen_step EraseToEndOfLine saved screen = end_of_line_erased screen  -- EL 0
screen_step EraseLine saved screen = line_erased screen  -- EL 2
screen_step (ScrollUp n) saved screen =  -- SU
    record screen { rows = moved_up (plain_row screen.width) (min n (height screen)) screen.rows }
screen_step (ScrollDown n) saved screen =  -- SD
    record screen { rows = moved_down (plain_row screen.width) (min n (height screen)) screen.rows }
screen_step (Rendition value) saved screen = on_pen (with_rendition value) screen  -- SGR
screen_step (Hyperlink link) saved screen = on_pen (with_link link) screen  -- OSC 8
screen_step (Title text) saved screen = record screen { title = text }  -- OSC 0, OSC 2
screen_step (ShowCursor shown) saved screen = record screen { visible = shown }  -- DECTCEM
screen_step SaveCursor saved screen = screen  -- DECSC, SCOSC
screen_step RestoreCursor saved screen = with_cursor (cursor_to_restore saved) screen  -- DECRC, SCORC
screen_step FullReset saved screen = reset_screen screen  -- RIS
screen_step ReportStatus saved screen = screen  -- DSR 5
screen_step ReportPosition saved screen = screen  -- DSR 6

-- the saved cursor after a control function: only DECSC (SCOSC) and RIS change it
abbrev pub saved_step : ControlFunction → Option SavedCursor → Screen → Option SavedCursor
saved_step SaveCursor saved screen = Some (cursor_of screen)
saved_step FullReset saved screen = None
saved_step _ saved screen = saved

-- the replies after a control function: a new reply follows those that were not yet taken
abbrev pub reply_step : ControlFunction → List ℕ → Screen → List ℕ
reply_step ReportStatus replies screen = replies ++ status_reply
reply_step ReportPosition replies screen = replies ++ position_reply screen
reply_step _ replies screen = replies

-- the step of a control function
abbrev pub step : ControlFunction → State → State
step function state = record state {
  screen = screen_step function state.saved state.screen;
  saved = saved_step function state.saved state.screen;
  replies = reply_step function state.replies state.screen;
}

-- the step of the control function that an action asks for, if it asks for one
abbrev pub step_of : Option ControlFunction → State → State
step_of None state = state
step_of (Some function) state = step function state
