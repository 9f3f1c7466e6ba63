-- What the profile xterm has for an action, where that differs from the table. Moves, and LF, NEL, RI, SU, SD, EL 0 and
-- ED 0 where they do what they do in the table, are asked for as the table's: so a viewer is sent what it is sent for a
-- plain terminal.
use Rattle.std.specs.Prelude.{ℕ, ◌+◌, ◌-◌, ◌*◌, ◌==◌, ◌&&◌, ◌||◌, Bool, true, false, not, nat_le, nat_lt, min}
use Rattle.std.specs.Prelude.{length, Option, Some, None, if◌then◌else◌}
use Rattle.cell_base.specs.Screen.{Screen, height}
use Rattle.csi_codec.specs.Actions as codec
use Rattle.csi_codec.specs.declared.cursors.Cursor.{Cursor}
use Rattle.csi_codec.specs.declared.cursors.Cursor.TheVariants as cursor
use Rattle.csi_codec.specs.declared.cursors.TabulationClear.{TabulationClear}
use Rattle.csi_codec.specs.declared.cursors.TabulationClear.TheVariants as clear
use Rattle.csi_codec.specs.declared.edits.Edit.{Edit}
use Rattle.csi_codec.specs.declared.edits.Edit.TheVariants as edit
use Rattle.csi_codec.specs.declared.edits.EraseInDisplay.TheVariants as display
use Rattle.csi_codec.specs.declared.edits.EraseInLine.TheVariants as line
use Rattle.csi_codec.specs.declared.escapes.Esc.TheVariants as esc
use Rattle.csi_codec.specs.declared.escapes.EscCode.{EscCode}
use Rattle.csi_codec.specs.declared.escapes.EscCode.TheVariants as code
use Rattle.escape_stream.specs.StreamAction.{StreamAction}
use Rattle.escape_stream.specs.StreamAction as stream
use Rattle.terminal_table.specs.Functions as table
use Rattle.terminal_table.specs.Modes.{Modes, Region, region_on}
use Rattle.terminal_table.specs.ModeRequests.{home_function, mode_request}
use Rattle.terminal_table.specs.OtherRequests.{device_request, other_request, primary_reply}
use Rattle.terminal_table.specs.Request.{Request, Table, Xterm, Sets, SetsAlone, Switches, Repeats, Aligns, Replies}
use Rattle.terminal_table.specs.Request.{Nothing, ToReset, ToRegion, ToStop, ToNoStops, ToFirst, ToSecond, ToShift}
use Rattle.terminal_table.specs.Request.{ToFlag, ToStyle}
use Rattle.terminal_table.specs.Charsets.{Ascii, British, Graphics}
use Rattle.terminal_table.specs.Feeds.{line_feed_request, next_line_request, scrolls_plainly}
use Rattle.terminal_table.specs.Screens as screens
use Rattle.terminal_table.specs.Screens.{is_pending}
use Rattle.terminal_table.specs.Steps.{active_column, position_text}
use Rattle.terminal_table.specs.TabStops.{stops_back, stops_on}
use Rattle.terminal_table.specs.declared.flags.Flag.TheVariants.{ApplicationKeypad}
use Rattle.terminal_table.specs.Xterm as own
use Rattle.terminal_table.specs.Xterm.{XtermFunction}
use Rattle.xterm_table.specs.RowMoves.{is_between}

-- ---- the row before; the region scrolls at its top

abbrev pub reverse_index_request : Region → Screen → Request  -- RI
reverse_index_request region screen =
    if screen.row == region.top then
    (if not (is_pending screen) && scrolls_plainly region screen then Table table.ReverseIndex
    else Xterm (own.ReverseIndex region))
    else Table (table.Moves (table.Up 1))

-- ---- tab stops

abbrev pub tab_request : Modes → Screen → ℕ → Request  -- HT, CHT: nothing, where a wrap is pending
tab_request modes screen n =
    if is_pending screen then Nothing
    else Table (table.Moves (table.ToColumn (stops_on modes.stops screen.width screen.column n + 1)))

abbrev pub tab_back_request : Modes → Screen → ℕ → Request  -- CBT
tab_back_request modes screen n =
    Table (table.Moves (table.ToColumn (stops_back modes.stops (active_column screen) n + 1)))

abbrev pub clear_request : Screen → TabulationClear → Option Request  -- TBC
clear_request screen clear.ClearCharacterTabStopAtActivePosition =
    Some (SetsAlone (ToStop (active_column screen) false))
clear_request screen clear.ClearAllCharacterTabStops = Some (SetsAlone (ToNoStops screen.width))
clear_request screen _ = None

-- ---- scrolls, and lines

abbrev pub scroll_up_request : Region → Screen → ℕ → Request  -- SU
scroll_up_request region screen n =
    if scrolls_plainly region screen then Table (table.ScrollUp n) else Xterm (own.ScrollUp region n)

abbrev pub scroll_down_request : Region → Screen → ℕ → Request  -- SD
scroll_down_request region screen n =
    if scrolls_plainly region screen then Table (table.ScrollDown n) else Xterm (own.ScrollDown region n)

-- IL and DL: nothing outside of the region
abbrev pub where_between : Region → Screen → Request → Option Request
where_between region screen request =
    if is_between region.top region.bottom screen then Some request else None

-- ---- erasures to an end: from a pending wrap the last column is erased, and the wrap ends; the table has the rest

abbrev pub where_pending : Screen → XtermFunction → Option Request
where_pending screen function = if is_pending screen then Some (Xterm function) else None

-- ---- moves of the cursor stop at a margin that they come to from within the region, or from beyond its other margin

-- how far up; and how far down
abbrev pub rows_above : Region → Screen → ℕ → ℕ
rows_above region screen n = if nat_le region.top screen.row then min n (screen.row - region.top) else n

abbrev pub rows_below : Region → Screen → ℕ → ℕ
rows_below region screen n = if nat_le screen.row region.bottom then min n (region.bottom - screen.row) else n

-- ---- lines that count from the region's top (DECOM): a line past its bottom is that one

-- the line of the screen, counted from 1, that a line of the region is
abbrev pub line_within : Region → ℕ → ℕ
line_within region line = min (region.top + line) (region.bottom + 1)

-- what is asked for where lines count so; the table has the rest
abbrev pub where_origin : Bool → Request → Option Request
where_origin true request = Some request
where_origin false request = None

-- CUP and HVP; VPA
abbrev pub position_request : Modes → Region → ℕ → ℕ → Option Request
position_request modes region line column =
    where_origin modes.origin (Table (table.Moves (table.ToPosition (line_within region line) column)))

abbrev pub line_request : Modes → Region → ℕ → Option Request
line_request modes region line =
    where_origin modes.origin (Table (table.Moves (table.ToLine (line_within region line))))

-- DSR 6
abbrev pub report_request : Modes → Region → Screen → Option Request
report_request modes region screen =
    where_origin modes.origin (Replies (position_text (screen.row - region.top) (active_column screen)))

-- ---- margins

-- DECSTBM: the region from the line `top` to the line `bottom`, counted from 1, or to the last line; it has at least
-- two rows, and the cursor goes home. Other lines change nothing.
abbrev pub margins_request : Modes → Screen → ℕ → ℕ → Option Request
margins_request modes screen top bottom =
    let last = min bottom (height screen) in
    let region : Region = record { top = top - 1; bottom = last - 1 } in
    if nat_lt top last then Some (Sets (ToRegion region) (home_function modes.origin region)) else None

-- ---- all actions

abbrev pub control_request : Modes → Region → Screen → ℕ → Option Request
control_request modes region screen number =
    if number == 9 then Some (tab_request modes screen 1)  -- HT
    else if number == 10 || number == 11 || number == 12 then  -- LF, VT, FF
    Some (if modes.newline then next_line_request region screen else line_feed_request region screen)
    else if number == 14 then Some (SetsAlone (ToShift true))  -- SO
    else if number == 15 then Some (SetsAlone (ToShift false))  -- SI
    else None

-- a set is designated as G0 or G1
abbrev pub designation_request : EscCode → Option Request
designation_request code.DecLineDrawingG0 = Some (SetsAlone (ToFirst Graphics))
designation_request code.UkCharacterSetG0 = Some (SetsAlone (ToFirst British))
designation_request code.AsciiCharacterSetG0 = Some (SetsAlone (ToFirst Ascii))
designation_request code.DecLineDrawingG1 = Some (SetsAlone (ToSecond Graphics))
designation_request code.UkCharacterSetG1 = Some (SetsAlone (ToSecond British))
designation_request code.AsciiCharacterSetG1 = Some (SetsAlone (ToSecond Ascii))
designation_request _ = None

-- memory lock: ESC l takes the rows above the cursor's out of the region, ESC m takes them in again (xterm)
abbrev pub lock_request : Region → Screen → ℕ → Option Request
lock_request region screen final =
    if final == 0x6C && nat_lt screen.row region.bottom then
    Some (SetsAlone (ToRegion (record region { top = screen.row })))
    else if final == 0x6D then Some (SetsAlone (ToRegion (record region { top = 0 })))
    else None

-- a pair without a name: memory lock; or another set, which is taken for ASCII, after ESC ( or ESC )
abbrev pub other_escape : Region → Screen → Option ℕ → ℕ → Option Request
other_escape region screen None final = lock_request region screen final
other_escape region screen (Some intermediate) final =
    if intermediate == 0x28 then Some (SetsAlone (ToFirst Ascii))
    else if intermediate == 0x29 then Some (SetsAlone (ToSecond Ascii))
    else None

abbrev pub escape_request : Region → Screen → EscCode → Option Request
escape_request region screen code.Index = Some (line_feed_request region screen)
escape_request region screen code.NextLine = Some (next_line_request region screen)
escape_request region screen code.ReverseIndex = Some (reverse_index_request region screen)
escape_request region screen code.HorizontalTabSet = Some (SetsAlone (ToStop (active_column screen) true))
escape_request region screen code.FullReset = Some (Sets ToReset table.FullReset)
escape_request region screen code.DecSaveCursorPosition = Some (Switches screens.SaveCursor)  -- DECSC
escape_request region screen code.DecRestoreCursorPosition = Some (Switches screens.RestoreCursor)  -- DECRC
escape_request region screen code.DecScreenAlignmentDisplay = Some Aligns  -- DECALN
escape_request region screen code.DecApplicationKeyPad = Some (SetsAlone (ToFlag ApplicationKeypad true))  -- DECKPAM
escape_request region screen code.DecNormalKeyPad = Some (SetsAlone (ToFlag ApplicationKeypad false))  -- DECKPNM
escape_request region screen code.ReturnTerminalId = Some (Replies primary_reply)  -- DECID
escape_request region screen known = designation_request known

-- moves by rows
abbrev pub rows_request : Modes → Region → Screen → Cursor → Option Request
rows_request modes region screen (cursor.Up n) = Some (Table (table.Moves (table.Up (rows_above region screen n))))
rows_request modes region screen (cursor.Down n) = Some (Table (table.Moves (table.Down (rows_below region screen n))))
rows_request modes region screen (cursor.PrecedingLine n) =
    Some (Table (table.Moves (table.PrecedingLine (rows_above region screen n))))
rows_request modes region screen (cursor.NextLine n) =
    Some (Table (table.Moves (table.NextLine (rows_below region screen n))))
rows_request modes region screen (cursor.LinePositionBackward n) =  -- VPB
    where_origin modes.origin (Table (table.Moves (table.Up (rows_above region screen n))))
rows_request modes region screen (cursor.LinePositionForward n) =  -- VPR
    where_origin modes.origin (Table (table.Moves (table.Down (rows_below region screen n))))
rows_request modes region screen _ = None

abbrev pub cursor_request : Modes → Region → Screen → Cursor → Option Request
cursor_request modes region screen (cursor.LinePositionAbsolute line) = line_request modes region line
cursor_request modes region screen (cursor.Position line column) = position_request modes region line column
cursor_request modes region screen (cursor.CharacterAndLinePosition line column) =
    position_request modes region line column
cursor_request modes region screen (cursor.SetTopAndBottomMargins top bottom) =
    margins_request modes screen top bottom
cursor_request modes region screen cursor.SaveCursor = Some (Switches screens.SaveCursor)  -- SCOSC
cursor_request modes region screen cursor.RestoreCursor = Some (Switches screens.RestoreCursor)  -- SCORC
cursor_request modes region screen cursor.RequestActivePositionReport = report_request modes region screen
cursor_request modes region screen (cursor.ForwardTabulation n) = Some (tab_request modes screen n)
cursor_request modes region screen (cursor.BackwardTabulation n) = Some (tab_back_request modes screen n)
cursor_request modes region screen (cursor.TabulationClear which) = clear_request screen which
cursor_request modes region screen (cursor.CursorStyle style) = Some (SetsAlone (ToStyle style))  -- DECSCUSR
cursor_request modes region screen value = rows_request modes region screen value

-- REP: the last cluster of the run before is put so many times more, at most once for each column of each row
abbrev pub repeat_request : Modes → Screen → ℕ → Option Request
repeat_request modes screen n =
    if length modes.last == 0 then None
    else Some (Repeats (min n (screen.width * height screen)))

abbrev pub edit_request : Modes → Region → Screen → Edit → Option Request
edit_request modes region screen (edit.EraseCharacter n) = Some (Xterm (own.EraseCharacters n))  -- ECH, ECMA-48 8.3.38
edit_request modes region screen (edit.InsertCharacter n) = Some (Xterm (own.InsertCharacters n))  -- ICH, 8.3.64
edit_request modes region screen (edit.DeleteCharacter n) = Some (Xterm (own.DeleteCharacters n))  -- DCH, 8.3.26
edit_request modes region screen (edit.EraseInLine line.EraseToStartOfLine) =  -- EL 1
    Some (Xterm own.EraseToStartOfLine)
edit_request modes region screen (edit.EraseInLine line.EraseToEndOfLine) =  -- EL 0, 8.3.41
    where_pending screen own.EraseToEndOfLine
edit_request modes region screen (edit.EraseInDisplay display.EraseToStartOfDisplay) =  -- ED 1
    Some (Xterm own.EraseToStartOfDisplay)
edit_request modes region screen (edit.EraseInDisplay display.EraseToEndOfDisplay) =  -- ED 0, 8.3.39
    where_pending screen own.EraseToEndOfDisplay
edit_request modes region screen (edit.ScrollUp n) = Some (scroll_up_request region screen n)
edit_request modes region screen (edit.ScrollDown n) = Some (scroll_down_request region screen n)
edit_request modes region screen (edit.InsertLine n) =  -- IL, 8.3.67
    where_between region screen (Xterm (own.InsertLines region n))
edit_request modes region screen (edit.DeleteLine n) =  -- DL, 8.3.32
    where_between region screen (Xterm (own.DeleteLines region n))
edit_request modes region screen (edit.Repeat n) = repeat_request modes screen n
edit_request modes region screen _ = None

-- what an action asks for, if the table alone doesn't say it
unfoldable pub xterm_request : Modes → Screen → StreamAction → Option Request
xterm_request modes screen (stream.control number) =
    control_request modes (region_on modes screen) screen number
xterm_request modes screen (stream.esc (esc.Code known)) = escape_request (region_on modes screen) screen known
xterm_request modes screen (stream.esc (esc.Unspecified intermediate final)) =
    other_escape (region_on modes screen) screen intermediate final
xterm_request modes screen (stream.csi (codec.cursor value)) =
    cursor_request modes (region_on modes screen) screen value
xterm_request modes screen (stream.csi (codec.edit value)) =
    edit_request modes (region_on modes screen) screen value
xterm_request modes screen (stream.csi (codec.mode value)) = mode_request modes (region_on modes screen) value
xterm_request modes screen (stream.csi (codec.device value)) = device_request value
xterm_request modes screen (stream.csi (codec.unspecified tokens truncated final)) =
    if truncated then None else other_request modes (region_on modes screen) screen final tokens
xterm_request modes screen _ = None
