-- What a terminal is asked for is spelled where the table's function is: what xterm itself has for an action holds
-- nothing that needs an encoding.
use Rattle.std.proofs.Common.{ℕ, ◌+◌, ◌-◌, ◌*◌, Bool, true, false, List, [], ◌∷◌, length}
use Rattle.std.specs.Prelude.{⊤, ◌==◌, ◌&&◌, ◌||◌, not, nat_lt, min, Option, Some, None, option_map, if◌then◌else◌}
use Rattle.std.specs.Option.{option_or}
use Rattle.cell_base.specs.Screen.{Screen, height}
use Rattle.csi_codec.specs.Actions as codec
use Rattle.csi_codec.specs.Modes.{ansi_mode_of, dec_mode_of}
use Rattle.csi_codec.specs.Parameters.{is_number, number_within}
use Rattle.csi_codec.specs.declared.cursors.Cursor.{Cursor}
use Rattle.csi_codec.specs.declared.cursors.Cursor.TheVariants as cursor
use Rattle.csi_codec.specs.declared.cursors.TabulationClear.{TabulationClear}
use Rattle.csi_codec.specs.declared.cursors.TabulationClear.TheVariants as clear
use Rattle.csi_codec.specs.declared.devices.Device.{Device}
use Rattle.csi_codec.specs.declared.devices.Device.TheVariants as device
use Rattle.csi_codec.specs.declared.edits.Edit.{Edit}
use Rattle.csi_codec.specs.declared.edits.Edit.TheVariants as edit
use Rattle.csi_codec.specs.declared.edits.EraseInDisplay.TheVariants as display
use Rattle.csi_codec.specs.declared.edits.EraseInLine.TheVariants as line
use Rattle.csi_codec.specs.declared.escapes.Esc.TheVariants as esc
use Rattle.csi_codec.specs.declared.escapes.EscCode.{EscCode}
use Rattle.csi_codec.specs.declared.escapes.EscCode.TheVariants as code
use Rattle.csi_codec.specs.declared.modes.DecPrivateMode.{DecPrivateMode}
use Rattle.csi_codec.specs.declared.modes.DecPrivateMode.TheVariants as private
use Rattle.csi_codec.specs.declared.modes.DecPrivateModeCode.{DecPrivateModeCode}
use Rattle.csi_codec.specs.declared.modes.DecPrivateModeCode.TheVariants as dec
use Rattle.csi_codec.specs.declared.modes.Mode.{Mode}
use Rattle.csi_codec.specs.declared.modes.Mode.TheVariants as mode
use Rattle.csi_codec.specs.declared.modes.TerminalMode.{TerminalMode}
use Rattle.csi_codec.specs.declared.modes.TerminalMode.TheVariants as ansi
use Rattle.csi_codec.specs.declared.modes.TerminalModeCode.TheVariants as terminal
use Rattle.csi_codec.specs.declared.parameters.CsiParam.{CsiParam}
use Rattle.csi_codec.specs.declared.parameters.CsiParam.TheVariants.{Integer, P}
use Rattle.escape_stream.specs.StreamAction.{StreamAction}
use Rattle.escape_stream.specs.StreamAction as stream
use Rattle.terminal_table.specs.Charsets.{Ascii}
use Rattle.terminal_table.specs.Feeds.{feeds_plainly, line_feed_request, next_line_request, scrolls_plainly}
use Rattle.terminal_table.specs.Functions as table
use Rattle.terminal_table.specs.Functions.{ControlFunction, function_of}
use Rattle.terminal_table.specs.ModeRequests.{flag_setting, home_function, mode_request, private_request, private_state, reset_request, set_request, standard_request, standard_state, where_shown}
use Rattle.terminal_table.specs.Modes.{Modes, Region, region_on}
use Rattle.terminal_table.specs.OtherRequests.{device_request, extended_position_request, extended_position_text, is_title, mode_report, mode_report_request, other_request, private_report, reported_row, secondary_reply, secondary_request, title_function, title_request}
use Rattle.terminal_table.specs.Request.{Request, Table, Xterm, Sets, SetsAlone, Switches, Repeats, Aligns, Replies, Nothing, Setting, ToRegion, ToFirst, ToSecond, ToShift}
use Rattle.terminal_table.specs.Requests.{own_first, own_request, request_of}
use Rattle.terminal_table.specs.Screens as screens
use Rattle.terminal_table.specs.Screens.{ScreenFunction, is_pending}
use Rattle.terminal_table.specs.Steps.{active_column, position_text}
use Rattle.terminal_table.specs.TabStops.{stops_on}
use Rattle.terminal_table.specs.Xterm as own
use Rattle.terminal_table.specs.XtermRequests.{clear_request, control_request, cursor_request, designation_request, edit_request, escape_request, line_within, lock_request, other_escape, repeat_request, reverse_index_request, rows_above, rows_below, rows_request, tab_request, where_origin, xterm_request}
use Rattle.xterm_table.specs.RowMoves.{is_between}
use Rattle.terminal_render.specs.Spelling.{IsSpelledFunction, IsSpelledRequest}

abbrev pub IsSpelledAsked : Option Request → Type 0
IsSpelledAsked None = ⊤
IsSpelledAsked (Some (Table function)) = IsSpelledFunction function
IsSpelledAsked (Some (Xterm function)) = ⊤
IsSpelledAsked (Some (Sets setting function)) = IsSpelledFunction function
IsSpelledAsked (Some (SetsAlone setting)) = ⊤
IsSpelledAsked (Some (Switches function)) = ⊤
IsSpelledAsked (Some (Repeats count)) = ⊤
IsSpelledAsked (Some Aligns) = ⊤
IsSpelledAsked (Some (Replies text)) = ⊤
IsSpelledAsked (Some Nothing) = ⊤

-- either of two requests
pub either : (b : Bool) (x y : Request) → IsSpelledAsked (Some x) → IsSpelledAsked (Some y) → IsSpelledAsked (Some (if b then x else y))
either true x y p q = p
either false x y p q = q

-- a request or none
pub maybe : (b : Bool) (x : Request) → IsSpelledAsked (Some x) → IsSpelledAsked (if b then Some x else None)
maybe true x p = p
maybe false x p = tt

-- one of two, if there is one; a setting, a function of the screens or a reply, if there is one
or_asked : (a b : Option Request) → IsSpelledAsked a → IsSpelledAsked b → IsSpelledAsked (option_or a b)
or_asked None b p q = q
or_asked (Some a) b p q = p

setting_asked : (found : Option Setting) → IsSpelledAsked (option_map SetsAlone found)
setting_asked None = tt
setting_asked (Some setting) = tt

switch_asked : (found : Option ScreenFunction) → IsSpelledAsked (option_map Switches found)
switch_asked None = tt
switch_asked (Some function) = tt

reply_asked : (text : ℕ → List ℕ) (found : Option ℕ) → IsSpelledAsked (option_map (λ number. Replies (text number)) found)
reply_asked text None = tt
reply_asked text (Some number) = tt

feed_asked : (r : Region) (s : Screen) → IsSpelledAsked (Some (line_feed_request r s))
feed_asked r s = either (not (is_pending s) && feeds_plainly r s) (Table table.LineFeed) (Xterm (own.LineFeed r)) tt tt

pub next_asked : (r : Region) (s : Screen) → IsSpelledAsked (Some (next_line_request r s))
next_asked r s = either (feeds_plainly r s) (Table table.NextRow) (Xterm (own.NextLine r)) tt tt

reverse_asked : (r : Region) (s : Screen) → IsSpelledAsked (Some (reverse_index_request r s))
reverse_asked r s =
    let plain : Bool = not (is_pending s) && scrolls_plainly r s in
    either (s.row == r.top) (if plain then Table table.ReverseIndex else Xterm (own.ReverseIndex r)) (Table (table.Moves (table.Up 1)))
    (either plain (Table table.ReverseIndex) (Xterm (own.ReverseIndex r)) tt tt) tt

tab_asked : (m : Modes) (s : Screen) (n : ℕ) → IsSpelledAsked (Some (tab_request m s n))
tab_asked m s n = either (is_pending s) Nothing (Table (table.Moves (table.ToColumn (stops_on m.stops s.width s.column n + 1)))) tt tt

line_asked : (m : Modes) (r : Region) (s : Screen) → IsSpelledAsked (Some (if m.newline then next_line_request r s else line_feed_request r s))
line_asked m r s = either m.newline (next_line_request r s) (line_feed_request r s) (next_asked r s) (feed_asked r s)

control_asked : (m : Modes) (r : Region) (s : Screen) (n : ℕ) → IsSpelledAsked (control_request m r s n)
control_asked m r s n = by_tests (n == 9) (n == 10 || n == 11 || n == 12) (n == 14) (n == 15)
  where
    by_tests : (tabs feeds out back : Bool) → IsSpelledAsked (if tabs then Some (tab_request m s 1) else if feeds then Some (if m.newline then next_line_request r s else line_feed_request r s) else if out then Some (SetsAlone (ToShift true)) else if back then Some (SetsAlone (ToShift false)) else None)
    by_tests true feeds out back = tab_asked m s 1
    by_tests false true out back = line_asked m r s
    by_tests false false true back = tt
    by_tests false false false true = tt
    by_tests false false false false = tt

lock_asked : (r : Region) (s : Screen) (final : ℕ) → IsSpelledAsked (lock_request r s final)
lock_asked r s final = by_tests (final == 0x6C && nat_lt s.row r.bottom) (final == 0x6D)
  where
    by_tests : (lock unlock : Bool) → IsSpelledAsked (if lock then Some (SetsAlone (ToRegion (record r { top = s.row }))) else if unlock then Some (SetsAlone (ToRegion (record r { top = 0 }))) else None)
    by_tests true unlock = tt
    by_tests false true = tt
    by_tests false false = tt

other_asked : (r : Region) (s : Screen) (intermediate : Option ℕ) (final : ℕ) → IsSpelledAsked (other_escape r s intermediate final)
other_asked r s None final = lock_asked r s final
other_asked r s (Some byte) final = by_tests (byte == 0x28) (byte == 0x29)
  where
    by_tests : (first second : Bool) → IsSpelledAsked (if first then Some (SetsAlone (ToFirst Ascii)) else if second then Some (SetsAlone (ToSecond Ascii)) else None)
    by_tests true second = tt
    by_tests false true = tt
    by_tests false false = tt

designation_asked : (known : EscCode) → IsSpelledAsked (designation_request known)
designation_asked code.DecLineDrawingG0 = tt
designation_asked code.UkCharacterSetG0 = tt
designation_asked code.AsciiCharacterSetG0 = tt
designation_asked code.DecLineDrawingG1 = tt
designation_asked code.UkCharacterSetG1 = tt
designation_asked code.AsciiCharacterSetG1 = tt
designation_asked _ = tt

escape_asked : (r : Region) (s : Screen) (known : EscCode) → IsSpelledAsked (escape_request r s known)
escape_asked r s code.Index = feed_asked r s
escape_asked r s code.NextLine = next_asked r s
escape_asked r s code.ReverseIndex = reverse_asked r s
escape_asked r s code.HorizontalTabSet = tt
escape_asked r s code.FullReset = tt
escape_asked r s code.DecSaveCursorPosition = tt
escape_asked r s code.DecRestoreCursorPosition = tt
escape_asked r s code.DecScreenAlignmentDisplay = tt
escape_asked r s code.DecApplicationKeyPad = tt
escape_asked r s code.DecNormalKeyPad = tt
escape_asked r s code.ReturnTerminalId = tt
escape_asked r s known = designation_asked known

origin_asked : (b : Bool) (x : Request) → IsSpelledAsked (Some x) → IsSpelledAsked (where_origin b x)
origin_asked true x p = p
origin_asked false x p = tt

-- a move home
home_asked : (b : Bool) (r : Region) → IsSpelledFunction (home_function b r)
home_asked true r = tt
home_asked false r = tt

rows_asked : (m : Modes) (r : Region) (s : Screen) (value : Cursor) → IsSpelledAsked (rows_request m r s value)
rows_asked m r s (cursor.Up n) = tt
rows_asked m r s (cursor.Down n) = tt
rows_asked m r s (cursor.PrecedingLine n) = tt
rows_asked m r s (cursor.NextLine n) = tt
rows_asked m r s (cursor.LinePositionBackward n) = origin_asked m.origin (Table (table.Moves (table.Up (rows_above r s n)))) tt
rows_asked m r s (cursor.LinePositionForward n) = origin_asked m.origin (Table (table.Moves (table.Down (rows_below r s n)))) tt
rows_asked m r s _ = tt

clear_asked : (s : Screen) (which : TabulationClear) → IsSpelledAsked (clear_request s which)
clear_asked s clear.ClearCharacterTabStopAtActivePosition = tt
clear_asked s clear.ClearAllCharacterTabStops = tt
clear_asked s _ = tt

cursor_asked : (m : Modes) (r : Region) (s : Screen) (value : Cursor) → IsSpelledAsked (cursor_request m r s value)
cursor_asked m r s (cursor.LinePositionAbsolute line) = origin_asked m.origin (Table (table.Moves (table.ToLine (line_within r line)))) tt
cursor_asked m r s (cursor.Position line column) = origin_asked m.origin (Table (table.Moves (table.ToPosition (line_within r line) column))) tt
cursor_asked m r s (cursor.CharacterAndLinePosition line column) = origin_asked m.origin (Table (table.Moves (table.ToPosition (line_within r line) column))) tt
cursor_asked m r s (cursor.SetTopAndBottomMargins top bottom) =
    let last = min bottom (height s) in
    let region : Region = record { top = top - 1; bottom = last - 1 } in
    maybe (nat_lt top last) (Sets (ToRegion region) (home_function m.origin region)) (home_asked m.origin region)
cursor_asked m r s cursor.SaveCursor = tt
cursor_asked m r s cursor.RestoreCursor = tt
cursor_asked m r s cursor.RequestActivePositionReport = origin_asked m.origin (Replies (position_text (s.row - r.top) (active_column s))) tt
cursor_asked m r s (cursor.ForwardTabulation n) = tab_asked m s n
cursor_asked m r s (cursor.BackwardTabulation n) = tt
cursor_asked m r s (cursor.TabulationClear which) = clear_asked s which
cursor_asked m r s (cursor.CursorStyle style) = tt
cursor_asked m r s value = rows_asked m r s value

shown_asked : (b : Bool) (function : ScreenFunction) → IsSpelledAsked (where_shown b function)
shown_asked true function = tt
shown_asked false function = tt

set_asked : (m : Modes) (r : Region) (known : DecPrivateModeCode) → IsSpelledAsked (set_request m r known)
set_asked m r dec.OriginMode = home_asked true r
set_asked m r dec.AutoWrap = tt
set_asked m r dec.EnableAlternateScreen = shown_asked (not m.alternate) screens.ShowOther
set_asked m r dec.OptEnableAlternateScreen = shown_asked (not m.alternate) screens.ShowOther
set_asked m r dec.SaveCursor = tt
set_asked m r dec.ClearAndEnableAlternateScreen = tt
set_asked m r _ = tt

reset_asked : (m : Modes) (r : Region) (known : DecPrivateModeCode) → IsSpelledAsked (reset_request m r known)
reset_asked m r dec.OriginMode = home_asked false r
reset_asked m r dec.AutoWrap = tt
reset_asked m r dec.EnableAlternateScreen = shown_asked m.alternate screens.ShowOther
reset_asked m r dec.OptEnableAlternateScreen = shown_asked m.alternate screens.ClearAndShowOther
reset_asked m r dec.SaveCursor = tt
reset_asked m r dec.ClearAndEnableAlternateScreen = tt
reset_asked m r _ = tt

private_asked : (on : Bool) (m : Modes) (r : Region) (value : DecPrivateMode) → IsSpelledAsked (private_request on m r value)
private_asked true m r (private.Code known) =
    or_asked (set_request m r known) (option_map SetsAlone (flag_setting true (private.Code known))) (set_asked m r known) (setting_asked (flag_setting true (private.Code known)))
private_asked false m r (private.Code known) =
    or_asked (reset_request m r known) (option_map SetsAlone (flag_setting false (private.Code known))) (reset_asked m r known) (setting_asked (flag_setting false (private.Code known)))
private_asked true m r (private.Unspecified number) = setting_asked (flag_setting true (private.Unspecified number))
private_asked false m r (private.Unspecified number) = setting_asked (flag_setting false (private.Unspecified number))

standard_asked : (on : Bool) (value : TerminalMode) → IsSpelledAsked (standard_request on value)
standard_asked on (ansi.Code terminal.Insert) = tt
standard_asked on (ansi.Code terminal.AutomaticNewline) = tt
standard_asked on _ = tt

mode_asked : (m : Modes) (r : Region) (value : Mode) → IsSpelledAsked (mode_request m r value)
mode_asked m r (mode.SetDecPrivateMode value) = private_asked true m r value
mode_asked m r (mode.ResetDecPrivateMode value) = private_asked false m r value
mode_asked m r (mode.SetMode value) = standard_asked true value
mode_asked m r (mode.ResetMode value) = standard_asked false value
mode_asked m r _ = tt

repeat_asked : (m : Modes) (s : Screen) (n : ℕ) → IsSpelledAsked (repeat_request m s n)
repeat_asked m s n = by_test (length m.last == 0)
  where
    by_test : (b : Bool) → IsSpelledAsked (if b then None else Some (Repeats (min n (s.width * height s))))
    by_test true = tt
    by_test false = tt

edit_asked : (m : Modes) (r : Region) (s : Screen) (value : Edit) → IsSpelledAsked (edit_request m r s value)
edit_asked m r s (edit.EraseCharacter n) = tt
edit_asked m r s (edit.InsertCharacter n) = tt
edit_asked m r s (edit.DeleteCharacter n) = tt
edit_asked m r s (edit.EraseInLine line.EraseToStartOfLine) = tt
edit_asked m r s (edit.EraseInDisplay display.EraseToStartOfDisplay) = tt
edit_asked m r s (edit.EraseInDisplay display.EraseToEndOfDisplay) = maybe (is_pending s) (Xterm own.EraseToEndOfDisplay) tt
edit_asked m r s (edit.EraseInLine line.EraseToEndOfLine) = maybe (is_pending s) (Xterm own.EraseToEndOfLine) tt
edit_asked m r s (edit.ScrollUp n) = either (scrolls_plainly r s) (Table (table.ScrollUp n)) (Xterm (own.ScrollUp r n)) tt tt
edit_asked m r s (edit.ScrollDown n) = either (scrolls_plainly r s) (Table (table.ScrollDown n)) (Xterm (own.ScrollDown r n)) tt tt
edit_asked m r s (edit.InsertLine n) = maybe (is_between r.top r.bottom s) (Xterm (own.InsertLines r n)) tt
edit_asked m r s (edit.DeleteLine n) = maybe (is_between r.top r.bottom s) (Xterm (own.DeleteLines r n)) tt
edit_asked m r s (edit.Repeat n) = repeat_asked m s n
edit_asked m r s _ = tt

device_asked : (value : Device) → IsSpelledAsked (device_request value)
device_asked device.SoftReset = tt
device_asked device.RequestPrimaryDeviceAttributes = tt
device_asked device.StatusReport = tt

-- ---- sequences that the codec doesn't name

secondary_asked : (tokens : List CsiParam) → IsSpelledAsked (secondary_request tokens)
secondary_asked (P mark ∷ []) = maybe (mark == 62) (Replies secondary_reply) tt
secondary_asked (P mark ∷ Integer z ∷ []) = maybe (mark == 62 && is_number 0 z) (Replies secondary_reply) tt
secondary_asked _ = tt

extended_asked : (m : Modes) (r : Region) (s : Screen) (tokens : List CsiParam) → IsSpelledAsked (extended_position_request m r s tokens)
extended_asked m r s (P mark ∷ Integer z ∷ []) = maybe (mark == 63 && is_number 6 z) (Replies (extended_position_text (reported_row m.origin r s) (active_column s))) tt
extended_asked m r s _ = tt

-- a request or none, which is spelled
if_asked : (b : Bool) (found : Option Request) → IsSpelledAsked found → IsSpelledAsked (if b then found else None)
if_asked true found p = p
if_asked false found p = tt

report_asked : (m : Modes) (s : Screen) (tokens : List CsiParam) → IsSpelledAsked (mode_report_request m s tokens)
report_asked m s (Integer z ∷ P sign ∷ []) =
    let text : ℕ → List ℕ = λ number. mode_report number (standard_state m (ansi_mode_of number)) in
    if_asked (sign == 36) (option_map (λ number. Replies (text number)) (number_within 65535 z)) (reply_asked text (number_within 65535 z))
report_asked m s (P mark ∷ Integer z ∷ P sign ∷ []) =
    let text : ℕ → List ℕ = λ number. private_report number (private_state m s (dec_mode_of number)) in
    if_asked (mark == 63 && sign == 36) (option_map (λ number. Replies (text number)) (number_within 65535 z)) (reply_asked text (number_within 65535 z))
report_asked m s _ = tt

title_asked : (tokens : List CsiParam) → IsSpelledAsked (title_request tokens)
title_asked (Integer operation ∷ []) = switch_asked (title_function operation)
title_asked (Integer operation ∷ P one ∷ Integer which ∷ []) =
    if_asked (one == 59 && is_title which) (option_map Switches (title_function operation)) (switch_asked (title_function operation))
title_asked (Integer operation ∷ P one ∷ Integer which ∷ P two ∷ Integer number ∷ []) =
    if_asked (one == 59 && two == 59 && is_title which) (option_map Switches (title_function operation)) (switch_asked (title_function operation))
title_asked _ = tt

unnamed_asked : (m : Modes) (r : Region) (s : Screen) (final : ℕ) (tokens : List CsiParam) → IsSpelledAsked (other_request m r s final tokens)
unnamed_asked m r s final tokens = by_tests (final == 99) (final == 110) (final == 112) (final == 116)
  where
    by_tests : (c n p t : Bool) → IsSpelledAsked (if c then secondary_request tokens else if n then extended_position_request m r s tokens else if p then mode_report_request m s tokens else if t then title_request tokens else None)
    by_tests true n p t = secondary_asked tokens
    by_tests false true p t = extended_asked m r s tokens
    by_tests false false true t = report_asked m s tokens
    by_tests false false false true = title_asked tokens
    by_tests false false false false = tt

-- one that was cut short asks for nothing
cut_asked : (truncated : Bool) (found : Option Request) → IsSpelledAsked found → IsSpelledAsked (if truncated then None else found)
cut_asked true found p = tt
cut_asked false found p = p

xterm_asked : (modes : Modes) (s : Screen) (action : StreamAction) → IsSpelledAsked (xterm_request modes s action)
unfolding xterm_request
xterm_asked modes s (stream.control n) = control_asked modes (region_on modes s) s n
xterm_asked modes s (stream.esc (esc.Code known)) = escape_asked (region_on modes s) s known
xterm_asked modes s (stream.esc (esc.Unspecified intermediate final)) = other_asked (region_on modes s) s intermediate final
xterm_asked modes s (stream.csi (codec.cursor value)) = cursor_asked modes (region_on modes s) s value
xterm_asked modes s (stream.csi (codec.edit value)) = edit_asked modes (region_on modes s) s value
xterm_asked modes s (stream.csi (codec.mode value)) = mode_asked modes (region_on modes s) value
xterm_asked modes s (stream.csi (codec.device value)) = device_asked value
xterm_asked modes s (stream.csi (codec.unspecified tokens truncated final)) =
    cut_asked truncated (other_request modes (region_on modes s) s final tokens) (unnamed_asked modes (region_on modes s) s final tokens)
xterm_asked modes s _ = tt

own_asked : (modes : Option Modes) (s : Screen) (action : StreamAction) → IsSpelledAsked (own_request modes s action)
own_asked None s action = tt
own_asked (Some modes) s action = xterm_asked modes s action

first_asked : (own : Option Request) (function : Option ControlFunction) → IsSpelledAsked own → IsSpelledRequest function → IsSpelledAsked (own_first own function)
first_asked (Some own) function p q = p
first_asked None None p q = tt
first_asked None (Some function) p q = q

pub asked_spelled : (modes : Option Modes) (s : Screen) (action : StreamAction) → IsSpelledRequest (function_of action) → IsSpelledAsked (request_of modes s action)
asked_spelled modes s action q = first_asked (own_request modes s action) (function_of action) (own_asked modes s action) q
