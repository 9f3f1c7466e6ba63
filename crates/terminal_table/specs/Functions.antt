-- The control functions of the terminal, and which of them an action asks for. Every other action asks for none.
use Rattle.std.specs.Prelude.{ℕ, Bool, true, false, List, Option, Some, None, ◌==◌, ◌||◌, if◌then◌else◌}
use Rattle.cell_base.specs.Link.{Link}
use Rattle.csi_codec.specs.Actions as codec
use Rattle.csi_codec.specs.declared.cursors.Cursor.{Cursor}
use Rattle.csi_codec.specs.declared.cursors.Cursor.TheVariants as cursor
use Rattle.csi_codec.specs.declared.edits.Edit.{Edit}
use Rattle.csi_codec.specs.declared.edits.Edit.TheVariants as edit
use Rattle.csi_codec.specs.declared.edits.EraseInDisplay.TheVariants as display
use Rattle.csi_codec.specs.declared.edits.EraseInLine.TheVariants as line
use Rattle.csi_codec.specs.declared.modes.Mode.{Mode}
use Rattle.csi_codec.specs.declared.modes.Mode.TheVariants as mode
use Rattle.csi_codec.specs.declared.modes.DecPrivateMode.TheVariants as private
use Rattle.csi_codec.specs.declared.modes.DecPrivateModeCode.TheVariants as dec
use Rattle.csi_codec.specs.declared.devices.Device.{Device}
use Rattle.csi_codec.specs.declared.devices.Device.TheVariants as device
use Rattle.csi_codec.specs.declared.rendition.Sgr.{Sgr}
use Rattle.csi_codec.specs.declared.rendition.Sgr.TheVariants as sgr
use Rattle.csi_codec.specs.declared.escapes.Esc.{Esc}
use Rattle.csi_codec.specs.declared.escapes.Esc.TheVariants as esc
use Rattle.csi_codec.specs.declared.escapes.EscCode.{EscCode}
use Rattle.csi_codec.specs.declared.escapes.EscCode.TheVariants as code
use Rattle.escape_osc.specs.Command.{Command}
use Rattle.escape_osc.specs.Command as osc
use Rattle.escape_stream.specs.StreamAction.{StreamAction}
use Rattle.escape_stream.specs.StreamAction as stream

-- Where a move of the cursor leads. Line and column numbers count from 1.
pub data Move : Type 0 where
  -- by a count of rows or columns from the cursor
  Up : ℕ → Move  -- CUU, VPB
  Down : ℕ → Move  -- CUD, VPR
  Left : ℕ → Move  -- CUB, HPB, BS
  Right : ℕ → Move  -- CUF, HPR
  -- to the next column, counted from 0, that 8 divides
  NextTab : Move  -- HT
  -- to the first column of the row that is a count of rows below, or above
  NextLine : ℕ → Move  -- CNL
  PrecedingLine : ℕ → Move  -- CPL
  -- to a column, to a line, or to both: the line first
  ToColumn : ℕ → Move  -- CHA, HPA
  ToLine : ℕ → Move  -- VPA
  ToPosition : ℕ → ℕ → Move  -- CUP, HVP

-- a control function, by its mnemonic: of ECMA-48, or of xterm's control sequences
pub data ControlFunction : Type 0 where
  Moves : Move → ControlFunction
  LineFeed : ControlFunction  -- LF, VT, FF, IND
  CarriageReturn : ControlFunction  -- CR
  NextRow : ControlFunction  -- NEL
  ReverseIndex : ControlFunction  -- RI
  EraseToEndOfDisplay : ControlFunction  -- ED 0
  EraseDisplay : ControlFunction  -- ED 2
  EraseToEndOfLine : ControlFunction  -- EL 0
  EraseLine : ControlFunction  -- EL 2
  ScrollUp : ℕ → ControlFunction  -- SU
  ScrollDown : ℕ → ControlFunction  -- SD
  Rendition : Sgr → ControlFunction  -- SGR
  Hyperlink : Option Link → ControlFunction  -- OSC 8
  Title : List ℕ → ControlFunction  -- OSC 0, OSC 2
  ShowCursor : Bool → ControlFunction  -- DECTCEM
  SaveCursor : ControlFunction  -- DECSC, SCOSC
  RestoreCursor : ControlFunction  -- DECRC, SCORC
  FullReset : ControlFunction  -- RIS
  ReportStatus : ControlFunction  -- DSR 5
  ReportPosition : ControlFunction  -- DSR 6, whose reply is CPR

-- ---- control characters (ECMA-48 8.3; the numbers are those of ISO 646)

abbrev pub control_function : ℕ → Option ControlFunction
control_function number =
    if number == 8 then Some (Moves (Left 1))  -- BS, ECMA-48 8.3.5
    else if number == 9 then Some (Moves NextTab)  -- HT, 8.3.60
    -- LF, VT and FF, 8.3.74, 8.3.161 and 8.3.51; xterm treats VT and FF as LF
    else if number == 10 || number == 11 || number == 12 then Some LineFeed
    else if number == 13 then Some CarriageReturn  -- CR, 8.3.15
    else None

-- ---- ESC pairs

abbrev pub escape_function : EscCode → Option ControlFunction
escape_function code.Index = Some LineFeed  -- IND, xterm: C1 (8-Bit) Control Characters
escape_function code.NextLine = Some NextRow  -- NEL, ECMA-48 8.3.86
escape_function code.ReverseIndex = Some ReverseIndex  -- RI, 8.3.104
escape_function code.FullReset = Some FullReset  -- RIS, 8.3.105
escape_function code.DecSaveCursorPosition = Some SaveCursor  -- DECSC, xterm
escape_function code.DecRestoreCursorPosition = Some RestoreCursor  -- DECRC, xterm
escape_function _ = None

-- ---- control sequences

abbrev pub cursor_function : Cursor → Option ControlFunction
cursor_function (cursor.Up n) = Some (Moves (Up n))  -- CUU, ECMA-48 8.3.22
cursor_function (cursor.LinePositionBackward n) = Some (Moves (Up n))  -- VPB, 8.3.159
cursor_function (cursor.Down n) = Some (Moves (Down n))  -- CUD, 8.3.19
cursor_function (cursor.LinePositionForward n) = Some (Moves (Down n))  -- VPR, 8.3.160
cursor_function (cursor.Left n) = Some (Moves (Left n))  -- CUB, 8.3.18
cursor_function (cursor.CharacterPositionBackward n) = Some (Moves (Left n))  -- HPB, 8.3.58
cursor_function (cursor.Right n) = Some (Moves (Right n))  -- CUF, 8.3.20
cursor_function (cursor.CharacterPositionForward n) = Some (Moves (Right n))  -- HPR, 8.3.59
cursor_function (cursor.NextLine n) = Some (Moves (NextLine n))  -- CNL, 8.3.12
cursor_function (cursor.PrecedingLine n) = Some (Moves (PrecedingLine n))  -- CPL, 8.3.13
cursor_function (cursor.CharacterAbsolute column) = Some (Moves (ToColumn column))  -- CHA, 8.3.9
cursor_function (cursor.CharacterPositionAbsolute column) = Some (Moves (ToColumn column))  -- HPA, 8.3.57
cursor_function (cursor.LinePositionAbsolute line) = Some (Moves (ToLine line))  -- VPA, 8.3.158
cursor_function (cursor.Position line column) = Some (Moves (ToPosition line column))  -- CUP, 8.3.21
cursor_function (cursor.CharacterAndLinePosition line column) = Some (Moves (ToPosition line column))  -- HVP, 8.3.63
cursor_function cursor.SaveCursor = Some SaveCursor  -- SCOSC, xterm
cursor_function cursor.RestoreCursor = Some RestoreCursor  -- SCORC, xterm
cursor_function cursor.RequestActivePositionReport = Some ReportPosition  -- DSR 6, 8.3.35
cursor_function _ = None

abbrev pub edit_function : Edit → Option ControlFunction
edit_function (edit.EraseInDisplay display.EraseToEndOfDisplay) = Some EraseToEndOfDisplay  -- ED 0, ECMA-48 8.3.39
edit_function (edit.EraseInDisplay display.EraseDisplay) = Some EraseDisplay  -- ED 2
edit_function (edit.EraseInLine line.EraseToEndOfLine) = Some EraseToEndOfLine  -- EL 0, 8.3.41
edit_function (edit.EraseInLine line.EraseLine) = Some EraseLine  -- EL 2
edit_function (edit.ScrollUp n) = Some (ScrollUp n)  -- SU, 8.3.147
edit_function (edit.ScrollDown n) = Some (ScrollDown n)  -- SD, 8.3.113
edit_function _ = None

-- DEC private mode 25, DECTCEM (xterm: DEC Private Mode Set)
abbrev pub mode_function : Mode → Option ControlFunction
mode_function (mode.SetDecPrivateMode (private.Code dec.ShowCursor)) = Some (ShowCursor true)
mode_function (mode.ResetDecPrivateMode (private.Code dec.ShowCursor)) = Some (ShowCursor false)
mode_function _ = None

abbrev pub device_function : Device → Option ControlFunction
device_function device.StatusReport = Some ReportStatus  -- DSR 5, ECMA-48 8.3.35
device_function _ = None

-- SGR, ECMA-48 8.3.117: all but fonts
abbrev pub rendition_function : Sgr → Option ControlFunction
rendition_function (sgr.Font font) = None
rendition_function value = Some (Rendition value)

abbrev pub sequence_function : codec.Action → Option ControlFunction
sequence_function (codec.sgr value) = rendition_function value
sequence_function (codec.cursor value) = cursor_function value
sequence_function (codec.edit value) = edit_function value
sequence_function (codec.mode value) = mode_function value
sequence_function (codec.device value) = device_function value
sequence_function (codec.unspecified params truncated final) = None

-- ---- operating system commands (xterm: Operating System Commands; OSC 8: hyperlinks in terminal emulators)

abbrev pub command_function : Command → Option ControlFunction
command_function (osc.set_icon_name_and_window_title text) = Some (Title text)  -- OSC 0
command_function (osc.set_window_title text) = Some (Title text)  -- OSC 2
command_function (osc.set_hyperlink link) = Some (Hyperlink link)  -- OSC 8
command_function _ = None

-- ---- all actions

abbrev pub pair_function : Esc → Option ControlFunction
pair_function (esc.Code known) = escape_function known
pair_function _ = None

-- the control function that an action asks for; characters are printed, and ask for none
unfoldable pub function_of : StreamAction → Option ControlFunction
function_of (stream.control number) = control_function number
function_of (stream.esc pair) = pair_function pair
function_of (stream.csi sequence) = sequence_function sequence
function_of (stream.command c) = command_function c
function_of _ = None
