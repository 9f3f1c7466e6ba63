-- Flags, and what else a terminal of the profile xterm keeps for the program around it (xterm: DEC Private Mode Set).
use Rattle.std.specs.Prelude.{◌==◌, Bool, true, false, Option, Some, None, if◌then◌else◌}
use Rattle.csi_codec.specs.declared.cursors.CursorStyle.TheVariants as style
use Rattle.csi_codec.specs.declared.modes.DecPrivateMode.{DecPrivateMode}
use Rattle.csi_codec.specs.declared.modes.DecPrivateMode.TheVariants as private
use Rattle.csi_codec.specs.declared.modes.DecPrivateModeCode.TheVariants as dec
use Rattle.terminal_table.specs.declared.flags.Flag.{Flag}
use Rattle.terminal_table.specs.declared.flags.Flag.TheVariants.{ApplicationCursor, ApplicationKeypad, ReverseVideo}
use Rattle.terminal_table.specs.declared.flags.Flag.TheVariants.{BlinkingCursor, FocusTracking, AlternateScroll}
use Rattle.terminal_table.specs.declared.flags.Flag.TheVariants.{BracketedPaste, SynchronizedOutput}
use Rattle.terminal_table.specs.declared.flags.Flags.{Flags}
use Rattle.terminal_table.specs.declared.flags.MouseProtocolEncoding.{MouseProtocolEncoding}
use Rattle.terminal_table.specs.declared.flags.MouseProtocolEncoding.TheVariants as encoding
use Rattle.terminal_table.specs.declared.flags.MouseProtocolMode.{MouseProtocolMode}
use Rattle.terminal_table.specs.declared.flags.MouseProtocolMode.TheVariants as mouse

-- those of a new terminal
abbrev pub initial_flags : Flags
initial_flags = record {
  application_cursor = false;
  application_keypad = false;
  reverse_video = false;
  blinking_cursor = false;
  focus_tracking = false;
  alternate_scroll = false;
  bracketed_paste = false;
  synchronized_output = false;
  mouse_protocol_mode = mouse.None;
  mouse_protocol_encoding = encoding.Default;
  cursor_style = style.Default;
}

-- ---- a flag is set or reset; and whether it is on

abbrev pub with_flag : Flag → Bool → Flags → Flags
with_flag ApplicationCursor on flags = record flags { application_cursor = on }
with_flag ApplicationKeypad on flags = record flags { application_keypad = on }
with_flag ReverseVideo on flags = record flags { reverse_video = on }
with_flag BlinkingCursor on flags = record flags { blinking_cursor = on }
with_flag FocusTracking on flags = record flags { focus_tracking = on }
with_flag AlternateScroll on flags = record flags { alternate_scroll = on }
with_flag BracketedPaste on flags = record flags { bracketed_paste = on }
with_flag SynchronizedOutput on flags = record flags { synchronized_output = on }

abbrev pub is_on : Flag → Flags → Bool
is_on ApplicationCursor flags = flags.application_cursor
is_on ApplicationKeypad flags = flags.application_keypad
is_on ReverseVideo flags = flags.reverse_video
is_on BlinkingCursor flags = flags.blinking_cursor
is_on FocusTracking flags = flags.focus_tracking
is_on AlternateScroll flags = flags.alternate_scroll
is_on BracketedPaste flags = flags.bracketed_paste
is_on SynchronizedOutput flags = flags.synchronized_output

-- ---- the mouse

abbrev pub is_same_mouse : MouseProtocolMode → MouseProtocolMode → Bool
is_same_mouse mouse.None mouse.None = true
is_same_mouse mouse.Press mouse.Press = true
is_same_mouse mouse.PressRelease mouse.PressRelease = true
is_same_mouse mouse.ButtonMotion mouse.ButtonMotion = true
is_same_mouse mouse.AnyMotion mouse.AnyMotion = true
is_same_mouse _ _ = false

abbrev pub is_same_encoding : MouseProtocolEncoding → MouseProtocolEncoding → Bool
is_same_encoding encoding.Default encoding.Default = true
is_same_encoding encoding.Utf8 encoding.Utf8 = true
is_same_encoding encoding.Sgr encoding.Sgr = true
is_same_encoding encoding.Urxvt encoding.Urxvt = true
is_same_encoding encoding.SgrPixels encoding.SgrPixels = true
is_same_encoding _ _ = false

-- an encoding that is reset ends only where it is in use
abbrev pub without_encoding : MouseProtocolEncoding → MouseProtocolEncoding → MouseProtocolEncoding
without_encoding reset current = if is_same_encoding reset current then encoding.Default else current

-- ---- by the number of the mode

abbrev pub flag_of : DecPrivateMode → Option Flag
flag_of (private.Code dec.ApplicationCursorKeys) = Some ApplicationCursor
flag_of (private.Code dec.ReverseVideo) = Some ReverseVideo
flag_of (private.Code dec.StartBlinkingCursor) = Some BlinkingCursor
flag_of (private.Code dec.FocusTracking) = Some FocusTracking
flag_of (private.Code dec.BracketedPaste) = Some BracketedPaste
flag_of (private.Code dec.SynchronizedOutput) = Some SynchronizedOutput
flag_of (private.Code _) = None
flag_of (private.Unspecified number) =
    if number == 66 then Some ApplicationKeypad else if number == 1007 then Some AlternateScroll else None

abbrev pub mouse_of : DecPrivateMode → Option MouseProtocolMode
mouse_of (private.Code dec.MouseTracking) = Some mouse.PressRelease
mouse_of (private.Code dec.ButtonEventMouse) = Some mouse.ButtonMotion
mouse_of (private.Code dec.AnyEventMouse) = Some mouse.AnyMotion
mouse_of (private.Code _) = None
mouse_of (private.Unspecified number) = if number == 9 then Some mouse.Press else None

abbrev pub encoding_of : DecPrivateMode → Option MouseProtocolEncoding
encoding_of (private.Code dec.Utf8Mouse) = Some encoding.Utf8
encoding_of (private.Code dec.SGRMouse) = Some encoding.Sgr
encoding_of (private.Code dec.SGRPixelsMouse) = Some encoding.SgrPixels
encoding_of (private.Code _) = None
encoding_of (private.Unspecified number) = if number == 1015 then Some encoding.Urxvt else None
