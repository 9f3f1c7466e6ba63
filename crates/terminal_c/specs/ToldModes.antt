-- The modes of the profile xterm as C gets them.
use Rattle.std.specs.Prelude.{◌≡◌, ℕ, Bool, false, Option, Some, None, MatchOption}
use Rattle.csi_codec.specs.Cursors.{cursor_style_number}
use Rattle.terminal_c.specs.Codes.{DONE, RANGE}
use Rattle.terminal_c.specs.declared.modes.ToldModes.{ToldModes}
use Rattle.terminal_table.specs.Modes.{Modes}
use Rattle.terminal_table.specs.declared.flags.MouseProtocolEncoding.{MouseProtocolEncoding}
use Rattle.terminal_table.specs.declared.flags.MouseProtocolEncoding.TheVariants as encoding
use Rattle.terminal_table.specs.declared.flags.MouseProtocolMode.{MouseProtocolMode}
use Rattle.terminal_table.specs.declared.flags.MouseProtocolMode.TheVariants as mouse

-- the number of the events of the mouse that are reported
abbrev pub mouse_number : MouseProtocolMode → ℕ
mouse_number mouse.None = 0
mouse_number mouse.Press = 1
mouse_number mouse.PressRelease = 2
mouse_number mouse.ButtonMotion = 3
mouse_number mouse.AnyMotion = 4

-- the number of the way in which they are written
abbrev pub encoding_number : MouseProtocolEncoding → ℕ
encoding_number encoding.Default = 0
encoding_number encoding.Utf8 = 1
encoding_number encoding.Sgr = 2
encoding_number encoding.Urxvt = 3
encoding_number encoding.SgrPixels = 4

-- the modes that the program around the terminal asks for
abbrev pub modes_told : Modes → ToldModes
modes_told modes =
    record {
      application_cursor = modes.flags.application_cursor;
      application_keypad = modes.flags.application_keypad;
      reverse_video = modes.flags.reverse_video;
      blinking_cursor = modes.flags.blinking_cursor;
      focus_tracking = modes.flags.focus_tracking;
      alternate_scroll = modes.flags.alternate_scroll;
      bracketed_paste = modes.flags.bracketed_paste;
      synchronized_output = modes.flags.synchronized_output;
      mouse_protocol_mode = mouse_number modes.flags.mouse_protocol_mode;
      mouse_protocol_encoding = encoding_number modes.flags.mouse_protocol_encoding;
      cursor_style = cursor_style_number modes.flags.cursor_style;
      alternate_screen = modes.alternate;
    }

-- a terminal's modes are told; a plain terminal has none, and the code says so
abbrev pub TellsModes : Option Modes → ToldModes → ℕ → Type 0
TellsModes modes told code = MatchOption modes (code ≡ RANGE) (λ m. (code ≡ DONE) × (told ≡ modes_told m))

-- whether the alternate screen is shown; a plain terminal has none
abbrev pub is_alternate : Option Modes → Bool
is_alternate None = false
is_alternate (Some modes) = modes.alternate
