-- What a terminal can be asked for.
use Rattle.std.specs.Prelude.{ℕ, Bool, List, Some}
use Rattle.csi_codec.specs.declared.cursors.CursorStyle.{CursorStyle}
use Rattle.terminal_table.specs.Charsets.{Charset}
use Rattle.terminal_table.specs.Flags.{with_flag, without_encoding}
use Rattle.terminal_table.specs.Functions.{ControlFunction}
use Rattle.terminal_table.specs.Modes.{Modes, Region, reset_modes}
use Rattle.terminal_table.specs.Screens.{ScreenFunction}
use Rattle.terminal_table.specs.TabStops.{no_stops, with_stop}
use Rattle.terminal_table.specs.Xterm.{XtermFunction}
use Rattle.terminal_table.specs.declared.flags.Flag.{Flag}
use Rattle.terminal_table.specs.declared.flags.MouseProtocolEncoding.{MouseProtocolEncoding}
use Rattle.terminal_table.specs.declared.flags.MouseProtocolMode.{MouseProtocolMode}

-- how modes of xterm become others: as behind RIS; with another region; with lines that count from the region's top, or
-- from the screen's; with insertion, autowrap or new lines by LF, or without; with or without a tab stop at a column,
-- or without those of all columns; with another set as G0 or G1, or with G1 in use, or G0; with a flag, or without;
-- with another protocol of the mouse; with an encoding of it, or without it; or with another style of the cursor
pub data Setting : Type 0 where
  ToReset : Setting
  ToRegion : Region → Setting
  ToOrigin : Bool → Setting
  ToInsert : Bool → Setting
  ToAutowrap : Bool → Setting
  ToNewline : Bool → Setting
  ToStop : ℕ → Bool → Setting
  ToNoStops : ℕ → Setting
  ToFirst : Charset → Setting
  ToSecond : Charset → Setting
  ToShift : Bool → Setting
  ToFlag : Flag → Bool → Setting
  ToMouse : MouseProtocolMode → Setting
  ToEncoding : MouseProtocolEncoding → Setting
  WithoutEncoding : MouseProtocolEncoding → Setting
  ToStyle : CursorStyle → Setting

abbrev pub modes_set : Setting → Modes → Modes
modes_set ToReset modes = reset_modes modes
modes_set (ToRegion region) modes = record modes { region = Some region }
modes_set (ToOrigin origin) modes = record modes { origin = origin }
modes_set (ToInsert insert) modes = record modes { insert = insert }
modes_set (ToAutowrap autowrap) modes = record modes { autowrap = autowrap }
modes_set (ToNewline newline) modes = record modes { newline = newline }
modes_set (ToStop column stop) modes = record modes { stops = with_stop column stop modes.stops }
modes_set (ToNoStops width) modes = record modes { stops = no_stops width }
modes_set (ToFirst set) modes = record modes { charsets = record modes.charsets { g0 = set } }
modes_set (ToSecond set) modes = record modes { charsets = record modes.charsets { g1 = set } }
modes_set (ToShift shifted) modes = record modes { charsets = record modes.charsets { shifted = shifted } }
modes_set (ToFlag flag on) modes = record modes { flags = with_flag flag on modes.flags }
modes_set (ToMouse protocol) modes = record modes { flags = record modes.flags { mouse_protocol_mode = protocol } }
modes_set (ToEncoding encoding) modes =
    record modes { flags = record modes.flags { mouse_protocol_encoding = encoding } }
modes_set (WithoutEncoding reset) modes =
    record modes {
      flags = record modes.flags {
        mouse_protocol_encoding = without_encoding reset modes.flags.mouse_protocol_encoding;
      };
    }
modes_set (ToStyle style) modes = record modes { flags = record modes.flags { cursor_style = style } }

-- a control function of the table; a function that only xterm has; a control function of the table, with which the
-- modes of xterm become others; others alone; a function of the two screens; the last cluster of the run before, so
-- many times more; the alignment display; a reply; or nothing, where the table has something
pub data Request : Type 0 where
  Table : ControlFunction → Request
  Xterm : XtermFunction → Request
  Sets : Setting → ControlFunction → Request
  SetsAlone : Setting → Request
  Switches : ScreenFunction → Request
  Repeats : ℕ → Request
  Aligns : Request
  Replies : List ℕ → Request
  Nothing : Request
