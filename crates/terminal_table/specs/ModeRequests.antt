-- What the profile xterm has for modes: DECSET and DECRST, SM and RM, and whether a mode is set, for DECRQM.
use Rattle.std.specs.Prelude.{◌+◌, Bool, true, false, not, Option, Some, None, option_map}
use Rattle.std.specs.Option.{option_or}
use Rattle.cell_base.specs.Screen.{Screen}
use Rattle.csi_codec.specs.declared.modes.DecPrivateMode.{DecPrivateMode}
use Rattle.csi_codec.specs.declared.modes.DecPrivateMode.TheVariants as private
use Rattle.csi_codec.specs.declared.modes.DecPrivateModeCode.{DecPrivateModeCode}
use Rattle.csi_codec.specs.declared.modes.DecPrivateModeCode.TheVariants as dec
use Rattle.csi_codec.specs.declared.modes.Mode.{Mode}
use Rattle.csi_codec.specs.declared.modes.Mode.TheVariants as mode
use Rattle.csi_codec.specs.declared.modes.TerminalMode.{TerminalMode}
use Rattle.csi_codec.specs.declared.modes.TerminalMode.TheVariants as ansi
use Rattle.csi_codec.specs.declared.modes.TerminalModeCode.TheVariants as terminal
use Rattle.terminal_table.specs.Flags.{encoding_of, flag_of, is_on, is_same_encoding, is_same_mouse, mouse_of}
use Rattle.terminal_table.specs.Functions as table
use Rattle.terminal_table.specs.Modes.{Modes, Region}
use Rattle.terminal_table.specs.Request.{Request, Sets, SetsAlone, Switches, Setting, ToOrigin, ToInsert}
use Rattle.terminal_table.specs.Request.{ToAutowrap, ToNewline, ToFlag, ToMouse, ToEncoding, WithoutEncoding}
use Rattle.terminal_table.specs.Screens as screens
use Rattle.terminal_table.specs.Screens.{ScreenFunction}
use Rattle.terminal_table.specs.declared.flags.MouseProtocolEncoding.{MouseProtocolEncoding}
use Rattle.terminal_table.specs.declared.flags.MouseProtocolMode.{MouseProtocolMode}
use Rattle.terminal_table.specs.declared.flags.MouseProtocolMode.TheVariants as mouse

-- ---- lines that count from the region's top (DECOM)

-- the cursor at home, where lines count from the region's top, or from the screen's
abbrev pub home_function : Bool → Region → table.ControlFunction
home_function true region = table.Moves (table.ToPosition (region.top + 1) 1)
home_function false region = table.Moves (table.ToPosition 1 1)

-- DECSET 6 and DECRST 6: the cursor goes home
abbrev pub origin_request : Bool → Region → Request
origin_request origin region = Sets (ToOrigin origin) (home_function origin region)

-- ---- screens: the alternate one is shown, or the normal one, if it isn't yet

abbrev pub where_shown : Bool → ScreenFunction → Option Request
where_shown true function = Some (Switches function)
where_shown false function = None

-- DECSET 1049 and DECRST 1049
abbrev pub alternate_function : Bool → ScreenFunction  -- whether it is shown before
alternate_function true = screens.SaveAndClear
alternate_function false = screens.SaveAndShowCleared

abbrev pub normal_function : Bool → ScreenFunction  -- whether the alternate one is
normal_function true = screens.ShowAndRestore
normal_function false = screens.RestoreCursor

-- modes of xterm that are set, and reset (xterm: DEC Private Mode Set, and Reset)
abbrev pub set_request : Modes → Region → DecPrivateModeCode → Option Request
set_request modes region dec.OriginMode = Some (origin_request true region)
set_request modes region dec.AutoWrap = Some (SetsAlone (ToAutowrap true))
set_request modes region dec.EnableAlternateScreen = where_shown (not modes.alternate) screens.ShowOther
set_request modes region dec.OptEnableAlternateScreen = where_shown (not modes.alternate) screens.ShowOther
set_request modes region dec.SaveCursor = Some (Switches screens.SaveCursor)
set_request modes region dec.ClearAndEnableAlternateScreen = Some (Switches (alternate_function modes.alternate))
set_request modes region _ = None

abbrev pub reset_request : Modes → Region → DecPrivateModeCode → Option Request
reset_request modes region dec.OriginMode = Some (origin_request false region)
reset_request modes region dec.AutoWrap = Some (SetsAlone (ToAutowrap false))
reset_request modes region dec.EnableAlternateScreen = where_shown modes.alternate screens.ShowOther
reset_request modes region dec.OptEnableAlternateScreen = where_shown modes.alternate screens.ClearAndShowOther
reset_request modes region dec.SaveCursor = Some (Switches screens.RestoreCursor)
reset_request modes region dec.ClearAndEnableAlternateScreen = Some (Switches (normal_function modes.alternate))
reset_request modes region _ = None

-- flags, and what else is kept for the program around the terminal
abbrev pub mouse_setting : Bool → MouseProtocolMode → Setting  -- whether it is set
mouse_setting true protocol = ToMouse protocol
mouse_setting false protocol = ToMouse mouse.None

abbrev pub encoding_setting : Bool → MouseProtocolEncoding → Setting
encoding_setting true encoding = ToEncoding encoding
encoding_setting false encoding = WithoutEncoding encoding

abbrev pub flag_setting : Bool → DecPrivateMode → Option Setting
flag_setting on code =
    option_or (option_map (λ flag. ToFlag flag on) (flag_of code))
    (option_or (option_map (mouse_setting on) (mouse_of code))
    (option_map (encoding_setting on) (encoding_of code)))

abbrev pub private_request : Bool → Modes → Region → DecPrivateMode → Option Request
private_request true modes region (private.Code known) =
    option_or (set_request modes region known) (option_map SetsAlone (flag_setting true (private.Code known)))
private_request false modes region (private.Code known) =
    option_or (reset_request modes region known) (option_map SetsAlone (flag_setting false (private.Code known)))
private_request on modes region (private.Unspecified number) =
    option_map SetsAlone (flag_setting on (private.Unspecified number))

-- modes of the standard
abbrev pub standard_request : Bool → TerminalMode → Option Request
standard_request on (ansi.Code terminal.Insert) = Some (SetsAlone (ToInsert on))  -- IRM
standard_request on (ansi.Code terminal.AutomaticNewline) = Some (SetsAlone (ToNewline on))  -- LNM
standard_request on _ = None

abbrev pub mode_request : Modes → Region → Mode → Option Request
mode_request modes region (mode.SetDecPrivateMode code) = private_request true modes region code
mode_request modes region (mode.ResetDecPrivateMode code) = private_request false modes region code
mode_request modes region (mode.SetMode code) = standard_request true code
mode_request modes region (mode.ResetMode code) = standard_request false code
mode_request modes region _ = None

-- ---- whether a mode is set, if the terminal has it

abbrev pub screen_state : Modes → Screen → DecPrivateMode → Option Bool
screen_state modes screen (private.Code dec.OriginMode) = Some modes.origin
screen_state modes screen (private.Code dec.AutoWrap) = Some modes.autowrap
screen_state modes screen (private.Code dec.ShowCursor) = Some screen.visible
screen_state modes screen (private.Code dec.EnableAlternateScreen) = Some modes.alternate
screen_state modes screen (private.Code dec.OptEnableAlternateScreen) = Some modes.alternate
screen_state modes screen (private.Code dec.ClearAndEnableAlternateScreen) = Some modes.alternate
screen_state modes screen _ = None

abbrev pub private_state : Modes → Screen → DecPrivateMode → Option Bool
private_state modes screen code =
    option_or (screen_state modes screen code)
    (option_or (option_map (λ flag. is_on flag modes.flags) (flag_of code))
    (option_or (option_map (λ protocol. is_same_mouse protocol modes.flags.mouse_protocol_mode) (mouse_of code))
    (option_map (λ encoding. is_same_encoding encoding modes.flags.mouse_protocol_encoding) (encoding_of code))))

abbrev pub standard_state : Modes → TerminalMode → Option Bool
standard_state modes (ansi.Code terminal.Insert) = Some modes.insert
standard_state modes (ansi.Code terminal.AutomaticNewline) = Some modes.newline
standard_state modes _ = None
