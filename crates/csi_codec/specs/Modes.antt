-- Modes by number, how changes of modes are read, and how they are written.
use Rattle.std.specs.Prelude.{ℕ, ℤ, pos, [], ◌∷◌, Option, Some, None, ◌==◌, if◌then◌else◌, option_and_then}
use Rattle.std.specs.Option.{option_map_or}
use Rattle.csi_codec.specs.Parameters.{named_by, number_within, Spelled, spelled, number_tokens, private_tokens}
use Rattle.csi_codec.specs.declared.modes.DecPrivateModeCode.{DecPrivateModeCode}
use Rattle.csi_codec.specs.declared.modes.DecPrivateModeCode.TheVariants as dec
use Rattle.csi_codec.specs.declared.modes.TerminalModeCode.{TerminalModeCode}
use Rattle.csi_codec.specs.declared.modes.TerminalModeCode.TheVariants as ansi
use Rattle.csi_codec.specs.declared.modes.DecPrivateMode.{DecPrivateMode}
use Rattle.csi_codec.specs.declared.modes.DecPrivateMode.TheVariants as private
use Rattle.csi_codec.specs.declared.modes.TerminalMode.{TerminalMode}
use Rattle.csi_codec.specs.declared.modes.TerminalMode.TheVariants as standard
use Rattle.csi_codec.specs.declared.modes.Mode.{Mode}
use Rattle.csi_codec.specs.declared.modes.Mode.TheVariants as mode

-- ---- Numbers

-- xterm: DEC Private Mode Set (DECSET)
abbrev pub dec_private_mode_number : DecPrivateModeCode → ℕ
dec_private_mode_number dec.ApplicationCursorKeys = 1
dec_private_mode_number dec.DecAnsiMode = 2
dec_private_mode_number dec.Select132Columns = 3
dec_private_mode_number dec.SmoothScroll = 4
dec_private_mode_number dec.ReverseVideo = 5
dec_private_mode_number dec.OriginMode = 6
dec_private_mode_number dec.AutoWrap = 7
dec_private_mode_number dec.AutoRepeat = 8
dec_private_mode_number dec.StartBlinkingCursor = 12
dec_private_mode_number dec.ShowCursor = 25
dec_private_mode_number dec.ReverseWraparound = 45
dec_private_mode_number dec.EnableAlternateScreen = 47
dec_private_mode_number dec.LeftRightMarginMode = 69
dec_private_mode_number dec.SixelDisplayMode = 80
dec_private_mode_number dec.MouseTracking = 1000
dec_private_mode_number dec.HighlightMouseTracking = 1001
dec_private_mode_number dec.ButtonEventMouse = 1002
dec_private_mode_number dec.AnyEventMouse = 1003
dec_private_mode_number dec.FocusTracking = 1004
dec_private_mode_number dec.Utf8Mouse = 1005
dec_private_mode_number dec.SGRMouse = 1006
dec_private_mode_number dec.SGRPixelsMouse = 1016
dec_private_mode_number dec.XTermMetaSendsEscape = 1036
dec_private_mode_number dec.XTermAltSendsEscape = 1039
dec_private_mode_number dec.OptEnableAlternateScreen = 1047
dec_private_mode_number dec.SaveCursor = 1048
dec_private_mode_number dec.ClearAndEnableAlternateScreen = 1049
dec_private_mode_number dec.UsePrivateColorRegistersForEachGraphic = 1070
dec_private_mode_number dec.BracketedPaste = 2004
dec_private_mode_number dec.SynchronizedOutput = 2026
dec_private_mode_number dec.GraphemeClustering = 2027
dec_private_mode_number dec.MinTTYApplicationEscapeKeyMode = 7727
dec_private_mode_number dec.SixelScrollsRight = 8452
dec_private_mode_number dec.Win32InputMode = 9001

-- the private mode of a number
abbrev pub dec_private_mode_named : ℤ → Option DecPrivateModeCode
dec_private_mode_named z =
    named_by dec_private_mode_number (dec.ApplicationCursorKeys ∷ dec.DecAnsiMode ∷ dec.Select132Columns
    ∷ dec.SmoothScroll ∷ dec.ReverseVideo ∷ dec.OriginMode ∷ dec.AutoWrap ∷ dec.AutoRepeat ∷ dec.StartBlinkingCursor
    ∷ dec.ShowCursor ∷ dec.ReverseWraparound ∷ dec.EnableAlternateScreen ∷ dec.LeftRightMarginMode
    ∷ dec.SixelDisplayMode ∷ dec.MouseTracking ∷ dec.HighlightMouseTracking ∷ dec.ButtonEventMouse ∷ dec.AnyEventMouse
    ∷ dec.FocusTracking ∷ dec.Utf8Mouse ∷ dec.SGRMouse ∷ dec.SGRPixelsMouse ∷ dec.XTermMetaSendsEscape
    ∷ dec.XTermAltSendsEscape ∷ dec.OptEnableAlternateScreen ∷ dec.SaveCursor ∷ dec.ClearAndEnableAlternateScreen
    ∷ dec.UsePrivateColorRegistersForEachGraphic ∷ dec.BracketedPaste ∷ dec.SynchronizedOutput
    ∷ dec.GraphemeClustering ∷ dec.MinTTYApplicationEscapeKeyMode ∷ dec.SixelScrollsRight ∷ dec.Win32InputMode ∷ []) z

-- ECMA-48 8.3.125 SM; 12, 20 and 25 as in xterm's Set Mode
abbrev pub terminal_mode_number : TerminalModeCode → ℕ
terminal_mode_number ansi.KeyboardAction = 2
terminal_mode_number ansi.Insert = 4
terminal_mode_number ansi.BiDirectionalSupportMode = 8
terminal_mode_number ansi.SendReceive = 12
terminal_mode_number ansi.AutomaticNewline = 20
terminal_mode_number ansi.ShowCursor = 25

-- the mode of a number
abbrev pub terminal_mode_named : ℤ → Option TerminalModeCode
terminal_mode_named z =
    named_by terminal_mode_number (ansi.KeyboardAction ∷ ansi.Insert ∷ ansi.BiDirectionalSupportMode
    ∷ ansi.SendReceive ∷ ansi.AutomaticNewline ∷ ansi.ShowCursor ∷ []) z

-- a private mode: by its name, if its number has one
abbrev pub dec_mode_of : ℕ → DecPrivateMode
dec_mode_of n = option_map_or private.Code (dec_private_mode_named (pos n)) (private.Unspecified n)

abbrev pub dec_mode_code : DecPrivateMode → ℕ
dec_mode_code (private.Code code) = dec_private_mode_number code
dec_mode_code (private.Unspecified n) = n

-- a mode of the standard: by its name, if its number has one
abbrev pub ansi_mode_of : ℕ → TerminalMode
ansi_mode_of n = option_map_or standard.Code (terminal_mode_named (pos n)) (standard.Unspecified n)

abbrev pub ansi_mode_code : TerminalMode → ℕ
ansi_mode_code (standard.Code code) = terminal_mode_number code
ansi_mode_code (standard.Unspecified n) = n

-- ---- Reading

-- what a final byte does to a private mode
abbrev pub private_step : ℕ → DecPrivateMode → Option Mode
private_step final m =
    if final == 104 then Some (mode.SetDecPrivateMode m)  -- h: DECSET, xterm
    else (if final == 108 then Some (mode.ResetDecPrivateMode m)  -- l: DECRST
    else (if final == 115 then Some (mode.SaveDecPrivateMode m)  -- s: XTSAVE
    else (if final == 114 then Some (mode.RestoreDecPrivateMode m)  -- r: XTRESTORE
    else None)))

-- what a final byte does to a mode of the standard
abbrev pub standard_step : ℕ → TerminalMode → Option Mode
standard_step final m =
    if final == 104 then Some (mode.SetMode m)  -- h: SM, ECMA-48 8.3.125
    else (if final == 108 then Some (mode.ResetMode m)  -- l: RM, 8.3.106
    else None)

-- the change of a private mode that a number after ? and a final byte encode, if there is one
unfoldable pub private_mode_reading : ℕ → ℤ → Option Mode
private_mode_reading final z = option_and_then (λ n. private_step final (dec_mode_of n)) (number_within 65535 z)

-- the change of a mode of the standard that a number and a final byte encode, if there is one
unfoldable pub mode_reading : ℕ → ℤ → Option Mode
mode_reading final z = option_and_then (λ n. standard_step final (ansi_mode_of n)) (number_within 65535 z)

-- ---- Writing

unfoldable pub mode_spelling : Mode → Spelled
mode_spelling (mode.SetDecPrivateMode m) = spelled (private_tokens (dec_mode_code m)) 104  -- h
mode_spelling (mode.ResetDecPrivateMode m) = spelled (private_tokens (dec_mode_code m)) 108  -- l
mode_spelling (mode.SaveDecPrivateMode m) = spelled (private_tokens (dec_mode_code m)) 115  -- s
mode_spelling (mode.RestoreDecPrivateMode m) = spelled (private_tokens (dec_mode_code m)) 114  -- r
mode_spelling (mode.SetMode m) = spelled (number_tokens (ansi_mode_code m)) 104  -- h
mode_spelling (mode.ResetMode m) = spelled (number_tokens (ansi_mode_code m)) 108  -- l
