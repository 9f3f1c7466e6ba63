-- What the profile xterm has for device attributes, reports of modes and of the position, and titles that are pushed.
use Rattle.std.specs.Prelude.{ℕ, ◌+◌, ◌-◌, ◌==◌, ◌&&◌, ◌||◌, ℤ, Bool, true, false, List, [], ◌∷◌, ◌++◌, Option}
use Rattle.std.specs.Prelude.{Some, None, option_map, decimal, if◌then◌else◌}
use Rattle.cell_base.specs.Screen.{Screen}
use Rattle.csi_codec.specs.Modes.{ansi_mode_of, dec_mode_of}
use Rattle.csi_codec.specs.Parameters.{is_number, number_within}
use Rattle.csi_codec.specs.declared.devices.Device.{Device}
use Rattle.csi_codec.specs.declared.devices.Device.TheVariants as device
use Rattle.csi_codec.specs.declared.parameters.CsiParam.{CsiParam}
use Rattle.csi_codec.specs.declared.parameters.CsiParam.TheVariants.{Integer, P}
use Rattle.terminal_table.specs.ModeRequests.{private_state, standard_state}
use Rattle.terminal_table.specs.Modes.{Modes, Region}
use Rattle.terminal_table.specs.Request.{Request, Switches, Replies}
use Rattle.terminal_table.specs.Screens as screens
use Rattle.terminal_table.specs.Screens.{ScreenFunction}
use Rattle.terminal_table.specs.Steps.{active_column}

-- ---- device attributes

-- to DA and DECID: ESC [ ? 62 ; 22 c, a VT220 with colours
abbrev pub primary_reply : List ℕ
primary_reply = 27 ∷ 91 ∷ 63 ∷ 54 ∷ 50 ∷ 59 ∷ 50 ∷ 50 ∷ 99 ∷ []

-- to the secondary DA: ESC [ > 1 ; 100 ; 0 c, a VT220 of the version 100
abbrev pub secondary_reply : List ℕ
secondary_reply = 27 ∷ 91 ∷ 62 ∷ 49 ∷ 59 ∷ 49 ∷ 48 ∷ 48 ∷ 59 ∷ 48 ∷ 99 ∷ []

abbrev pub device_request : Device → Option Request
device_request device.SoftReset = Some (Switches screens.SoftReset)  -- DECSTR
device_request device.RequestPrimaryDeviceAttributes = Some (Replies primary_reply)
device_request device.StatusReport = None

abbrev pub secondary_request : List CsiParam → Option Request
secondary_request (P mark ∷ []) = if mark == 62 then Some (Replies secondary_reply) else None
secondary_request (P mark ∷ Integer z ∷ []) =
    if mark == 62 && is_number 0 z then Some (Replies secondary_reply) else None
secondary_request _ = None

-- ---- reports

-- DECRPM: 1 where the mode is set, 2 where it is reset, 0 where the terminal hasn't it
abbrev pub state_digit : Option Bool → ℕ
state_digit None = 48
state_digit (Some true) = 49
state_digit (Some false) = 50

abbrev pub mode_report : ℕ → Option Bool → List ℕ  -- ESC [ number ; digit $ y
mode_report number state = 27 ∷ 91 ∷ decimal number ++ 59 ∷ state_digit state ∷ 36 ∷ 121 ∷ []

abbrev pub private_report : ℕ → Option Bool → List ℕ
private_report number state = 27 ∷ 91 ∷ 63 ∷ decimal number ++ 59 ∷ state_digit state ∷ 36 ∷ 121 ∷ []

-- DECRQM
abbrev pub mode_report_request : Modes → Screen → List CsiParam → Option Request
mode_report_request modes screen (Integer z ∷ P sign ∷ []) =
    if sign == 36 then
    option_map (λ number. Replies (mode_report number (standard_state modes (ansi_mode_of number))))
    (number_within 65535 z)
    else None
mode_report_request modes screen (P mark ∷ Integer z ∷ P sign ∷ []) =
    if mark == 63 && sign == 36 then
    option_map (λ number. Replies (private_report number (private_state modes screen (dec_mode_of number))))
    (number_within 65535 z)
    else None
mode_report_request modes screen _ = None

-- DECXCPR: ESC [ ? line ; column R, the line and the column of a row and a column, which count from 0
abbrev pub extended_position_text : ℕ → ℕ → List ℕ
extended_position_text row column =
    27 ∷ 91 ∷ 63 ∷ decimal (row + 1) ++ 59 ∷ decimal (column + 1) ++ 82 ∷ []

-- the cursor's row, from the region's top where lines count from it
abbrev pub reported_row : Bool → Region → Screen → ℕ
reported_row true region screen = screen.row - region.top
reported_row false region screen = screen.row

-- DSR ? 6
abbrev pub extended_position_request : Modes → Region → Screen → List CsiParam → Option Request
extended_position_request modes region screen (P mark ∷ Integer z ∷ []) =
    if mark == 63 && is_number 6 z then
    Some (Replies (extended_position_text (reported_row modes.origin region screen) (active_column screen)))
    else None
extended_position_request modes region screen _ = None

-- ---- titles (xterm: window operations 22 and 23, of both titles or of the window's)

abbrev pub title_function : ℤ → Option ScreenFunction
title_function operation =
    if is_number 22 operation then Some screens.PushTitle
    else if is_number 23 operation then Some screens.PopTitle
    else None

abbrev pub is_title : ℤ → Bool
is_title which = is_number 0 which || is_number 2 which

abbrev pub title_request : List CsiParam → Option Request
title_request (Integer operation ∷ []) = option_map Switches (title_function operation)
title_request (Integer operation ∷ P first ∷ Integer which ∷ []) =
    if first == 59 && is_title which then option_map Switches (title_function operation) else None
title_request (Integer operation ∷ P first ∷ Integer which ∷ P second ∷ Integer number ∷ []) =
    if first == 59 && second == 59 && is_title which then option_map Switches (title_function operation) else None
title_request _ = None

-- ---- by the final byte: of sequences that the codec doesn't name

abbrev pub other_request : Modes → Region → Screen → ℕ → List CsiParam → Option Request
other_request modes region screen final tokens =
    if final == 99 then secondary_request tokens  -- c
    else if final == 110 then extended_position_request modes region screen tokens  -- n
    else if final == 112 then mode_report_request modes screen tokens  -- p
    else if final == 116 then title_request tokens  -- t
    else None
