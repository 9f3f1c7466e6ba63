-- Cursor sequences: how they are read, by final byte, and how they are written.
use Rattle.std.specs.Prelude.{ℕ, ℤ, List, [], ◌∷◌, Option, ◌++◌, Some, None, if◌then◌else◌, option_map}
use Rattle.csi_codec.specs.Parameters.{is_number, coordinate_pair, one_slot, slot_and_space, named_by}
use Rattle.csi_codec.specs.Parameters.{named_slot, word_max}
use Rattle.csi_codec.specs.Parameters.{Lines, read_by, Spelled}
use Rattle.csi_codec.specs.Slots.{Slots, nothing, counted, placed, paired, named, spaced, slots_spelling, count_lines}
use Rattle.csi_codec.specs.declared.parameters.CsiParam.{CsiParam}
use Rattle.csi_codec.specs.declared.parameters.CsiParam.TheVariants.{Integer}
use Rattle.csi_codec.specs.declared.cursors.CursorStyle.{CursorStyle}
use Rattle.csi_codec.specs.declared.cursors.CursorStyle.TheVariants as style
use Rattle.csi_codec.specs.declared.cursors.TabulationClear.{TabulationClear}
use Rattle.csi_codec.specs.declared.cursors.TabulationClear.TheVariants as clear
use Rattle.csi_codec.specs.declared.cursors.CursorTabulationControl.{CursorTabulationControl}
use Rattle.csi_codec.specs.declared.cursors.CursorTabulationControl.TheVariants as control
use Rattle.csi_codec.specs.declared.cursors.Cursor.{Cursor}
use Rattle.csi_codec.specs.declared.cursors.Cursor.TheVariants as cursor

-- ---- Numbers

-- DECSCUSR, xterm: Set cursor style
abbrev pub cursor_style_number : CursorStyle → ℕ
cursor_style_number style.Default = 0
cursor_style_number style.BlinkingBlock = 1
cursor_style_number style.SteadyBlock = 2
cursor_style_number style.BlinkingUnderline = 3
cursor_style_number style.SteadyUnderline = 4
cursor_style_number style.BlinkingBar = 5
cursor_style_number style.SteadyBar = 6

-- the style of a number
abbrev pub cursor_style_named : ℤ → Option CursorStyle
cursor_style_named z =
    named_by cursor_style_number (style.Default ∷ style.BlinkingBlock ∷ style.SteadyBlock ∷ style.BlinkingUnderline
    ∷ style.SteadyUnderline ∷ style.BlinkingBar ∷ style.SteadyBar ∷ []) z

-- TBC, ECMA-48 8.3.154
abbrev pub tabulation_clear_number : TabulationClear → ℕ
tabulation_clear_number clear.ClearCharacterTabStopAtActivePosition = 0
tabulation_clear_number clear.ClearLineTabStopAtActiveLine = 1
tabulation_clear_number clear.ClearCharacterTabStopsAtActiveLine = 2
tabulation_clear_number clear.ClearAllCharacterTabStops = 3
tabulation_clear_number clear.ClearAllLineTabStops = 4
tabulation_clear_number clear.ClearAllTabStops = 5

-- the extent of a number
abbrev pub tabulation_clear_named : ℤ → Option TabulationClear
tabulation_clear_named z =
    named_by tabulation_clear_number (clear.ClearCharacterTabStopAtActivePosition ∷ clear.ClearLineTabStopAtActiveLine
    ∷ clear.ClearCharacterTabStopsAtActiveLine ∷ clear.ClearAllCharacterTabStops ∷ clear.ClearAllLineTabStops
    ∷ clear.ClearAllTabStops ∷ []) z

-- CTC, ECMA-48 8.3.17
abbrev pub tabulation_control_number : CursorTabulationControl → ℕ
tabulation_control_number control.SetCharacterTabStopAtActivePosition = 0
tabulation_control_number control.SetLineTabStopAtActiveLine = 1
tabulation_control_number control.ClearCharacterTabStopAtActivePosition = 2
tabulation_control_number control.ClearLineTabstopAtActiveLine = 3
tabulation_control_number control.ClearAllCharacterTabStopsAtActiveLine = 4
tabulation_control_number control.ClearAllCharacterTabStops = 5
tabulation_control_number control.ClearAllLineTabStops = 6

-- the control of a number
abbrev pub tabulation_control_named : ℤ → Option CursorTabulationControl
tabulation_control_named z =
    named_by tabulation_control_number (control.SetCharacterTabStopAtActivePosition ∷ control.SetLineTabStopAtActiveLine
    ∷ control.ClearCharacterTabStopAtActivePosition ∷ control.ClearLineTabstopAtActiveLine
    ∷ control.ClearAllCharacterTabStopsAtActiveLine ∷ control.ClearAllCharacterTabStops ∷ control.ClearAllLineTabStops
    ∷ []) z

-- ---- Writing

-- the parameters and the final byte of each sequence
abbrev pub cursor_slots : Cursor → Slots × ℕ
cursor_slots (cursor.Up n) = (counted n, 65)  -- A: CUU, ECMA-48 8.3.22
cursor_slots (cursor.Down n) = (counted n, 66)  -- B: CUD, 8.3.19
cursor_slots (cursor.Right n) = (counted n, 67)  -- C: CUF, 8.3.20
cursor_slots (cursor.Left n) = (counted n, 68)  -- D: CUB, 8.3.18
cursor_slots (cursor.NextLine n) = (counted n, 69)  -- E: CNL, 8.3.12
cursor_slots (cursor.PrecedingLine n) = (counted n, 70)  -- F: CPL, 8.3.13
cursor_slots (cursor.CharacterAbsolute n) = (placed n, 71)  -- G: CHA, 8.3.9
cursor_slots (cursor.CharacterPositionAbsolute n) = (placed n, 96)  -- `: HPA, 8.3.57
cursor_slots (cursor.LinePositionAbsolute n) = (placed n, 100)  -- d: VPA, 8.3.158
cursor_slots (cursor.CharacterPositionForward n) = (counted n, 97)  -- a: HPR, 8.3.59
cursor_slots (cursor.CharacterPositionBackward n) = (counted n, 106)  -- j: HPB, 8.3.58
cursor_slots (cursor.LinePositionForward n) = (counted n, 101)  -- e: VPR, 8.3.160
cursor_slots (cursor.LinePositionBackward n) = (counted n, 107)  -- k: VPB, 8.3.159
cursor_slots (cursor.Position line col) = (paired line col, 72)  -- H: CUP, 8.3.21
cursor_slots (cursor.CharacterAndLinePosition line col) = (paired line col, 102)  -- f: HVP, 8.3.63
cursor_slots (cursor.ActivePositionReport line col) = (paired line col, 82)  -- R: CPR, 8.3.14
cursor_slots (cursor.ForwardTabulation n) = (counted n, 73)  -- I: CHT, 8.3.10
cursor_slots (cursor.BackwardTabulation n) = (counted n, 90)  -- Z: CBT, 8.3.7
cursor_slots (cursor.LineTabulation n) = (counted n, 89)  -- Y: CVT, 8.3.23
cursor_slots (cursor.TabulationClear known) = (named (tabulation_clear_number known), 103)  -- g: TBC, 8.3.154
cursor_slots (cursor.TabulationControl known) = (named (tabulation_control_number known), 87)  -- W: CTC, 8.3.17
cursor_slots (cursor.SetTopAndBottomMargins top bottom) = (paired top bottom, 114)  -- r: DECSTBM, xterm
cursor_slots (cursor.SetLeftAndRightMargins left right) = (paired left right, 115)  -- s: DECSLRM, xterm
cursor_slots cursor.SaveCursor = (nothing, 115)  -- s: SCOSC, xterm
cursor_slots cursor.RestoreCursor = (nothing, 117)  -- u: SCORC, xterm
cursor_slots cursor.RequestActivePositionReport = (named 6, 110)  -- n: DSR 6, ECMA-48 8.3.35
cursor_slots (cursor.CursorStyle style) = (spaced (cursor_style_number style), 113)  -- q: DECSCUSR, xterm

unfoldable pub cursor_spelling : Cursor → Spelled
cursor_spelling c = slots_spelling (cursor_slots c)

-- ---- Reading

-- CSI s: the empty list saves the cursor, two positions are the margins
abbrev pub save_or_margins : List CsiParam → Option Cursor
save_or_margins [] = Some cursor.SaveCursor
save_or_margins ts = option_map (λ m. cursor.SetLeftAndRightMargins m.0 m.1) (coordinate_pair word_max ts)

abbrev pub restore : List CsiParam → Option Cursor
restore [] = Some cursor.RestoreCursor
restore _ = None

abbrev pub position_request : List CsiParam → Option Cursor
position_request (Integer z ∷ []) = if is_number 6 z then Some cursor.RequestActivePositionReport else None
position_request _ = None

-- the table of readings: a line for each final byte
abbrev pub cursor_lines : Lines Cursor
cursor_lines =
    count_lines cursor_slots (cursor.Up ∷ cursor.Down ∷ cursor.Right ∷ cursor.Left ∷ cursor.NextLine
    ∷ cursor.PrecedingLine ∷ cursor.CharacterAbsolute ∷ cursor.CharacterPositionAbsolute ∷ cursor.LinePositionAbsolute
    ∷ cursor.CharacterPositionForward ∷ cursor.CharacterPositionBackward ∷ cursor.LinePositionForward
    ∷ cursor.LinePositionBackward ∷ cursor.ForwardTabulation ∷ cursor.BackwardTabulation ∷ cursor.LineTabulation ∷ [])
    ++ (72, λ ts. option_map (λ m. cursor.Position m.0 m.1) (coordinate_pair 1 ts))  -- H
    ∷ (102, λ ts. option_map (λ m. cursor.CharacterAndLinePosition m.0 m.1) (coordinate_pair 1 ts))  -- f
    ∷ (82, λ ts. option_map (λ m. cursor.ActivePositionReport m.0 m.1) (coordinate_pair 1 ts))  -- R
    ∷ (103, λ ts. option_map cursor.TabulationClear (named_slot tabulation_clear_named (one_slot ts)))  -- g
    ∷ (87, λ ts. option_map cursor.TabulationControl (named_slot tabulation_control_named (one_slot ts)))  -- W
    ∷ (114, λ ts. option_map (λ m. cursor.SetTopAndBottomMargins m.0 m.1) (coordinate_pair word_max ts))  -- r
    ∷ (115, save_or_margins)  -- s
    ∷ (117, restore)  -- u
    ∷ (110, position_request)  -- n
    ∷ (113, λ ts. option_map cursor.CursorStyle (named_slot cursor_style_named (slot_and_space ts)))  -- q
    ∷ []

-- the cursor sequence that a list before a final byte encodes, if there is one
unfoldable pub cursor_reading : ℕ → List CsiParam → Option Cursor
cursor_reading final ts = read_by cursor_lines final ts
