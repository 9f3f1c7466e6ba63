-- Edits: how they are read, by final byte, and how they are written.
use Rattle.std.specs.Prelude.{ℕ, ℤ, List, [], ◌∷◌, ◌++◌, Option, option_map}
use Rattle.csi_codec.specs.Parameters.{one_slot, named_by, named_slot, Lines, read_by, Spelled}
use Rattle.csi_codec.specs.Slots.{Slots, counted, extent, slots_spelling, count_lines}
use Rattle.csi_codec.specs.declared.parameters.CsiParam.{CsiParam}
use Rattle.csi_codec.specs.declared.edits.EraseInLine.{EraseInLine}
use Rattle.csi_codec.specs.declared.edits.EraseInLine.TheVariants as line
use Rattle.csi_codec.specs.declared.edits.EraseInDisplay.{EraseInDisplay}
use Rattle.csi_codec.specs.declared.edits.EraseInDisplay.TheVariants as display
use Rattle.csi_codec.specs.declared.edits.Edit.{Edit}
use Rattle.csi_codec.specs.declared.edits.Edit.TheVariants as edit

-- ---- Numbers

-- EL, ECMA-48 8.3.41
abbrev pub erase_in_line_number : EraseInLine → ℕ
erase_in_line_number line.EraseToEndOfLine = 0
erase_in_line_number line.EraseToStartOfLine = 1
erase_in_line_number line.EraseLine = 2

-- the extent of a number
abbrev pub erase_in_line_named : ℤ → Option EraseInLine
erase_in_line_named z =
    named_by erase_in_line_number (line.EraseToEndOfLine ∷ line.EraseToStartOfLine ∷ line.EraseLine ∷ []) z

-- ED, ECMA-48 8.3.39; 3 is xterm's
abbrev pub erase_in_display_number : EraseInDisplay → ℕ
erase_in_display_number display.EraseToEndOfDisplay = 0
erase_in_display_number display.EraseToStartOfDisplay = 1
erase_in_display_number display.EraseDisplay = 2
erase_in_display_number display.EraseScrollback = 3

-- the extent of a number
abbrev pub erase_in_display_named : ℤ → Option EraseInDisplay
erase_in_display_named z =
    named_by erase_in_display_number (display.EraseToEndOfDisplay ∷ display.EraseToStartOfDisplay ∷ display.EraseDisplay
    ∷ display.EraseScrollback ∷ []) z

-- ---- Writing

-- the parameters and the final byte of each edit
abbrev pub edit_slots : Edit → Slots × ℕ
edit_slots (edit.InsertCharacter n) = (counted n, 64)  -- @: ICH, ECMA-48 8.3.64
edit_slots (edit.DeleteCharacter n) = (counted n, 80)  -- P: DCH, 8.3.26
edit_slots (edit.InsertLine n) = (counted n, 76)  -- L: IL, 8.3.67
edit_slots (edit.DeleteLine n) = (counted n, 77)  -- M: DL, 8.3.32
edit_slots (edit.EraseCharacter n) = (counted n, 88)  -- X: ECH, 8.3.38
edit_slots (edit.ScrollUp n) = (counted n, 83)  -- S: SU, 8.3.147
edit_slots (edit.ScrollDown n) = (counted n, 84)  -- T: SD, 8.3.113
edit_slots (edit.Repeat n) = (counted n, 98)  -- b: REP, 8.3.103
edit_slots (edit.EraseInDisplay known) = (extent (erase_in_display_number known), 74)  -- J: ED, 8.3.39
edit_slots (edit.EraseInLine known) = (extent (erase_in_line_number known), 75)  -- K: EL, 8.3.41

unfoldable pub edit_spelling : Edit → Spelled
edit_spelling e = slots_spelling (edit_slots e)

-- ---- Reading

-- the table of readings: a line for each final byte
abbrev pub edit_lines : Lines Edit
edit_lines =
    count_lines edit_slots (edit.InsertCharacter ∷ edit.DeleteCharacter ∷ edit.InsertLine ∷ edit.DeleteLine
    ∷ edit.EraseCharacter ∷ edit.ScrollUp ∷ edit.ScrollDown ∷ edit.Repeat ∷ [])
    ++ (74, λ ts. option_map edit.EraseInDisplay (named_slot erase_in_display_named (one_slot ts)))  -- J
    ∷ (75, λ ts. option_map edit.EraseInLine (named_slot erase_in_line_named (one_slot ts)))  -- K
    ∷ []

-- the edit that a list before a final byte encodes, if there is one
unfoldable pub edit_reading : ℕ → List CsiParam → Option Edit
edit_reading final ts = read_by edit_lines final ts
