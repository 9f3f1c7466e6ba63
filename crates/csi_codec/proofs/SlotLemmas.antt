-- The parameters of cursor sequences and edits: how they are written, and how much of that there is.
use Rattle.std.proofs.Common.{◌≡◌, ℕ, ◌≤◌, ◌<◌, eqb, true, [], arith, refl}
use Rattle.std.proofs.lemmas.Bool.{cond_both, le-leb}
use Rattle.csi_codec.specs.declared.cursors.CursorStyle.{CursorStyle}
use Rattle.csi_codec.specs.declared.cursors.CursorStyle.TheVariants as style
use Rattle.csi_codec.specs.declared.cursors.TabulationClear.{TabulationClear}
use Rattle.csi_codec.specs.declared.cursors.TabulationClear.TheVariants as clear
use Rattle.csi_codec.specs.declared.cursors.CursorTabulationControl.{CursorTabulationControl}
use Rattle.csi_codec.specs.declared.cursors.CursorTabulationControl.TheVariants as control
use Rattle.csi_codec.specs.declared.cursors.Cursor.{Cursor}
use Rattle.csi_codec.specs.declared.cursors.Cursor.TheVariants as variant
use Rattle.csi_codec.specs.declared.edits.EraseInLine.{EraseInLine}
use Rattle.csi_codec.specs.declared.edits.EraseInLine.TheVariants as line
use Rattle.csi_codec.specs.declared.edits.EraseInDisplay.{EraseInDisplay}
use Rattle.csi_codec.specs.declared.edits.EraseInDisplay.TheVariants as display
use Rattle.csi_codec.specs.declared.edits.Edit.{Edit}
use Rattle.csi_codec.specs.declared.edits.Edit.TheVariants as change
use Rattle.csi_codec.specs.Parameters.{word_max, number_tokens, pair_tokens}
use Rattle.csi_codec.specs.Slots.{Slots, nothing, counted, placed, paired, named, extent, spaced, slots_tokens, IsCoordinate, AreCoordinates}
use Rattle.csi_codec.specs.Cursors.{cursor_style_number, tabulation_clear_number, tabulation_control_number, cursor_slots}
use Rattle.csi_codec.specs.Edits.{erase_in_line_number, erase_in_display_number, edit_slots}
use Rattle.csi_codec.specs.Texts.{largest_number, is_spellable}

-- the numbers of names have one digit
abbrev pub AreDigits : Slots → Type 0
AreDigits (named n) = n < 10
AreDigits (extent n) = n < 10
AreDigits (spaced n) = n < 10
AreDigits nothing = Unit {0}
AreDigits (counted n) = Unit {0}
AreDigits (placed n) = Unit {0}
AreDigits (paired a b) = Unit {0}

clear_digit : (known : TabulationClear) → tabulation_clear_number known < 10
clear_digit clear.ClearCharacterTabStopAtActivePosition = omega arith
clear_digit _ = omega arith

control_digit : (known : CursorTabulationControl) → tabulation_control_number known < 10
control_digit control.SetCharacterTabStopAtActivePosition = omega arith
control_digit _ = omega arith

style_digit : (known : CursorStyle) → cursor_style_number known < 10
style_digit style.Default = omega arith
style_digit _ = omega arith

line_digit : (known : EraseInLine) → erase_in_line_number known < 10
line_digit line.EraseToEndOfLine = omega arith
line_digit line.EraseToStartOfLine = omega arith
line_digit line.EraseLine = omega arith

display_digit : (known : EraseInDisplay) → erase_in_display_number known < 10
display_digit display.EraseToEndOfDisplay = omega arith
display_digit display.EraseToStartOfDisplay = omega arith
display_digit display.EraseDisplay = omega arith
display_digit display.EraseScrollback = omega arith

pub cursor_digits : (c : Cursor) → AreDigits (cursor_slots c).0
cursor_digits (variant.TabulationClear known) = clear_digit known
cursor_digits (variant.TabulationControl known) = control_digit known
cursor_digits (variant.CursorStyle known) = style_digit known
cursor_digits variant.RequestActivePositionReport = omega arith
cursor_digits _ = tt

pub edit_digits : (e : Edit) → AreDigits (edit_slots e).0
edit_digits (change.EraseInDisplay known) = display_digit known
edit_digits (change.EraseInLine known) = line_digit known
edit_digits _ = tt

-- ---- Final bytes

pub record IsFinal (final : ℕ) : Type 0 where
  pub low : 64 ≤ final
  pub high : final ≤ 126

pub cursor_final : (c : Cursor) → IsFinal (cursor_slots c).1
cursor_final variant.SaveCursor = record { low = omega arith; high = omega arith }
cursor_final _ = record { low = omega arith; high = omega arith }

pub edit_final : (e : Edit) → IsFinal (edit_slots e).1
edit_final (change.Repeat n) = record { low = omega arith; high = omega arith }
edit_final _ = record { low = omega arith; high = omega arith }

-- ---- Tokens

pub number_written : (n : ℕ) → n ≤ word_max → is_spellable (number_tokens n) ≡ true
number_written n h = rw (le-leb n largest_number (omega arith)) refl

pair_written : (a b : ℕ) → IsCoordinate a → IsCoordinate b → is_spellable (pair_tokens a b) ≡ true
pair_written a b h k =
    let x : a ≤ largest_number = omega (arith, h.1) in
    let y : b ≤ largest_number = omega (arith, k.1) in
    rw (le-leb a largest_number x, le-leb b largest_number y) refl

-- they can be encoded in bytes
pub slots_written : (s : Slots) → AreCoordinates s → AreDigits s → is_spellable (slots_tokens s) ≡ true
slots_written nothing h d = refl
slots_written (counted n) h d = cond_both (eqb n 1) [] (number_tokens n) (λ ts. is_spellable ts ≡ true) (λ e. refl) (λ e. number_written n h.1)
slots_written (placed n) h d = number_written n h.1
slots_written (paired a b) h d = pair_written a b h.0 h.1
slots_written (named n) h d = number_written n (omega arith)
slots_written (extent n) h d = cond_both (eqb n 0) [] (number_tokens n) (λ ts. is_spellable ts ≡ true) (λ e. refl) (λ e. number_written n (omega arith))
slots_written (spaced n) h d = rw (le-leb n largest_number (omega arith)) refl
