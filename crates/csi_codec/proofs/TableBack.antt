-- Each value of the tables of whole lists reads back from its encoding.
use Rattle.std.proofs.Common.{◌≡◌, Bool, List, Some, None, option_map, refl, ap}
use Rattle.csi_codec.specs.declared.cursors.CursorStyle.{CursorStyle}
use Rattle.csi_codec.specs.declared.cursors.CursorStyle.TheVariants as style
use Rattle.csi_codec.specs.declared.cursors.TabulationClear.{TabulationClear}
use Rattle.csi_codec.specs.declared.cursors.TabulationClear.TheVariants as clear
use Rattle.csi_codec.specs.declared.cursors.CursorTabulationControl.{CursorTabulationControl}
use Rattle.csi_codec.specs.declared.cursors.CursorTabulationControl.TheVariants as control
use Rattle.csi_codec.specs.declared.cursors.Cursor.{Cursor}
use Rattle.csi_codec.specs.declared.cursors.Cursor.TheVariants as variant
use Rattle.csi_codec.specs.declared.edits.EraseInLine.{EraseInLine}
use Rattle.csi_codec.specs.declared.edits.EraseInLine.TheVariants as line
use Rattle.csi_codec.specs.declared.edits.EraseInDisplay.{EraseInDisplay}
use Rattle.csi_codec.specs.declared.edits.EraseInDisplay.TheVariants as display
use Rattle.csi_codec.specs.declared.edits.Edit.{Edit}
use Rattle.csi_codec.specs.declared.edits.Edit.TheVariants as change
use Rattle.csi_codec.specs.declared.devices.Device.{Device}
use Rattle.csi_codec.specs.declared.devices.Device.TheVariants.{SoftReset, RequestPrimaryDeviceAttributes, StatusReport}
use Rattle.csi_codec.specs.declared.parameters.CsiParam.{CsiParam}
use Rattle.csi_codec.specs.Parameters.{word_max}
use Rattle.csi_codec.specs.Slots.{slots_tokens}
use Rattle.csi_codec.specs.Cursors.{cursor_slots, cursor_reading, cursor_spelling}
use Rattle.csi_codec.specs.Edits.{edit_slots, edit_reading, edit_spelling}
use Rattle.csi_codec.specs.Devices.{device_reading, device_spelling}
use Rattle.csi_codec.specs.Actions.{cursor, edit, device, csi_reading}
use Rattle.csi_codec.specs.Laws.{ReadsBack}
use Rattle.csi_codec.specs.Writable.{IsWritableCursor, IsWritableEdit}
use Rattle.csi_codec.proofs.BackLemmas.{IsSingle, single_back, cursor_found, edit_found, count_back, count_tokens_back, pair_back, slots_plain}

-- ---- The encoding is read as its value

clear_read : (known : TabulationClear) → cursor_reading (cursor_slots (variant.TabulationClear known)).1 (slots_tokens (cursor_slots (variant.TabulationClear known)).0) ≡ Some (variant.TabulationClear known)
unfolding cursor_reading
clear_read clear.ClearCharacterTabStopAtActivePosition = refl
clear_read _ = refl

control_read : (known : CursorTabulationControl) → cursor_reading (cursor_slots (variant.TabulationControl known)).1 (slots_tokens (cursor_slots (variant.TabulationControl known)).0) ≡ Some (variant.TabulationControl known)
unfolding cursor_reading
control_read control.SetCharacterTabStopAtActivePosition = refl
control_read _ = refl

style_read : (known : CursorStyle) → cursor_reading (cursor_slots (variant.CursorStyle known)).1 (slots_tokens (cursor_slots (variant.CursorStyle known)).0) ≡ Some (variant.CursorStyle known)
unfolding cursor_reading
style_read style.Default = refl
style_read _ = refl

line_read : (known : EraseInLine) → edit_reading (edit_slots (change.EraseInLine known)).1 (slots_tokens (edit_slots (change.EraseInLine known)).0) ≡ Some (change.EraseInLine known)
unfolding edit_reading
line_read line.EraseToEndOfLine = refl
line_read line.EraseToStartOfLine = refl
line_read line.EraseLine = refl

display_read : (known : EraseInDisplay) → edit_reading (edit_slots (change.EraseInDisplay known)).1 (slots_tokens (edit_slots (change.EraseInDisplay known)).0) ≡ Some (change.EraseInDisplay known)
unfolding edit_reading
display_read display.EraseToEndOfDisplay = refl
display_read display.EraseToStartOfDisplay = refl
display_read display.EraseDisplay = refl
display_read display.EraseScrollback = refl

cursor_read : (c : Cursor) → IsWritableCursor c → cursor_reading (cursor_slots c).1 (slots_tokens (cursor_slots c).0) ≡ Some c
unfolding cursor_reading
cursor_read (variant.Up n) h = ap (option_map variant.Up) (count_tokens_back n h)
cursor_read (variant.Down n) h = ap (option_map variant.Down) (count_tokens_back n h)
cursor_read (variant.Right n) h = ap (option_map variant.Right) (count_tokens_back n h)
cursor_read (variant.Left n) h = ap (option_map variant.Left) (count_tokens_back n h)
cursor_read (variant.NextLine n) h = ap (option_map variant.NextLine) (count_tokens_back n h)
cursor_read (variant.PrecedingLine n) h = ap (option_map variant.PrecedingLine) (count_tokens_back n h)
cursor_read (variant.CharacterPositionForward n) h = ap (option_map variant.CharacterPositionForward) (count_tokens_back n h)
cursor_read (variant.CharacterPositionBackward n) h = ap (option_map variant.CharacterPositionBackward) (count_tokens_back n h)
cursor_read (variant.LinePositionForward n) h = ap (option_map variant.LinePositionForward) (count_tokens_back n h)
cursor_read (variant.LinePositionBackward n) h = ap (option_map variant.LinePositionBackward) (count_tokens_back n h)
cursor_read (variant.ForwardTabulation n) h = ap (option_map variant.ForwardTabulation) (count_tokens_back n h)
cursor_read (variant.BackwardTabulation n) h = ap (option_map variant.BackwardTabulation) (count_tokens_back n h)
cursor_read (variant.LineTabulation n) h = ap (option_map variant.LineTabulation) (count_tokens_back n h)
cursor_read (variant.CharacterAbsolute n) h = ap (option_map variant.CharacterAbsolute) (count_back n h)
cursor_read (variant.CharacterPositionAbsolute n) h = ap (option_map variant.CharacterPositionAbsolute) (count_back n h)
cursor_read (variant.LinePositionAbsolute n) h = ap (option_map variant.LinePositionAbsolute) (count_back n h)
cursor_read (variant.Position a b) h = ap (option_map (λ m. variant.Position m.0 m.1)) (pair_back 1 a b h.0 h.1)
cursor_read (variant.CharacterAndLinePosition a b) h = ap (option_map (λ m. variant.CharacterAndLinePosition m.0 m.1)) (pair_back 1 a b h.0 h.1)
cursor_read (variant.ActivePositionReport a b) h = ap (option_map (λ m. variant.ActivePositionReport m.0 m.1)) (pair_back 1 a b h.0 h.1)
cursor_read (variant.SetTopAndBottomMargins a b) h = ap (option_map (λ m. variant.SetTopAndBottomMargins m.0 m.1)) (pair_back word_max a b h.0 h.1)
cursor_read (variant.SetLeftAndRightMargins a b) h = ap (option_map (λ m. variant.SetLeftAndRightMargins m.0 m.1)) (pair_back word_max a b h.0 h.1)
cursor_read (variant.TabulationClear known) h = clear_read known
cursor_read (variant.TabulationControl known) h = control_read known
cursor_read (variant.CursorStyle known) h = style_read known
cursor_read variant.SaveCursor h = refl
cursor_read variant.RestoreCursor h = refl
cursor_read variant.RequestActivePositionReport h = refl

edit_read : (e : Edit) → IsWritableEdit e → edit_reading (edit_slots e).1 (slots_tokens (edit_slots e).0) ≡ Some e
unfolding edit_reading
edit_read (change.InsertCharacter n) h = ap (option_map change.InsertCharacter) (count_tokens_back n h)
edit_read (change.DeleteCharacter n) h = ap (option_map change.DeleteCharacter) (count_tokens_back n h)
edit_read (change.InsertLine n) h = ap (option_map change.InsertLine) (count_tokens_back n h)
edit_read (change.DeleteLine n) h = ap (option_map change.DeleteLine) (count_tokens_back n h)
edit_read (change.EraseCharacter n) h = ap (option_map change.EraseCharacter) (count_tokens_back n h)
edit_read (change.ScrollUp n) h = ap (option_map change.ScrollUp) (count_tokens_back n h)
edit_read (change.ScrollDown n) h = ap (option_map change.ScrollDown) (count_tokens_back n h)
edit_read (change.Repeat n) h = ap (option_map change.Repeat) (count_tokens_back n h)
edit_read (change.EraseInDisplay known) h = display_read known
edit_read (change.EraseInLine known) h = line_read known

-- ---- The encoding is read as no other value

cursor_single : (c : Cursor) → IsSingle (cursor_slots c).1
cursor_single variant.SaveCursor = record { other = refl; no_modes = refl }
cursor_single _ = record { other = refl; no_modes = refl }

edit_single : (e : Edit) → IsSingle (edit_slots e).1
edit_single (change.Repeat n) = record { other = refl; no_modes = refl }
edit_single _ = record { other = refl; no_modes = refl }

no_cursor : (e : Edit) (ts : List CsiParam) → cursor_reading (edit_slots e).1 ts ≡ None
unfolding cursor_reading
no_cursor (change.Repeat n) ts = refl
no_cursor _ ts = refl

module _ (truncated : Bool) where
  pub cursor_back : (c : Cursor) → IsWritableCursor c → ReadsBack truncated (cursor c)
  unfolding cursor_spelling
  cursor_back c h =
      single_back truncated (cursor_slots c).1 (slots_tokens (cursor_slots c).0) (cursor c) (cursor_single c) (slots_plain (cursor_slots c).0)
      (cursor_found (cursor_slots c).1 (slots_tokens (cursor_slots c).0) c (cursor_read c h))

  pub edit_back : (e : Edit) → IsWritableEdit e → ReadsBack truncated (edit e)
  unfolding edit_spelling
  edit_back e h =
      single_back truncated (edit_slots e).1 (slots_tokens (edit_slots e).0) (edit e) (edit_single e) (slots_plain (edit_slots e).0)
      (edit_found (edit_slots e).1 (slots_tokens (edit_slots e).0) e (no_cursor e (slots_tokens (edit_slots e).0)) (edit_read e h))

  pub device_back : (d : Device) → ReadsBack truncated (device d)
  unfolding csi_reading cursor_reading edit_reading device_reading device_spelling
  device_back SoftReset = refl
  device_back RequestPrimaryDeviceAttributes = refl
  device_back StatusReport = refl
