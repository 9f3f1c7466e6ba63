-- The encoding of a value that can be written: parameters that bytes can encode, and a final byte.
use Rattle.std.proofs.Common.{◌≡◌, ℕ, ◌≤◌, leb, true, [], ◌∷◌, arith, refl}
use Rattle.std.proofs.lemmas.Bool.{leb-true, le-leb}
use Rattle.csi_codec.specs.declared.cursors.Cursor.{Cursor}
use Rattle.csi_codec.specs.declared.edits.Edit.{Edit}
use Rattle.csi_codec.specs.declared.devices.Device.{Device}
use Rattle.csi_codec.specs.declared.devices.Device.TheVariants.{SoftReset, RequestPrimaryDeviceAttributes, StatusReport}
use Rattle.csi_codec.specs.declared.modes.DecPrivateMode.{DecPrivateMode}
use Rattle.csi_codec.specs.declared.modes.TerminalMode.{TerminalMode}
use Rattle.csi_codec.specs.declared.modes.Mode.{Mode}
use Rattle.csi_codec.specs.declared.modes.Mode.TheVariants as does
use Rattle.csi_codec.specs.declared.parameters.CsiParam.TheVariants.{P}
use Rattle.csi_codec.specs.declared.rendition.Sgr.{Sgr}
use Rattle.csi_codec.specs.Parameters.{number_tokens, private_tokens}
use Rattle.csi_codec.specs.Cursors.{cursor_slots, cursor_spelling}
use Rattle.csi_codec.specs.Edits.{edit_slots, edit_spelling}
use Rattle.csi_codec.specs.Devices.{device_spelling}
use Rattle.csi_codec.specs.Modes.{dec_mode_code, ansi_mode_code, mode_spelling}
use Rattle.csi_codec.specs.Rendition.{number, sgr_spelling}
use Rattle.csi_codec.specs.Actions.{Action, sgr, cursor, edit, mode, device, unspecified, spelling_of}
use Rattle.csi_codec.specs.Texts.{largest_number, is_spellable}
use Rattle.csi_codec.specs.Writable.{IsWritableCursor, IsWritableEdit, IsWritablePrivateMode, IsWritableStandardMode, IsWritableMode, IsWritableSgr, IsWritable}
use Rattle.csi_codec.proofs.SlotLemmas.{cursor_digits, edit_digits, cursor_final, edit_final, number_written, slots_written}
use Rattle.csi_codec.proofs.ModeBack.{private_within, standard_within}
use Rattle.csi_codec.proofs.ShapeLemmas.{Target, foreground}
use Rattle.csi_codec.proofs.SgrForms.{EachWritten, number_of, sgr_tokens-each}

-- an action's parameters can be encoded in bytes, and its final byte is a final byte (64 to 126)
pub record IsWritten (a : Action) : Type 0 where
  pub params : is_spellable (spelling_of a).params ≡ true
  pub low : 64 ≤ (spelling_of a).control
  pub high : (spelling_of a).control ≤ 126

abbrev DeviceWritten : Device → Type 0
DeviceWritten d = IsWritten (device d)

abbrev ModeWritten : Mode → Type 0
ModeWritten m = IsWritten (mode m)

cursor_written : (c : Cursor) → IsWritableCursor c → IsWritten (cursor c)
unfolding cursor_spelling
cursor_written c h =
    record { params = slots_written (cursor_slots c).0 h (cursor_digits c); low = (cursor_final c).low; high = (cursor_final c).high }

edit_written : (e : Edit) → IsWritableEdit e → IsWritten (edit e)
unfolding edit_spelling
edit_written e h =
    record { params = slots_written (edit_slots e).0 h (edit_digits e); low = (edit_final e).low; high = (edit_final e).high }

device_written : (d : Device) → DeviceWritten d
unfolding device_spelling
device_written SoftReset = record { params = refl; low = omega arith; high = omega arith }
device_written RequestPrimaryDeviceAttributes = record { params = refl; low = omega arith; high = omega arith }
device_written StatusReport = record { params = refl; low = omega arith; high = omega arith }

-- ---- Modes

private_written : (m : DecPrivateMode) → IsWritablePrivateMode m → is_spellable (private_tokens (dec_mode_code m)) ≡ true
private_written m h =
    let small : dec_mode_code m ≤ 65535 = leb-true (dec_mode_code m) 65535 (private_within m h) in
    let x : dec_mode_code m ≤ largest_number = omega arith in
    rw (le-leb (dec_mode_code m) largest_number x) refl

standard_written : (m : TerminalMode) → IsWritableStandardMode m → is_spellable (number_tokens (ansi_mode_code m)) ≡ true
standard_written m h =
    let small : ansi_mode_code m ≤ 65535 = leb-true (ansi_mode_code m) 65535 (standard_within m h) in
    number_written (ansi_mode_code m) (omega arith)

mode_written : (m : Mode) → IsWritableMode m → ModeWritten m
unfolding mode_spelling
mode_written (does.SetDecPrivateMode m) h = record { params = private_written m h; low = omega arith; high = omega arith }
mode_written (does.ResetDecPrivateMode m) h = record { params = private_written m h; low = omega arith; high = omega arith }
mode_written (does.SaveDecPrivateMode m) h = record { params = private_written m h; low = omega arith; high = omega arith }
mode_written (does.RestoreDecPrivateMode m) h = record { params = private_written m h; low = omega arith; high = omega arith }
mode_written (does.SetMode m) h = record { params = standard_written m h; low = omega arith; high = omega arith }
mode_written (does.ResetMode m) h = record { params = standard_written m h; low = omega arith; high = omega arith }

-- ---- SGR

byte_large : (n : ℕ) → n ≤ 255 → leb n largest_number ≡ true
byte_large n h = le-leb n largest_number (omega arith)

target_large : (t : Target) → leb (number_of t) largest_number ≡ true
target_large foreground = refl
target_large _ = refl

forms_written : EachWritten (λ ts v. is_spellable ts ≡ true)
forms_written = record {
  single = λ n v h e. number_written n (omega arith);
  line = λ n u h e. number_after n (byte_large n (omega arith));
  palette = λ t n h. rw (target_large t, byte_large n h) refl;
  opaque = λ t r g b h k l. rw (target_large t, byte_large r h, byte_large g k, byte_large b l) refl;
  alpha = λ t r g b a h k l m. rw (target_large t, byte_large r h, byte_large g k, byte_large b l, byte_large a m) refl;
}
  where
    number_after : (n : ℕ) → leb n largest_number ≡ true → is_spellable (number 4 ∷ P 58 ∷ number n ∷ []) ≡ true
    number_after n e = rw e refl

sgr_written : (v : Sgr) → IsWritableSgr v → IsWritten (sgr v)
unfolding sgr_spelling
sgr_written v h = record { params = sgr_tokens-each forms_written v h; low = omega arith; high = omega arith }

pub action_written : (a : Action) → IsWritable a → IsWritten a
action_written (sgr v) h = sgr_written v h
action_written (cursor c) h = cursor_written c h
action_written (edit e) h = edit_written e h
action_written (mode m) h = mode_written m h
action_written (device d) h = device_written d
action_written (unspecified params truncated final) h = absurd h
