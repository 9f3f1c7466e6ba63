-- How many bytes the text of a value that can be written has at most.
use Rattle.std.proofs.Common.{◌≡◌, ℕ, ◌+◌, ◌<◌, ◌≤◌, ◌^◌, pos, eqb, List, [], ◌∷◌, length, length-append, arith, ap, refl}
use Rattle.std.specs.Prelude.{flat_map, encode_utf8}
use Rattle.std.specs.Fmt.{decimal}
use Rattle.std.proofs.lemmas.Fmt.{length-decimal-le}
use Rattle.std.proofs.lemmas.Bool.{leb-true, cond_both}
use Rattle.std.proofs.lemmas.Str.{encode_ascii}
use Rattle.csi_codec.specs.declared.parameters.CsiParam.{CsiParam}
use Rattle.csi_codec.specs.declared.parameters.CsiParam.TheVariants.{Integer, P}
use Rattle.csi_codec.specs.declared.cursors.Cursor.{Cursor}
use Rattle.csi_codec.specs.declared.devices.Device.{Device}
use Rattle.csi_codec.specs.declared.modes.Mode.{Mode}
use Rattle.csi_codec.specs.declared.rendition.Sgr.{Sgr}
use Rattle.csi_codec.specs.declared.devices.Device.TheVariants.{SoftReset, RequestPrimaryDeviceAttributes, StatusReport}
use Rattle.csi_codec.specs.declared.modes.DecPrivateMode.{DecPrivateMode}
use Rattle.csi_codec.specs.declared.modes.TerminalMode.{TerminalMode}
use Rattle.csi_codec.specs.declared.modes.Mode.TheVariants as does
use Rattle.csi_codec.specs.Parameters.{token_text, number_tokens, pair_tokens, private_tokens}
use Rattle.csi_codec.specs.declared.edits.Edit.{Edit}
use Rattle.csi_codec.specs.declared.edits.Edit.TheVariants as change
use Rattle.csi_codec.specs.Slots.{Slots, nothing, counted, placed, paired, named, extent, spaced, slots_tokens, IsCoordinate, AreCoordinates}
use Rattle.csi_codec.specs.Cursors.{cursor_slots, cursor_spelling}
use Rattle.csi_codec.specs.Edits.{edit_slots, edit_spelling}
use Rattle.csi_codec.specs.Devices.{device_spelling}
use Rattle.csi_codec.specs.Modes.{mode_spelling, dec_mode_code, ansi_mode_code}
use Rattle.csi_codec.specs.Rendition.{palette_tokens, opaque_tokens, alpha_tokens, sgr_spelling}
use Rattle.csi_codec.specs.Actions.{Action, sgr, cursor, edit, mode, device, unspecified, spelling_of}
use Rattle.csi_codec.specs.Sequences.{csi_text}
use Rattle.csi_codec.specs.Writable.{IsWritableCursor, IsWritableEdit, IsWritablePrivateMode, IsWritableStandardMode, IsWritableMode, IsWritableSgr}
use Rattle.csi_codec.specs.Sizes.{ActionsAreShort}
use Rattle.csi_codec.proofs.SlotLemmas.{AreDigits, cursor_digits, edit_digits, cursor_final, edit_final}
use Rattle.csi_codec.proofs.ModeBack.{private_within, standard_within}
use Rattle.csi_codec.proofs.ShapeLemmas.{Target, foreground}
use Rattle.csi_codec.proofs.SgrForms.{EachWritten, number_of, sgr_tokens-each}

-- ---- Tokens

-- the text of these tokens has at most k bytes
abbrev Short : ℕ → List CsiParam → Type 0
Short k ts = length (flat_map token_text ts) ≤ k

weaker : (j k : ℕ) (ts : List CsiParam) → Short j ts → j ≤ k → Short k ts
weaker j k ts h l = omega arith

sign_first : (k b : ℕ) (ts : List CsiParam) → b < 128 → Short k ts → Short (k + 1) (P b ∷ ts)
sign_first k b ts h l =
    let one : length (encode_utf8 b) ≡ 1 = ap length (encode_ascii b h) in
    omega (arith, length-append (encode_utf8 b) (flat_map token_text ts))

number_first : (k j n : ℕ) (ts : List CsiParam) → 0 < j → n < 10 ^ j → n < 2 ^ 64 → Short k ts → Short (k + j) (Integer (pos n) ∷ ts)
number_first k j n ts s h w l = omega (arith, length-decimal-le j n s h w, length-append (decimal n) (flat_map token_text ts))

number_short : (k n : ℕ) → 0 < k → n < 10 ^ k → n < 2 ^ 64 → Short k (number_tokens n)
number_short k n s h w = weaker (0 + k) k (number_tokens n) (number_first 0 k n [] s h w (omega arith)) (omega arith)

-- a `:` and a number of one byte
abbrev channel : ℕ → List CsiParam → List CsiParam
channel n ts = P 58 ∷ Integer (pos n) ∷ ts

channel_first : (k n : ℕ) (ts : List CsiParam) → n ≤ 255 → Short k ts → Short (k + 4) (channel n ts)
channel_first k n ts h l =
    weaker (k + 3 + 1) (k + 4) (channel n ts)
    (sign_first (k + 3) 58 (Integer (pos n) ∷ ts) (omega arith) (number_first k 3 n ts (omega arith) (omega arith) (omega arith) l)) (omega arith)

-- the number of a colour's target, a `:` and the number of its kind
kind_first : (k target kind : ℕ) (ts : List CsiParam) → target < 100 → kind < 10 → Short k ts → Short (k + 4) (Integer (pos target) ∷ P 58 ∷ Integer (pos kind) ∷ ts)
kind_first k target kind ts h d l =
    weaker (k + 1 + 1 + 2) (k + 4) (Integer (pos target) ∷ P 58 ∷ Integer (pos kind) ∷ ts)
    (number_first (k + 1 + 1) 2 target (P 58 ∷ Integer (pos kind) ∷ ts) (omega arith) (omega arith) (omega arith)
    (sign_first (k + 1) 58 (Integer (pos kind) ∷ ts) (omega arith) (number_first k 1 kind ts (omega arith) (omega arith) (omega arith) l))) (omega arith)

pair_short : (a b : ℕ) → IsCoordinate a → IsCoordinate b → Short 21 (pair_tokens a b)
pair_short a b h l =
    number_first 11 10 a (P 59 ∷ Integer (pos b) ∷ []) (omega arith) (omega (arith, h.1)) (omega (arith, h.1))
    (sign_first 10 59 (Integer (pos b) ∷ []) (omega arith) (number_short 10 b (omega arith) (omega (arith, l.1)) (omega (arith, l.1))))

-- ---- Texts

text_short : (k : ℕ) (a : Action) → Short k (spelling_of a).params → (spelling_of a).control < 128 → length (csi_text a) ≤ k + 3
text_short k a h c =
    let one : length (encode_utf8 (spelling_of a).control) ≡ 1 = ap length (encode_ascii (spelling_of a).control c) in
    omega (arith, length-append (flat_map token_text (spelling_of a).params) (encode_utf8 (spelling_of a).control))

digit_short : (n : ℕ) → n < 10 → Short 1 (number_tokens n)
digit_short n h = number_short 1 n (omega arith) (omega arith) (omega arith)

-- one number takes ten bytes at most, and two with a `;` 21
abbrev width : Slots → ℕ
width (paired a b) = 21
width nothing = 10
width (counted n) = 10
width (placed n) = 10
width (named n) = 10
width (extent n) = 10
width (spaced n) = 10

slots_short : (s : Slots) → AreCoordinates s → AreDigits s → Short (width s) (slots_tokens s)
slots_short nothing h d = omega arith
slots_short (counted n) h d = cond_both (eqb n 1) [] (number_tokens n) (Short 10) (λ e. omega arith) (λ e. number_short 10 n (omega arith) (omega (arith, h.1)) (omega (arith, h.1)))
slots_short (placed n) h d = number_short 10 n (omega arith) (omega (arith, h.1)) (omega (arith, h.1))
slots_short (paired a b) h d = pair_short a b h.0 h.1
slots_short (named n) h d = number_short 10 n (omega arith) (omega arith) (omega arith)
slots_short (extent n) h d = cond_both (eqb n 0) [] (number_tokens n) (Short 10) (λ e. omega arith) (λ e. number_short 10 n (omega arith) (omega arith) (omega arith))
slots_short (spaced n) h d = number_first 1 9 n (P 32 ∷ []) (omega arith) (omega arith) (omega arith) (sign_first 0 32 [] (omega arith) (omega arith))

width_within : (s : Slots) → width s ≤ 21
width_within (paired a b) = omega arith
width_within _ = omega arith

cursors_are_short : (c : Cursor) → IsWritableCursor c → length (csi_text (cursor c)) ≤ 24
unfolding cursor_spelling
cursors_are_short c h =
    text_short 21 (cursor c) (weaker (width (cursor_slots c).0) 21 (slots_tokens (cursor_slots c).0) (slots_short (cursor_slots c).0 h (cursor_digits c)) (width_within (cursor_slots c).0))
    (omega (arith, (cursor_final c).high))

-- an edit has one number at most
one_number : (e : Edit) → width (edit_slots e).0 ≡ 10
one_number (change.Repeat n) = refl
one_number _ = refl

edits_are_short : (e : Edit) → IsWritableEdit e → length (csi_text (edit e)) ≤ 13
unfolding edit_spelling
edits_are_short e h =
    text_short 10 (edit e) (weaker (width (edit_slots e).0) 10 (slots_tokens (edit_slots e).0) (slots_short (edit_slots e).0 h (edit_digits e)) (omega (arith, one_number e)))
    (omega (arith, (edit_final e).high))

devices_are_short : (d : Device) → length (csi_text (device d)) ≤ 4
unfolding device_spelling
devices_are_short SoftReset = text_short 1 (device SoftReset) (sign_first 0 33 [] (omega arith) (omega arith)) (omega arith)
devices_are_short RequestPrimaryDeviceAttributes = text_short 1 (device RequestPrimaryDeviceAttributes) (omega arith) (omega arith)
devices_are_short StatusReport = text_short 1 (device StatusReport) (digit_short 5 (omega arith)) (omega arith)

private_short : (m : DecPrivateMode) → IsWritablePrivateMode m → Short 6 (private_tokens (dec_mode_code m))
private_short m h =
    let small : dec_mode_code m ≤ 65535 = leb-true (dec_mode_code m) 65535 (private_within m h) in
    sign_first 5 63 (number_tokens (dec_mode_code m)) (omega arith) (number_short 5 (dec_mode_code m) (omega arith) (omega arith) (omega arith))

standard_short : (m : TerminalMode) → IsWritableStandardMode m → Short 6 (number_tokens (ansi_mode_code m))
standard_short m h =
    let small : ansi_mode_code m ≤ 65535 = leb-true (ansi_mode_code m) 65535 (standard_within m h) in
    number_short 6 (ansi_mode_code m) (omega arith) (omega arith) (omega arith)

modes_are_short : (m : Mode) → IsWritableMode m → length (csi_text (mode m)) ≤ 9
unfolding mode_spelling
modes_are_short (does.SetDecPrivateMode m) h = text_short 6 (mode (does.SetDecPrivateMode m)) (private_short m h) (omega arith)
modes_are_short (does.ResetDecPrivateMode m) h = text_short 6 (mode (does.ResetDecPrivateMode m)) (private_short m h) (omega arith)
modes_are_short (does.SaveDecPrivateMode m) h = text_short 6 (mode (does.SaveDecPrivateMode m)) (private_short m h) (omega arith)
modes_are_short (does.RestoreDecPrivateMode m) h = text_short 6 (mode (does.RestoreDecPrivateMode m)) (private_short m h) (omega arith)
modes_are_short (does.SetMode m) h = text_short 6 (mode (does.SetMode m)) (standard_short m h) (omega arith)
modes_are_short (does.ResetMode m) h = text_short 6 (mode (does.ResetMode m)) (standard_short m h) (omega arith)

-- ---- SGR

byte_short : (n : ℕ) → n ≤ 255 → Short 21 (number_tokens n)
byte_short n h = number_short 21 n (omega arith) (omega arith) (omega arith)

palette_short : (target n : ℕ) → target < 100 → n ≤ 255 → Short 21 (palette_tokens target n)
palette_short target n t h =
    weaker 8 21 (palette_tokens target n) (kind_first 4 target 5 (channel n []) t (omega arith) (channel_first 0 n [] h (omega arith))) (omega arith)

opaque_short : (target r g b : ℕ) → target < 100 → r ≤ 255 → g ≤ 255 → b ≤ 255 → Short 21 (opaque_tokens target r g b)
opaque_short target r g b t h l m =
    weaker 17 21 (opaque_tokens target r g b)
    (kind_first 13 target 2 (P 58 ∷ channel r (channel g (channel b []))) t (omega arith)
    (sign_first 12 58 (channel r (channel g (channel b []))) (omega arith)
    (channel_first 8 r (channel g (channel b [])) h (channel_first 4 g (channel b []) l (channel_first 0 b [] m (omega arith)))))) (omega arith)

alpha_short : (target r g b a : ℕ) → target < 100 → r ≤ 255 → g ≤ 255 → b ≤ 255 → a ≤ 255 → Short 21 (alpha_tokens target r g b a)
alpha_short target r g b a t h l m o =
    kind_first 17 target 6 (P 58 ∷ channel r (channel g (channel b (channel a [])))) t (omega arith)
    (sign_first 16 58 (channel r (channel g (channel b (channel a [])))) (omega arith)
    (channel_first 12 r (channel g (channel b (channel a []))) h
    (channel_first 8 g (channel b (channel a [])) l (channel_first 4 b (channel a []) m (channel_first 0 a [] o (omega arith))))))

wavy_short : (k : ℕ) → k < 10 → Short 21 (Integer (pos 4) ∷ P 58 ∷ Integer (pos k) ∷ [])
wavy_short k h =
    weaker 3 21 (Integer (pos 4) ∷ P 58 ∷ Integer (pos k) ∷ [])
    (number_first 2 1 4 (P 58 ∷ Integer (pos k) ∷ []) (omega arith) (omega arith) (omega arith) (sign_first 1 58 (Integer (pos k) ∷ []) (omega arith) (digit_short k h))) (omega arith)

target_bound : (t : Target) → number_of t < 100
target_bound foreground = omega arith
target_bound _ = omega arith

forms_short : EachWritten (λ ts v. Short 21 ts)
forms_short = record {
  single = λ n v h e. byte_short n h;
  line = λ k u h e. wavy_short k h;
  palette = λ t n h. palette_short (number_of t) n (target_bound t) h;
  opaque = λ t r g b h k l. opaque_short (number_of t) r g b (target_bound t) h k l;
  alpha = λ t r g b a h k l m. alpha_short (number_of t) r g b a (target_bound t) h k l m;
}

sgrs_are_short : (v : Sgr) → IsWritableSgr v → length (csi_text (sgr v)) ≤ 24
unfolding sgr_spelling
sgrs_are_short v h = text_short 21 (sgr v) (sgr_tokens-each forms_short v h) (omega arith)

pub actions_are_short : ActionsAreShort
actions_are_short (sgr v) h = sgrs_are_short v h
actions_are_short (cursor c) h = cursors_are_short c h
actions_are_short (edit e) h = omega (arith, edits_are_short e h)
actions_are_short (mode m) h = omega (arith, modes_are_short m h)
actions_are_short (device d) h = omega (arith, devices_are_short d)
actions_are_short (unspecified params flag final) h = absurd h
