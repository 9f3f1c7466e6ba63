-- Lists of bytes that all pass a test: parameter bytes, and bytes that are no controls.
use Rattle.std.proofs.Common.{◌≡◌, ℕ, ◌≤◌, Bool, true, false, List, [], ◌∷◌, refl, arith}
use Rattle.std.specs.Prelude.{◌==◌, not, nat_lt, All}
use Rattle.std.specs.List.{list_all, list_any}
use Rattle.std.specs.Char.{is_ascii_control}
use Rattle.std.proofs.lemmas.Bool.{and_parts, or_parts}
use Rattle.std.proofs.lemmas.Bool.Decides.{nat_tests}
use Rattle.std.proofs.lemmas.List.Elements.{All-head, All-tail}
use Rattle.csi_codec.specs.Rendition.{is_between}
use Rattle.csi_codec.specs.Texts.{all_parameter_bytes}
use Rattle.escape_framing.specs.Bytes.{is_stop, is_embedded, in_parameters, ends_command, taken}
use Rattle.csi_codec.specs.Tokens.{is_parameter}
use Rattle.escape_framing.specs.Dispatch.{controls_in}

pub same_number : (m n : ℕ) → (m == n) ≡ true → m ≡ n
same_number m n h = grind (arith, nat_tests)

pub low_byte : (b : ℕ) → b ≤ 126 → nat_lt b 128 ≡ true
low_byte b h = grind (arith, nat_tests)

-- bytes that pass a test pass a weaker one
pub all_weaker : (strong weak : ℕ → Bool) → ((b : ℕ) → strong b ≡ true → weak b ≡ true) → (bytes : List ℕ) → list_all strong bytes ≡ true → list_all weak bytes ≡ true
all_weaker strong weak w [] h = refl
all_weaker strong weak w (b ∷ bytes) h =
    let p = and_parts (strong b) (list_all strong bytes) h in
    rw (w b p.0, all_weaker strong weak w bytes p.1) refl

-- ---- No controls

abbrev pub is_plain : ℕ → Bool
is_plain b = not (is_ascii_control b)

is_high : (b : ℕ) → is_plain b ≡ true → nat_lt b 0x20 ≡ false
is_high b h = grind (arith, nat_tests)

-- nothing of them is dropped
pub taken_plain : (bytes : List ℕ) → list_all is_plain bytes ≡ true → taken bytes ≡ bytes
taken_plain [] h = refl
taken_plain (b ∷ bytes) h =
    let p = and_parts (is_plain b) (list_all is_plain bytes) h in
    rw (p.0, taken_plain bytes p.1) refl

-- and none acts
pub controls_in_plain : (bytes : List ℕ) → list_all is_plain bytes ≡ true → controls_in bytes ≡ []
controls_in_plain [] h = refl
controls_in_plain (b ∷ bytes) h =
    let p = and_parts (is_plain b) (list_all is_plain bytes) h in
    rw (is_high b p.0) (controls_in_plain bytes p.1)

plain_ends_none : (b : ℕ) → is_plain b ≡ true → not (ends_command b) ≡ true
unfolding is_stop
plain_ends_none b h = grind (arith, nat_tests)

-- none ends a command
pub ends_none : (bytes : List ℕ) → list_all is_plain bytes ≡ true → list_all (λ b. not (ends_command b)) bytes ≡ true
ends_none bytes h = all_weaker is_plain (λ b. not (ends_command b)) plain_ends_none bytes h

plain_byte : (b : ℕ) → is_ascii_control b ≡ false → is_plain b ≡ true
plain_byte b h = rw h refl

pub plain_bytes : (bytes : List ℕ) → list_any is_ascii_control bytes ≡ false → list_all is_plain bytes ≡ true
plain_bytes [] h = refl
plain_bytes (b ∷ bytes) h =
    let p = or_parts (is_ascii_control b) (list_any is_ascii_control bytes) h in
    rw (plain_byte b p.0, plain_bytes bytes p.1) refl

-- ---- Parameter bytes

abbrev pub is_parameter_byte : ℕ → Bool
is_parameter_byte b = is_between 32 63 b

pub parameter_bytes : (bytes : List ℕ) → all_parameter_bytes bytes ≡ true → list_all is_parameter_byte bytes ≡ true
parameter_bytes [] h = refl
parameter_bytes (b ∷ bytes) h =
    let p = and_parts (is_parameter_byte b) (all_parameter_bytes bytes) h in
    rw (p.0, parameter_bytes bytes p.1) refl

within : (b : ℕ) → (32 ≤ b) × (b ≤ 63) → is_parameter_byte b ≡ true
within b h = let l = h.0 in let u = h.1 in grind (arith, nat_tests)

pub header_bytes : (header : List ℕ) → All (λ b. (32 ≤ b) × (b ≤ 63)) header → list_all is_parameter_byte header ≡ true
header_bytes [] h = refl
header_bytes (b ∷ header) h =
    rw (within b (All-head (λ b. (32 ≤ b) × (b ≤ 63)) b header h), header_bytes header (All-tail (λ b. (32 ≤ b) × (b ≤ 63)) b header h)) refl

parameter_is_plain : (b : ℕ) → is_parameter_byte b ≡ true → is_plain b ≡ true
parameter_is_plain b h = grind (arith, nat_tests)

parameter_is_inside : (b : ℕ) → is_parameter_byte b ≡ true → in_parameters b ≡ true
unfolding is_embedded is_stop is_parameter
parameter_is_inside b h = grind (arith, nat_tests)

parameter_is_low : (b : ℕ) → is_parameter_byte b ≡ true → nat_lt b 128 ≡ true
parameter_is_low b h = grind (arith, nat_tests)

pub parameters_plain : (bytes : List ℕ) → list_all is_parameter_byte bytes ≡ true → list_all is_plain bytes ≡ true
parameters_plain bytes h = all_weaker is_parameter_byte is_plain parameter_is_plain bytes h

pub parameters_inside : (bytes : List ℕ) → list_all is_parameter_byte bytes ≡ true → list_all in_parameters bytes ≡ true
parameters_inside bytes h = all_weaker is_parameter_byte in_parameters parameter_is_inside bytes h

pub parameters_low : (bytes : List ℕ) → list_all is_parameter_byte bytes ≡ true → list_all (λ b. nat_lt b 128) bytes ≡ true
parameters_low bytes h = all_weaker is_parameter_byte (λ b. nat_lt b 128) parameter_is_low bytes h
