-- A spellable list is written by parameter bytes.
use Rattle.std.proofs.Common.{◌≡◌, ℕ, ◌≤◌, pos, negsuc, true, not, ◌&&◌, List, [], ◌∷◌, ◌++◌, arith, refl, ap, ◌∙◌}
use Rattle.std.specs.Prelude.{ℤ, flat_map, encode_utf8}
use Rattle.std.specs.Char.{is_ascii_digit}
use Rattle.std.specs.Str.{all_ascii_digits}
use Rattle.std.specs.Fmt.{decimal}
use Rattle.std.proofs.lemmas.Bool.{leb-true, and_from, and_parts}
use Rattle.std.proofs.lemmas.Bool.Decides.{nat_tests}
use Rattle.csi_codec.specs.declared.parameters.CsiParam.{CsiParam}
use Rattle.csi_codec.specs.declared.parameters.CsiParam.TheVariants.{Integer, P}
use Rattle.csi_codec.specs.Parameters.{begins_with_number, token_text}
use Rattle.csi_codec.specs.Rendition.{is_between}
use Rattle.csi_codec.specs.Texts.{largest_number, is_sign, is_written_number, is_spellable, all_parameter_bytes}
use Rattle.csi_codec.proofs.TextLemmas.{decimal_digits, sign_text}

-- ---- Bytes

sign_byte : (b : ℕ) → is_sign b ≡ true → is_between 32 63 b ≡ true
sign_byte b h = grind (arith, nat_tests)

digit_byte : (b : ℕ) → is_ascii_digit b ≡ true → is_between 32 63 b ≡ true
digit_byte b h = grind (arith, nat_tests)

bytes-append : (a b : List ℕ) → all_parameter_bytes a ≡ true → all_parameter_bytes b ≡ true → all_parameter_bytes (a ++ b) ≡ true
bytes-append [] b h k = k
bytes-append (x ∷ a) b h k = and_from (is_between 32 63 x) (all_parameter_bytes (a ++ b)) (and_parts (is_between 32 63 x) (all_parameter_bytes a) h).0 (bytes-append a b (and_parts (is_between 32 63 x) (all_parameter_bytes a) h).1 k)

digit_bytes : (ds : List ℕ) → all_ascii_digits ds ≡ true → all_parameter_bytes ds ≡ true
digit_bytes [] h = refl
digit_bytes (d ∷ ds) h = and_from (is_between 32 63 d) (all_parameter_bytes ds) (digit_byte d (and_parts (is_ascii_digit d) (all_ascii_digits ds) h).0) (digit_bytes ds (and_parts (is_ascii_digit d) (all_ascii_digits ds) h).1)

pub spellable-tail : (t : CsiParam) (ts : List CsiParam) → is_spellable (t ∷ ts) ≡ true → is_spellable ts ≡ true
spellable-tail (P b) ts h = (and_parts (is_sign b) (is_spellable ts) h).1
spellable-tail (Integer z) ts h = (and_parts (not (begins_with_number ts)) (is_spellable ts) (and_parts (is_written_number z) (not (begins_with_number ts) && is_spellable ts) h).1).1

sign_bytes : (b : ℕ) → is_sign b ≡ true → all_parameter_bytes (encode_utf8 b) ≡ true
sign_bytes b h = ap all_parameter_bytes (sign_text b h) ∙ and_from (is_between 32 63 b) true (sign_byte b h) refl

number_bytes : (z : ℤ) → is_written_number z ≡ true → all_parameter_bytes (token_text (Integer z)) ≡ true
number_bytes (negsuc n) h = cc
number_bytes (pos n) h = let small : n ≤ largest_number = leb-true n largest_number h in digit_bytes (decimal n) (decimal_digits n (omega arith))

pub list_bytes : (ts : List CsiParam) → is_spellable ts ≡ true → all_parameter_bytes (flat_map token_text ts) ≡ true
list_bytes [] h = refl
list_bytes (P b ∷ ts) h = bytes-append (encode_utf8 b) (flat_map token_text ts) (sign_bytes b (and_parts (is_sign b) (is_spellable ts) h).0) (list_bytes ts (spellable-tail (P b) ts h))
list_bytes (Integer z ∷ ts) h =
    bytes-append (token_text (Integer z)) (flat_map token_text ts) (number_bytes z (and_parts (is_written_number z) (not (begins_with_number ts) && is_spellable ts) h).0) (list_bytes ts (spellable-tail (Integer z) ts h))
