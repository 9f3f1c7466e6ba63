-- Parameter bytes and the tokens that they encode.
use Rattle.std.specs.Prelude.{ℕ, ℤ, pos, negsuc, ◌+◌, ◌-◌, ◌*◌, min, Bool, true, false, not, ◌&&◌, ◌||◌, List, [], ◌∷◌}
use Rattle.std.specs.Prelude.{◌++◌, Option, Some, None, unwrap_or, nat_le, if◌then◌else◌}
use Rattle.std.specs.Char.{is_ascii_digit}
use Rattle.std.specs.List.{list_all}
use Rattle.csi_codec.specs.declared.parameters.CsiParam.{CsiParam}
use Rattle.csi_codec.specs.declared.parameters.CsiParam.TheVariants.{Integer, P}
use Rattle.csi_codec.specs.Parameters.{begins_with_number}
use Rattle.csi_codec.specs.Rendition.{is_between}

-- the largest number of a token, the largest i64
abbrev pub largest_number : ℕ
largest_number = 9223372036854775807

-- the token of the digits read so far, cut at the largest
abbrev pub begun_token : Option ℕ → List CsiParam
begun_token None = []
begun_token (Some n) = Integer (pos (min n largest_number)) ∷ []

-- the tokens of the digits read so far and the bytes after them
abbrev pub tokens_after : Option ℕ → List ℕ → List CsiParam
tokens_after begun [] = begun_token begun
tokens_after begun (b ∷ bs) =
    if is_ascii_digit b then tokens_after (Some (10 * unwrap_or begun 0 + (b - 48))) bs
    else begun_token begun ++ P b ∷ tokens_after None bs

-- ECMA-48 5.4.2: a run of digits is a number, cut at the largest; any other byte is itself
abbrev pub tokens_of : List ℕ → List CsiParam
tokens_of bytes = tokens_after None bytes

-- ---- Lists that bytes can encode

-- ECMA-48 5.4: intermediate bytes, and parameter bytes except digits
abbrev pub is_sign : ℕ → Bool
is_sign b = is_between 32 47 b || is_between 58 63 b

abbrev pub is_written_number : ℤ → Bool
is_written_number (pos n) = nat_le n largest_number
is_written_number (negsuc n) = false

-- numbers that can be written, no two of them side by side, and bytes that are signs
abbrev pub is_spellable : List CsiParam → Bool
is_spellable [] = true
is_spellable (P b ∷ ts) = is_sign b && is_spellable ts
is_spellable (Integer z ∷ ts) = is_written_number z && (not (begins_with_number ts) && is_spellable ts)

-- the bytes between ESC [ and the final byte
abbrev pub all_parameter_bytes : List ℕ → Bool
all_parameter_bytes bytes = list_all (is_between 32 63) bytes
