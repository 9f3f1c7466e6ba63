-- Definitions for private functions that write: the digits of a number, and a sequence without its final byte yet.
use Rattle.std.specs.Prelude.{ℕ, ◌+◌, ◌/◌, ◌%◌, Bool, ◌&&◌, ◌==◌, nat_lt, if◌then◌else◌, List, ◌∷◌, flat_map}
use Rattle.csi_codec.specs.declared.parameters.CsiParam.{CsiParam}
use Rattle.csi_codec.specs.Parameters.{token_text}

-- the digits of a number below 1000; the bytes after them are arbitrary
abbrev pub are_digits : ℕ → ℕ → ℕ → ℕ → Bool
are_digits n a b c =
    if nat_lt n 10 then a == 48 + n
    else (if nat_lt n 100 then (a == 48 + n / 10) && (b == 48 + n % 10)
    else (a == 48 + n / 10 / 10) && ((b == 48 + n / 10 % 10) && (c == 48 + n % 10)))

-- ESC [ and parameters
abbrev pub opened_text : List CsiParam → List ℕ
opened_text tokens = 27 ∷ 91 ∷ flat_map token_text tokens
