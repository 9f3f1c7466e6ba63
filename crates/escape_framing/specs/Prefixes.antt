-- Prefixes of bytes.
use Rattle.std.specs.Prelude.{◌≡◌, ◌≤◌, ℕ, Bool, true, false, not, ◌&&◌, ◌==◌, List, ◌∷◌, drop, length, Option, Some}
use Rattle.std.specs.Prelude.{None}
use Rattle.std.specs.List.{list_all}
use Rattle.std.specs.Char.{is_ascii_control}
use Rattle.csi_codec.specs.Sources.{is_list_byte}
use Rattle.escape_framing.specs.Bytes.{is_stop, is_final, is_opener}

-- the final byte that follows the first `count` bytes; `None` says nothing about the next byte
abbrev pub IsLastAt : List ℕ → ℕ → Option ℕ → Type 0
IsLastAt bytes count None = Unit {0}
IsLastAt bytes count (Some b) = (is_final b ≡ true) × ((rest : List ℕ) × (drop count bytes ≡ b ∷ rest))

-- a literal byte of the body of a command: no control, and no C2, which may be half of one
unfoldable pub is_body_byte : ℕ → Bool
is_body_byte b = not (is_ascii_control b) && not (b == 0xC2)

-- a literal byte of a string that does nothing: none that ends the string, and no C2
abbrev pub is_string_byte : ℕ → Bool
is_string_byte b = not (is_stop b) && not (b == 0xC2)

-- the bytes of a list of numbers of which every token is kept
pub record IsShortList (bytes : List ℕ) : Type 0 where
  pub listed : list_all is_list_byte bytes ≡ true
  pub short : length bytes ≤ 256

-- a byte that makes a pair with the ESC before it
abbrev pub IsPair : ℕ → Type 0
IsPair b = (0x30 ≤ b) × (b ≤ 0x7E) × (is_opener b ≡ false)
