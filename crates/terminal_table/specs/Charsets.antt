-- Character sets (ISO 2022, DEC STD 070): which characters are printed for those of a run.
use Rattle.std.specs.Prelude.{ℕ, ◌-◌, ◌==◌, ◌&&◌, nat_le, Bool, false, List, [], ◌∷◌, map, slice_index_or}
use Rattle.std.specs.Prelude.{encode_utf8_all, if◌then◌else◌}
use Rattle.std.specs.Str.{chars}

-- ASCII; DEC special graphics, which are lines and symbols; and the British set, with a pound sign
pub data Charset : Type 0 where
  Ascii : Charset
  Graphics : Charset
  British : Charset

-- the sets G0 and G1, and whether G1 is in use (SO) or G0 (SI)
pub record Charsets : Type 0 where
  pub g0 : Charset
  pub g1 : Charset
  pub shifted : Bool

-- those of a new terminal
abbrev pub initial_charsets : Charsets
initial_charsets = record { g0 = Ascii; g1 = Ascii; shifted = false }

abbrev pub charset_in_use : Charsets → Charset
charset_in_use sets = if sets.shifted then sets.g1 else sets.g0

-- DEC special graphics, from 5F to 7E
abbrev pub graphics : List ℕ
graphics =
    0x20 ∷ 0x25C6 ∷ 0x2592 ∷ 0x2409 ∷ 0x240C ∷ 0x240D ∷ 0x240A ∷ 0xB0 ∷ 0xB1 ∷ 0x2424 ∷ 0x240B ∷ 0x2518 ∷ 0x2510
    ∷ 0x250C ∷ 0x2514 ∷ 0x253C ∷ 0x23BA ∷ 0x23BB ∷ 0x2500 ∷ 0x23BC ∷ 0x23BD ∷ 0x251C ∷ 0x2524 ∷ 0x2534 ∷ 0x252C ∷ 0x2502 ∷ 0x2264
    ∷ 0x2265 ∷ 0x3C0 ∷ 0x2260 ∷ 0xA3 ∷ 0xB7 ∷ []

-- the character of a set for a character of a run
abbrev pub character_in : Charset → ℕ → ℕ
character_in Ascii character = character
character_in Graphics character =
    if nat_le 0x5F character && nat_le character 0x7E then slice_index_or graphics (character - 0x5F) 0x20
    else character
character_in British character = if character == 0x23 then 0xA3 else character

-- a run's text as a set has it
abbrev pub text_in : Charset → List ℕ → List ℕ
text_in Ascii text = text
text_in set text = encode_utf8_all (map (character_in set) (chars text))
