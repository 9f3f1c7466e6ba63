-- Characters that are independent: between any two of them lies a boundary of clusters.
use Rattle.std.specs.Prelude.{◌≡◌, ℕ, ◌-◌, Bool, true, ◌||◌, nat_lt, List, [], ◌∷◌, ◌++◌, drop, length, encode_utf8}
use Rattle.std.specs.Prelude.{if◌then◌else◌}
use Rattle.std.specs.Int.{is_in_range}
use Rattle.std.specs.List.{prefix_len}
use Rattle.std.specs.Str.{chars}
use Rattle.text_clusters.specs.Plain.{is_printable}

-- printable ASCII, Latin letters and signs, Greek, Cyrillic, Armenian
abbrev pub is_early : ℕ → Bool
is_early c =
    is_in_range 0x20 0x7E c || is_in_range 0xA0 0xAC c || is_in_range 0xAE 0x2FF c || is_in_range 0x370 0x482 c
    || is_in_range 0x48A 0x590 c

-- more Latin and Greek letters, dashes and quotation marks, currencies, arrows, mathematics, boxes, dingbats
abbrev pub is_sign : ℕ → Bool
is_sign c =
    is_in_range 0x1E00 0x200A c || is_in_range 0x2010 0x2027 c || is_in_range 0x202F 0x205F c
    || is_in_range 0x2070 0x20CF c || is_in_range 0x20F1 0x2CEE c

-- kana, ideographs, Yi
abbrev pub is_eastern : ℕ → Bool
is_eastern c = is_in_range 0x2E00 0x3029 c || is_in_range 0x3030 0x3098 c || is_in_range 0x309B 0xA66E c

-- Hangul syllables, private use, full width
abbrev pub is_later : ℕ → Bool
is_later c = is_in_range 0xAC00 0xD7A3 c || is_in_range 0xE000 0xFB1D c || is_in_range 0xFF00 0xFF9D c

-- pictographs except skin tone modifiers, ideographs
abbrev pub is_late : ℕ → Bool
is_late c = is_in_range 0x1F000 0x1F1E5 c || is_in_range 0x1F200 0x1F3FA c || is_in_range 0x1F400 0x3FFFF c

-- Between two of these characters, of the rules of UAX 29 only GB999 applies, so there is a boundary.
unfoldable pub is_independent : ℕ → Bool
is_independent c =
    if nat_lt c 0x800 then is_early c
    else if nat_lt c 0x2E00 then is_sign c
    else if nat_lt c 0xA670 then is_eastern c
    else if nat_lt c 0x10000 then is_later c
    else is_late c

-- a regional indicator, of which two make a flag
abbrev pub is_flag_half : ℕ → Bool
is_flag_half c = is_in_range 0x1F1E6 0x1F1FF c

-- the list is empty, or begins with a character that joins no independent character before it
abbrev pub is_independent_first : List ℕ → Bool
is_independent_first [] = true
is_independent_first (c ∷ cs) = is_independent c || is_flag_half c

-- the text is empty, or begins with a character that joins no independent character before it
unfoldable pub begins_independent : List ℕ → Bool
begins_independent text = is_independent_first (chars text)

-- the text begins with this character, which has `len` bytes
pub record IsFirst (text : List ℕ) (character len : ℕ) : Type 0 where
  pub bytes : len ≡ length (encode_utf8 character)
  pub rest : List ℕ
  pub whole : text ≡ encode_utf8 character ++ rest

-- the text begins with this character, which is independent and has `len` bytes
pub record BeginsWith (text : List ℕ) (character len : ℕ) : Type 0 where
  pub stands : is_independent character ≡ true
  pub bytes : len ≡ length (encode_utf8 character)
  pub rest : List ℕ
  pub whole : text ≡ encode_utf8 character ++ rest

-- the text begins with a printable character
pub record BeginsPrintable (text : List ℕ) : Type 0 where
  pub character : ℕ
  pub printable : is_printable character ≡ true
  pub alone : encode_utf8 character ≡ character ∷ []
  pub begins : BeginsWith text character 1

-- the length of the printable prefix, less the last character where the rest may join it
abbrev pub independent_len : List ℕ → ℕ
independent_len text =
    let run = prefix_len is_printable text in if begins_independent (drop run text) then run else run - 1
