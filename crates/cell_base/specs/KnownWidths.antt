-- Letters whose columns are known: how many each takes by itself.
use Rattle.std.specs.Prelude.{ℕ, Bool, ◌||◌}
use Rattle.std.specs.Int.{is_in_range}

-- kana, ideographs, Hangul syllables: two columns
abbrev pub is_eastern_letter : ℕ → Bool
is_eastern_letter c =
    is_in_range 0x3041 0x3096 c || is_in_range 0x30A0 0x30FF c || is_in_range 0x4E00 0x9FFF c
    || is_in_range 0xAC00 0xD7A3 c

-- Latin, Cyrillic: one column
abbrev pub is_western_letter : ℕ → Bool
is_western_letter c = is_in_range 0xC0 0x2AF c || is_in_range 0x400 0x481 c
