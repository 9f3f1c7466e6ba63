-- Controls in bytes: C0 and DEL, and the C1 controls (ECMA-48, 5.2 and 5.3), which are U+0080 to U+009F.
use Rattle.std.specs.Prelude.{ℕ, Bool, false, not, ◌&&◌, ◌||◌, ◌==◌, List, [], ◌∷◌}
use Rattle.std.specs.Char.{is_ascii_control}
use Rattle.std.specs.Int.{is_in_range}
use Rattle.std.specs.List.{prefix_len}

-- the number of bytes before the first C0 control or DEL
abbrev pub len_before_ascii_control : List ℕ → ℕ
len_before_ascii_control bytes = prefix_len (λ byte. not (is_ascii_control byte)) bytes

-- the code of a C1 control, which is also the second byte of its UTF-8
abbrev pub in_c1 : ℕ → Bool
in_c1 c = is_in_range 0x80 0x9F c

-- whether two bytes are a C1 control: C2 and then 80h to 9Fh (Unicode, table 3-6)
abbrev pub is_c1 : ℕ → ℕ → Bool
is_c1 b c = (b == 0xC2) && in_c1 c

-- whether the bytes contain a C1 control
unfoldable pub holds_c1 : List ℕ → Bool
holds_c1 [] = false
holds_c1 (b ∷ []) = false
holds_c1 (b ∷ c ∷ rest) = is_c1 b c || holds_c1 (c ∷ rest)
