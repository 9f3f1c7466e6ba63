-- The seven-bit form of a byte stream: each C1 control as its escape sequence (ECMA-48, 5.3 and 8.1).
use Rattle.std.specs.Prelude.{ℕ, ◌-◌, List, [], ◌∷◌, if◌then◌else◌}
use Rattle.text_clusters.specs.Controls.{is_c1}

-- Each C1 control is ESC and the byte 40h below. A C2 at the end stays as it is until the byte after it comes, so both
-- bytes of the form come with the second byte of the pair.
abbrev pub seven_bit : List ℕ → List ℕ
seven_bit [] = []
seven_bit (b ∷ []) = b ∷ []
seven_bit (b ∷ c ∷ bytes) = if is_c1 b c then 0x1B ∷ (c - 0x40) ∷ seven_bit bytes else b ∷ seven_bit (c ∷ bytes)
