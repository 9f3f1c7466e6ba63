-- The columns of texts in East Asian fonts.
use Rattle.std.specs.Prelude.{◌≡◌, ℕ, ◌≤◌, true, List, [], ◌∷◌, min, refl}
use Rattle.std.specs.Str.{chars}
use Rattle.std.proofs.Common.{arith}
use Rattle.unicode_width.specs.Width.{str_width}
use Rattle.unicode_width.proofs.Computing.{unicode_width}

-- the columns that `unicode_width` gives a text where ambiguous characters are wide (UAX 11), at most two
abbrev pub east_asian_width : List ℕ → ℕ
east_asian_width text = min (str_width true (chars text)) 2

pub east_asian_width-at_most_two : (text : List ℕ) → east_asian_width text ≤ 2
east_asian_width-at_most_two text = omega arith

-- a space takes one column
pub east_asian_width-space : east_asian_width (32 ∷ []) ≡ 1
unfolding chars unicode_width
east_asian_width-space = refl
