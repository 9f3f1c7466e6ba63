-- The clusters of a text, and how many columns one takes.
use Rattle.std.specs.Prelude.{◌≡◌, ℕ, ◌≤◌, Bool, true, false, List, [], ◌∷◌, map, min, length, ◌==◌, if◌then◌else◌}
use Rattle.std.specs.Prelude.{refl}
use Rattle.std.specs.Str.{chars}
use Rattle.std.specs.Str.Lossy.{replacement_bytes}
use Rattle.std.proofs.Common.{arith}
use Rattle.unicode_segmentation.specs.Grapheme.{graphemes}
use Rattle.unicode_width.specs.Width.{str_width}
use Rattle.unicode_width.proofs.Computing.{unicode_width}

-- the text by itself is one extended grapheme cluster (UAX 29)
abbrev pub is_cluster : List ℕ → Bool
is_cluster text = length (graphemes true text) == 1

-- a cluster as a cell holds it: a text that by itself isn't one cluster is read as U+FFFD
abbrev pub read_cluster : List ℕ → List ℕ
read_cluster text = if is_cluster text then text else replacement_bytes

-- the extended grapheme clusters of a text (UAX 29)
abbrev pub clusters : List ℕ → List (List ℕ)
clusters text = map read_cluster (graphemes true text)

-- the columns that `unicode_width` gives a text, at most two
unfoldable pub program_width : List ℕ → ℕ
program_width text = min (str_width false (chars text)) 2

pub program_width_le : (text : List ℕ) → program_width text ≤ 2
unfolding program_width
program_width_le text = omega arith

-- a space takes one column
pub program_width-space : program_width (32 ∷ []) ≡ 1
unfolding program_width chars unicode_width
program_width-space = refl
