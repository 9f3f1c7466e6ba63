-- A character at the start of a text that is a cell by itself, with its columns.
use Rattle.std.specs.Prelude.{◌≡◌, ℕ, ◌≤◌, max, List, [], ◌∷◌, Bool, true, ◌||◌, ◌==◌, encode_utf8}
use Rattle.std.specs.Str.{chars}
use Rattle.text_clusters.specs.Independent.{is_independent, is_flag_half, IsFirst}

-- an independent character, or U+FFFD: between two of these lies a boundary of clusters
abbrev pub stands_alone : ℕ → Bool
stands_alone c = is_independent c || c == 0xFFFD

-- the list is empty, or begins with a character that joins none before it that stands alone
abbrev pub is_alone_first : List ℕ → Bool
is_alone_first [] = true
is_alone_first (c ∷ cs) = stands_alone c || is_flag_half c

-- the text is empty, or begins with a character that joins none before it that stands alone
unfoldable pub begins_alone : List ℕ → Bool
begins_alone text = is_alone_first (chars text)

-- the text begins with a character that stands alone, has `len` bytes and takes `width` columns by itself, where 0
-- counts as 1
pub record BeginsSingle (width_of : List ℕ → ℕ) (text : List ℕ) (len width : ℕ) : Type 0 where
  pub character : ℕ
  pub stands : stands_alone character ≡ true
  pub first : IsFirst text character len
  pub columns : width ≡ max 1 (width_of (encode_utf8 character))
  pub some : 1 ≤ width
  pub most : width ≤ 2
