-- A text that is cut into the texts of cells.
use Rattle.std.specs.Prelude.{ℕ, ◌+◌, List, [], ◌∷◌, take, drop}
use Rattle.text_clusters.specs.Plain.{each}

-- the texts of the cells: the first ones have these lengths, and after them each byte is one
abbrev pub cut_at : List ℕ → List ℕ → List (List ℕ)
cut_at [] text = each text
cut_at (len ∷ lens) text = take len text ∷ cut_at lens (drop len text)

-- how many bytes cells of these lengths have
abbrev pub bytes_of : List ℕ → ℕ
bytes_of [] = 0
bytes_of (len ∷ lens) = len + bytes_of lens
