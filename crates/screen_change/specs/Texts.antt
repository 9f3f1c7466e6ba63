-- Texts of cells side by side, joined where the joined text shows the same cells.
use Rattle.std.specs.Prelude.{ℕ, Bool, true, false, ◌&&◌, List, [], ◌∷◌, if◌then◌else◌}
use Rattle.std.specs.List.{concat}
use Rattle.std.specs.Str.{bytes_eq}
use Rattle.unicode_segmentation.specs.Grapheme.{graphemes}

-- whether the texts are these, each in turn
abbrev pub same_texts : List (List ℕ) → List (List ℕ) → Bool
same_texts [] [] = true
same_texts [] (y ∷ ys) = false
same_texts (x ∷ xs) [] = false
same_texts (x ∷ xs) (y ∷ ys) = bytes_eq x y && same_texts xs ys

-- whether the clusters (UAX 29) of the joined text are the texts themselves
abbrev pub stay_independent : List (List ℕ) → Bool
stay_independent texts = same_texts (graphemes true (concat texts)) texts

-- the texts by which cells are written, from the texts of the cells: their joined text if its clusters are the cells'
-- texts, else one for each cell; for no cell none
unfoldable pub texts : List (List ℕ) → List (List ℕ)
texts [] = []
texts (cell ∷ cells) = if stay_independent (cell ∷ cells) then concat (cell ∷ cells) ∷ [] else cell ∷ cells
