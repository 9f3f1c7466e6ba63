-- The parts of a text, from its start on, and clusters that cells can hold.
use Rattle.std.specs.Prelude.{◌≡◌, ℕ, true, ⊤, List, [], ◌∷◌, Bool, not}
use Rattle.std.specs.Char.{is_ascii_control}
use Rattle.screen_effects.specs.Strokes.{TextPart, Plain}
use Rattle.std.specs.List.{list_all}
use Rattle.cell_base.specs.CellContent.{shows_as_space}

-- a text without controls as parts: none of the empty text
abbrev pub plain_part : List ℕ → List TextPart
plain_part [] = []
plain_part (byte ∷ text) = Plain (byte ∷ text) ∷ []

-- nothing is left, or a control comes first
abbrev pub IsAtControl : List ℕ → Type 0
IsAtControl [] = ⊤
IsAtControl (byte ∷ text) = is_ascii_control byte ≡ true

-- a cell can hold each of the clusters unchanged
abbrev pub stand : List (List ℕ) → Bool
stand clusters = list_all (λ cluster. not (shows_as_space cluster)) clusters
