-- What a lent writer holds.
use Rattle.std.specs.Prelude.{ℕ, List, ◌∷◌, Option}
use Rattle.std.specs.Option.{option_map}

-- the name (a number) of a reference, and after it the known bytes of the writer that it refers to
abbrev pub named : ℕ → Option (List ℕ) → Option (List ℕ)
named name known = option_map (λ bytes. name ∷ bytes) known
