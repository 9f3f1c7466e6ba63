-- Rows whose halves come in pairs.
use Rattle.std.specs.Prelude.{◌≡◌, ⊤, [], ◌∷◌}
use Rattle.cell_base.specs.Row.{Row, Narrow, LeftHalf, RightHalf}

-- after each left half comes a right half with its attributes, and there is no other right half
abbrev pub IsWhole : Row → Type 0
IsWhole [] = ⊤
IsWhole (Narrow text attributes ∷ row) = IsWhole row
IsWhole (RightHalf attributes ∷ row) = ⊥
IsWhole (LeftHalf text attributes ∷ []) = ⊥
IsWhole (LeftHalf text attributes ∷ Narrow other other_attributes ∷ row) = ⊥
IsWhole (LeftHalf text attributes ∷ LeftHalf other other_attributes ∷ row) = ⊥
IsWhole (LeftHalf text attributes ∷ RightHalf other_attributes ∷ row) = (other_attributes ≡ attributes) × IsWhole row
