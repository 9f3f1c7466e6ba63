-- Lists up to their last element of a kind.
use Rattle.std.specs.Prelude.{Bool, ◌||◌, List, [], ◌∷◌, if◌then◌else◌}
use Rattle.std.specs.List.{list_any}

-- a list up to its last element that passes a test
abbrev pub up_to_last : {A : Type 0} → (A → Bool) → List A → List A
up_to_last passes [] = []
up_to_last passes (x ∷ xs) = if passes x || list_any passes xs then x ∷ up_to_last passes xs else []
