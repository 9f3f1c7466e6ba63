-- An option is nothing, or some value.
use Rattle.std.proofs.Common.{◌≡◌, ◌⊎◌, inl, inr, refl, Option, Some, None}

pub option_cases : {X : Type 0} (o : Option X) → (o ≡ None) ⊎ ((x : X) × (o ≡ Some x))
option_cases None = inl refl
option_cases (Some x) = inr (x, refl)
