-- Copies of the parts of a command.
use Rattle.std.proofs.Common.{◌≡◌, ℕ, List, [], ◌∷◌, map, refl, Vec, Global}
use Rattle.std.specs.Prelude.{vec_len}
use Rattle.std.specs.List.{AllZip, each_same}

-- a copy of parts has the same parts
pub parts_cloned : (parts copies : List (Vec ℕ Global)) → AllZip (λ p c. AllZip (λ x y. y ≡ x) p.items c.items × (vec_len c ≡ vec_len p)) parts copies → map (λ v. v.items) copies ≡ map (λ v. v.items) parts
parts_cloned [] [] h = refl
parts_cloned [] (c ∷ copies) h = absurd h
parts_cloned (p ∷ parts) [] h = absurd h
parts_cloned (p ∷ parts) (c ∷ copies) h = λ i. each_same p.items c.items h.0.0 i ∷ parts_cloned parts copies h.1 i
