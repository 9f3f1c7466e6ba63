-- Cutting a body at each `;`, and joining its parts again.
use Rattle.std.proofs.Common.{◌≡◌, ℕ, ◌==◌, false, List, [], ◌∷◌, ◌++◌, refl, ap, ◌∙◌, inl, inr}
use Rattle.std.specs.List.{AllByRecursion, onto_first}
use Rattle.std.proofs.lemmas.Bool.{cases_Bool}
use Rattle.escape_osc.specs.Parts.{semicolon, parts_of, joined}

-- a text with no `;`
abbrev pub IsPiece : List ℕ → Type 0
IsPiece text = AllByRecursion (λ b. (b == semicolon) ≡ false) text

pub parts_of-at : (piece rest : List ℕ) → IsPiece piece → parts_of (piece ++ semicolon ∷ rest) ≡ piece ∷ parts_of rest
parts_of-at [] rest h = refl
parts_of-at (b ∷ piece) rest h = rw h.0 (ap (onto_first b) (parts_of-at piece rest h.1))

pub parts_of-piece : (piece : List ℕ) → IsPiece piece → parts_of piece ≡ piece ∷ []
parts_of-piece [] h = refl
parts_of-piece (b ∷ piece) h = rw h.0 (ap (onto_first b) (parts_of-piece piece h.1))

pub parts_of-joined : (first : List ℕ) (rest : List (List ℕ)) → IsPiece first → AllByRecursion IsPiece rest → parts_of (joined (first ∷ rest)) ≡ first ∷ rest
parts_of-joined first [] p h = parts_of-piece first p
parts_of-joined first (second ∷ rest) p h =
    parts_of-at first (joined (second ∷ rest)) p ∙ ap (λ parts. first ∷ parts) (parts_of-joined second rest h.0 h.1)

onto_first_pieces : (b : ℕ) (parts : List (List ℕ)) → (b == semicolon) ≡ false → AllByRecursion IsPiece parts → AllByRecursion IsPiece (onto_first b parts)
onto_first_pieces b [] e h = ((e, tt), tt)
onto_first_pieces b (part ∷ parts) e h = ((e, h.0), h.1)

-- the parts of a body have no `;`
pub pieces : (body : List ℕ) → AllByRecursion IsPiece (parts_of body)
pieces [] = (tt, tt)
pieces (b ∷ body) = elim (cases_Bool (b == semicolon)) [
  | inl at ↦ rw at (tt, pieces body)
  | inr other ↦ rw other (onto_first_pieces b (parts_of body) other (pieces body))
]

pub onto_first-some : (b : ℕ) (parts : List (List ℕ)) → (onto_first b parts ≡ []) → ⊥
onto_first-some b [] h = cc
onto_first-some b (part ∷ parts) h = cc

-- and there is at least one
pub parts_of-some : (body : List ℕ) → (parts_of body ≡ []) → ⊥
parts_of-some [] h = cc
parts_of-some (b ∷ body) h = elim (cases_Bool (b == semicolon)) [
  | inl at ↦ let e : [] ∷ parts_of body ≡ [] = rw at at h in cc
  | inr other ↦ onto_first-some b (parts_of body) (rw other at h)
]

-- a property of each byte of a body is one of each byte of its parts
module _ (P : ℕ → Type 0) where
  onto_first_each : (b : ℕ) (parts : List (List ℕ)) → P b → AllByRecursion (AllByRecursion P) parts → AllByRecursion (AllByRecursion P) (onto_first b parts)
  onto_first_each b [] p h = ((p, tt), tt)
  onto_first_each b (part ∷ parts) p h = ((p, h.0), h.1)

  pub parts_each : (body : List ℕ) → AllByRecursion P body → AllByRecursion (AllByRecursion P) (parts_of body)
  parts_each [] h = (tt, tt)
  parts_each (b ∷ body) h = elim (cases_Bool (b == semicolon)) [
    | inl at ↦ rw at (tt, parts_each body h.1)
    | inr other ↦ rw other (onto_first_each b (parts_of body) h.0 (parts_each body h.1))
  ]
