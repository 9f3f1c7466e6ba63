-- Facts on the readings of parts.
use Rattle.std.proofs.Common.{◌≡◌, ℕ, ◌<◌, ◌≤◌, List, [], ◌∷◌, length, get_or, map, refl, arith, Bor, Option, Some, None, inl, inr, Result, Ok, Err, ◌≢◌}
use Rattle.std.specs.Str.{IsUtf8, is_utf8}
use Rattle.std.proofs.lemmas.Str.{IsUtf8-from_is_utf8, is_utf8-from_IsUtf8}
use Rattle.std.proofs.lemmas.Bool.{cases_Bool}
use Rattle.std.specs.Result.{result_ok}
use Rattle.cell_base.specs.Link.{Link}
use Rattle.cell_base.specs.LinkText.{IsUnlessMemory}
use Rattle.cell_base.specs.declared.link_error.LinkError.{LinkError}
use Rattle.cell_base.specs.declared.link_error.LinkError.TheVariants.{Memory}
use Rattle.escape_osc.specs.Reading.{utf8_reading, clear_reading, lettered_reading, selection_command}

pub utf8_yes : (bytes : List ℕ) → IsUtf8 bytes → utf8_reading bytes ≡ Some bytes
unfolding utf8_reading
utf8_yes bytes h = rw (is_utf8-from_IsUtf8 bytes h) refl

pub utf8_no : (bytes : List ℕ) → (IsUtf8 bytes → ⊥) → utf8_reading bytes ≡ None
unfolding utf8_reading
utf8_no bytes h = elim (cases_Bool (is_utf8 bytes)) [
  | inl is ↦ absurd (h (IsUtf8-from_is_utf8 bytes is))
  | inr other ↦ rw other refl
]

-- the parts after `52`, by how many they are
pub selection_one : (rest : List (Bor (List ℕ))) (d : Bor (List ℕ)) → 1 ≤ length rest → length rest < 2
    → selection_command (map (λ p. p.now) rest) ≡ clear_reading (get_or rest 0 d).now
unfolding selection_command
selection_one [] d low high = absurd (omega arith)
selection_one (a ∷ []) d low high = refl
selection_one (a ∷ b ∷ rest) d low high = absurd (omega arith)

pub selection_two : (rest : List (Bor (List ℕ))) (d : Bor (List ℕ)) → 2 ≤ length rest → length rest < 3
    → selection_command (map (λ p. p.now) rest) ≡ lettered_reading (get_or rest 0 d).now (get_or rest 1 d).now
unfolding selection_command
selection_two [] d low high = absurd (omega arith)
selection_two (a ∷ []) d low high = absurd (omega arith)
selection_two (a ∷ b ∷ []) d low high = refl
selection_two (a ∷ b ∷ e ∷ rest) d low high = absurd (omega arith)

pub selection_more : (rest : List (Bor (List ℕ))) → (length rest ≡ 1 → ⊥) → (length rest ≡ 2 → ⊥) → selection_command (map (λ p. p.now) rest) ≡ None
unfolding selection_command
selection_more [] one two = refl
selection_more (a ∷ []) one two = absurd (one refl)
selection_more (a ∷ b ∷ []) one two = absurd (two refl)
selection_more (a ∷ b ∷ d ∷ rest) one two = refl

-- the reading of a link, by the answer of its call
pub link_some : (reading : Result (Option Link) LinkError) (link : Option Link) → IsUnlessMemory reading (Ok link) → result_ok reading ≡ Some link
link_some (Ok other) link (inl is) = cc
link_some (Ok other) link (inr is) = cc
link_some (Err e) link is = cc

pub link_none : (reading : Result (Option Link) LinkError) (e : LinkError) → e ≢ Memory → IsUnlessMemory reading (Err e) → result_ok reading ≡ None
link_none (Ok other) e other_than (inl is) = cc
link_none (Ok other) e other_than (inr is) = let same : e ≡ Memory = cc in absurd (other_than same)
link_none (Err other) e other_than is = refl

pub ruleset link_read = (link_some, link_none)
