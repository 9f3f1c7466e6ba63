-- The bytes that `Characters` keeps and the dispatches that it hands out, over plain lists.
use Rattle.std.proofs.Common.{◌≡◌, ◌≢◌, ℕ, zero, suc, ◌+◌, ◌<◌, ◌≤◌, inl, inr, List, [], ◌∷◌, ◌++◌, length, take, set, refl, sym, ap, subst, ◌∙◌, arith}
use Rattle.std.specs.Prelude.{is_none}
use Rattle.std.specs.Str.{is_utf8}
use Rattle.std.specs.Str.Lossy.{utf8_error_len}
use Rattle.std.proofs.lemmas.Grind.{common_steps}
use Rattle.std.proofs.lemmas.List.{append-nil}
use Rattle.escape_framing.specs.Segment.{Tail, Begun, IsBegun, IsUnfinished}
use Rattle.escape_framing.specs.Decode.{in_character}
use Rattle.escape_framing.specs.Dispatch as dispatch
use Rattle.escape_framing.specs.Held.{InCharacter, kept_of, Step, steps, before, character_step}
use Rattle.escape_framing.specs.Characters.{IsKind, own_step, segment_step, step_of}
use Rattle.escape_framing.specs.declared.characters.Kind.TheVariants as kind
use Rattle.escape_framing.specs.declared.characters.Own.{Own}
use Rattle.escape_framing.specs.declared.characters.Own.TheVariants as own
use Rattle.escape_framing.proofs.Existence.OutcomeLemmas.{Outcome, whole, begun, broken, outcome}
use Rattle.escape_framing.proofs.Existence.StepLemmas.{adds_in_character}
use Rattle.escape_framing.proofs.BegunLemmas.{length-tail}

-- ---- positions in the four bytes

pub take_set : (l : List ℕ) (n b : ℕ) → n < length l → take (n + 1) (set l n b) ≡ take n l ++ b ∷ []
take_set l n b h = grind (arith, common_steps)

pub prefix_one : (xs : List ℕ) (b : ℕ) → 0 < length xs → take 1 (set xs 0 b) ≡ b ∷ []
prefix_one [] b h = absurd (omega arith)
prefix_one (x ∷ xs) b h = refl

pub filled : (xs : List ℕ) (n : ℕ) → n ≢ 0 → length xs ≡ 4 → take n xs ≢ []
filled [] n h l e = absurd (omega arith)
filled (x ∷ xs) zero h l e = h refl
filled (x ∷ xs) (suc n) h l e = cc

-- ---- the bytes that are kept

-- the kept bytes are none, or the beginning of a character
kept_begun : (t : Tail) (x : List ℕ) → kept_of t ≡ InCharacter x → IsUnfinished t → IsUnfinished (Begun x)
kept_begun (Begun bytes) x e g = subst (λ l. IsUnfinished (Begun l)) (let k : bytes ≡ x = cc in k) g
kept_begun _ x e g = cc

pub waits_unfinished : (b : ℕ) → steps [] (InCharacter (b ∷ [])) ≡ character_step [] b → IsUnfinished (Begun (b ∷ []))
unfolding character_step
waits_unfinished b e = kept_begun (in_character [] b).tail (b ∷ []) (sym (ap (λ (s : Step). s.kept) e)) (adds_in_character [] b (inl refl)).unfinished

pub begun_more : (l bytes : List ℕ) (b : ℕ) → IsUnfinished (Begun l) → bytes ≡ l ++ b ∷ [] → IsKind bytes kind.Begun → IsUnfinished (Begun bytes) × (length bytes ≤ 3)
begun_more l bytes b g e k = let h = subst (λ m. IsUnfinished (Begun m)) (sym e) (inr (by_outcome (outcome l b g))) in (h, length-tail bytes h)
  where
    by_outcome : Outcome l b → IsBegun (l ++ b ∷ [])
    by_outcome (whole c s h u) = let v = sym (ap is_utf8 e) ∙ k.0 in cc
    by_outcome (begun h u v) = h
    by_outcome (broken f u v) = let w = sym (ap (λ m. is_none (utf8_error_len m)) e) ∙ k.1 in cc

-- ---- the dispatches that are handed out

pub waits_goes : (o : Own) (l v : List ℕ) (b : ℕ) → o ≡ own.Waits → l ≡ b ∷ [] → v ≡ [] → steps [] (InCharacter (b ∷ [])) ≡ character_step [] b → step_of o l ≡ character_step v b
waits_goes o l v b is prefix none e =
    ap (λ (x : Own). step_of x l) is ∙ ap (λ (m : List ℕ). steps [] (InCharacter m)) prefix ∙ e ∙ ap (λ m. character_step m b) (sym none)

pub broken_step : (x : ℕ) (t : List ℕ) (b : ℕ) → IsKind (x ∷ t ++ b ∷ []) kind.Broken → before (dispatch.Print 0xFFFD ∷ []) (character_step [] b) ≡ character_step (x ∷ t) b
unfolding character_step in_character
broken_step x t b k = rw (k.0, k.1) refl

plain : (o : Own) → step_of o [] ≡ own_step o []
plain own.Waits = refl
plain _ = refl

pub whole_goes : (l bytes : List ℕ) (b c : ℕ) (o : Own) → l ≢ [] → bytes ≡ l ++ b ∷ [] → IsKind bytes (kind.Whole c) → ((x : List ℕ) → own_step o [] ≡ segment_step x c) → step_of o [] ≡ character_step l b
unfolding character_step in_character
whole_goes [] bytes b c o n e k h = absurd (n refl)
whole_goes (x ∷ t) bytes b c o n e k h =
    let u = subst (λ m. IsKind m (kind.Whole c)) e k in
    plain o ∙ h (x ∷ t ++ b ∷ []) ∙ rw (u.0, u.1) (ap (λ ds. steps ds (InCharacter [])) (sym (append-nil _)))

pub begun_goes : (l bytes : List ℕ) (b : ℕ) → l ≢ [] → bytes ≡ l ++ b ∷ [] → IsKind bytes kind.Begun → step_of own.Waits bytes ≡ character_step l b
unfolding character_step in_character
begun_goes [] bytes b n e k = absurd (n refl)
begun_goes (x ∷ t) bytes b n e k = let u = subst (λ m. IsKind m kind.Begun) e k in ap (λ m. steps [] (InCharacter m)) e ∙ rw (u.0, u.1) refl
