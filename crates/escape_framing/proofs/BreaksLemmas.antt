-- What a byte does to a character that has begun.
use Rattle.std.proofs.Common.{◌≡◌, ◌≢◌, ℕ, false, inr, List, [], ◌∷◌, ◌++◌, refl, sym, ap, subst, ◌∙◌, append_assoc}
use Rattle.std.specs.Prelude.{is_none}
use Rattle.std.specs.Str.{is_utf8}
use Rattle.std.specs.Str.Lossy.{utf8_error_len}
use Rattle.escape_framing.specs.Segment.{Begun, IsUnfinished}
use Rattle.escape_framing.specs.Held.{InCharacter}
use Rattle.escape_framing.specs.Event.{GoesOn}
use Rattle.escape_framing.specs.Characters.{IsKind, Breaks}
use Rattle.escape_framing.specs.declared.characters.Kind.TheVariants as kind
use Rattle.escape_framing.proofs.Existence.OutcomeLemmas.{Outcome, whole, begun, broken, outcome}
use Rattle.escape_framing.proofs.HeldLemmas.{Inner, inner}
use Rattle.escape_framing.proofs.CharacterLemmas.{broken_step}

-- bytes of which more are wanted, or that are a character
abbrev pub Goes : List ℕ → Type 0
Goes bytes = is_utf8 bytes ≡ false → is_none (utf8_error_len bytes) ≡ false → ⊥

pub goes_inner : (x b : ℕ) (t : List ℕ) → IsUnfinished (Begun (x ∷ t)) → Goes (x ∷ t ++ b ∷ []) → Inner b
goes_inner x b t g k = by_outcome (outcome (x ∷ t) b g)
  where
    by_outcome : Outcome (x ∷ t) b → Inner b
    by_outcome (whole c s h u) = inner c x b t [] s h
    by_outcome (begun h u v) = inner h.0 x b t h.1 h.2 (h.3 ∙ ap (λ r. x ∷ r) (append_assoc t (b ∷ []) h.1))
    by_outcome (broken f u v) = absurd (k u v)

-- where more bytes are wanted, or the character is whole, the byte is one of it
inner_goes : (l bytes : List ℕ) (b : ℕ) → l ≢ [] → IsUnfinished (Begun l) → bytes ≡ l ++ b ∷ [] → Goes bytes → GoesOn (InCharacter l) b
inner_goes [] bytes b n g e k = absurd (n refl)
inner_goes (x ∷ t) bytes b n g e k =
    let i = goes_inner x b t g (subst Goes e k) in inr (i.least, i.most)

pub whole_goes_on : (l bytes : List ℕ) (b c : ℕ) → l ≢ [] → IsUnfinished (Begun l) → bytes ≡ l ++ b ∷ [] → IsKind bytes (kind.Whole c) → GoesOn (InCharacter l) b
whole_goes_on l bytes b c n g e k = inner_goes l bytes b n g e (λ u v. let w = k.0 in cc)

pub begun_goes_on : (l bytes : List ℕ) (b : ℕ) → l ≢ [] → IsUnfinished (Begun l) → bytes ≡ l ++ b ∷ [] → IsKind bytes kind.Begun → GoesOn (InCharacter l) b
begun_goes_on l bytes b n g e k = inner_goes l bytes b n g e (λ u v. let w = k.1 in cc)

-- a broken one is replaced
pub broken_breaks : (l bytes : List ℕ) (b : ℕ) → l ≢ [] → bytes ≡ l ++ b ∷ [] → IsKind bytes kind.Broken → Breaks l b
broken_breaks [] bytes b n e k = absurd (n refl)
broken_breaks (x ∷ t) bytes b n e k = record { breaks = sym (broken_step x t b (subst (λ m. IsKind m kind.Broken) e k)); some = n }
