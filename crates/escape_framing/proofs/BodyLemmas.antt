-- Where a body or a header is read after some bytes.
use Rattle.std.proofs.Common.{◌≡◌, ◌⊎◌, inl, inr, ℕ, zero, suc, ◌+◌, List, [], ◌∷◌, take, drop, false, sym, ap, subst, ◌∙◌, arith}
use Rattle.std.proofs.Math.Seq.{take-add}
use Rattle.escape_framing.specs.Held.{InCharacter, InDevice, Held, Handed, TakesMemory, hand_out}
use Rattle.escape_framing.specs.Read.{TakesMemoryAt, held_after}
use Rattle.escape_framing.proofs.HeldLemmas.{hand_append}

-- after bytes that were read whole
pub opens_read : (old after : Held) (bytes : List ℕ) (n : ℕ) → (hand_out old (take n bytes)).held ≡ after → (m : ℕ) → TakesMemoryAt after (drop n bytes) m → held_after after (drop n bytes) m ≡ held_after old bytes (n + m)
opens_read old after bytes n e m t =
    ap (λ (h : Held). (hand_out h (take m (drop n bytes))).held) (sym e)
    ∙ ap (λ (x : Handed). x.held) (sym (hand_append old (take n bytes) (take m (drop n bytes))))
    ∙ ap (λ (x : List ℕ). (hand_out old x).held) (sym (take-add n m bytes))

pub none_more : (held : Held) (bytes : List ℕ) (m : ℕ) → TakesMemoryAt held bytes m → held_after held bytes m ≡ held_after held bytes (0 + m)
none_more held bytes m t = let e : m ≡ 0 + m = omega arith in ap (held_after held bytes) e

-- after a sequence that was closed for a byte that is left unread
pub opens_left : (old new : Held) (b : ℕ) (rest : List ℕ) → ((xs : List ℕ) → (hand_out old (b ∷ xs)).held ≡ (hand_out new (b ∷ xs)).held) → (TakesMemory new.kept → ⊥) → (m : ℕ) → TakesMemoryAt new (b ∷ rest) m
    → held_after new (b ∷ rest) m ≡ held_after old (b ∷ rest) (0 + m)
unfolding hand_out
opens_left old new b rest same none zero t = absurd (none t)
opens_left old new b rest same none (suc m) t = let e : suc m ≡ 0 + suc m = omega arith in sym (same (take m rest)) ∙ ap (held_after old (b ∷ rest)) e

-- a state that was closed takes no memory
pub closed_takes_none : (new : Held) → (new.kept ≡ InCharacter []) ⊎ (new ≡ record { kept = InDevice; waiting = false }) → TakesMemory new.kept → ⊥
closed_takes_none new (inl e) t = subst TakesMemory e t
closed_takes_none new (inr e) t = subst (λ (h : Held). TakesMemory h.kept) e t
