-- A text that begins where a sequence or a character is open: it cuts the sequence off, or breaks the character.
use Rattle.std.proofs.Common.{◌≡◌, ◌≢◌, ℕ, ◌+◌, ◌/◌, ◌%◌, ◌<◌, ◌≤◌, inl, inr, Bool, true, false, List, [], ◌∷◌, ◌++◌, refl, sym, ap, subst, ◌∙◌, arith, ⊎_elim}
use Rattle.std.specs.Prelude.{nat_le}
use Rattle.std.proofs.lemmas.Bool.Decides.{nat_tests}
use Rattle.text_clusters.specs.Controls.{is_c1}
use lib.Utf8.{encode}
use Rattle.escape_framing.specs.Bytes.{is_cut, is_stop}
use Rattle.escape_framing.specs.Segment.{IsBegun}
use Rattle.escape_framing.specs.Dispatch.{Print}
use Rattle.escape_framing.specs.Held.{Kept, InCharacter, InEscape, InControlSequence, InHeader, Step, steps, character_step, kept_step, Held, Handed, handed, interrupted, fresh_step, waiting_step, held_step, nothing_held, hand_out}
use Rattle.escape_framing.specs.Framed.{Framed, Single, framed, at_offset, placed_after, framed_after, begun_bytes, bytes_begun, IsLendable, IsReached}
use Rattle.escape_framing.proofs.Begun.{is_body}
use Rattle.escape_framing.specs.Segment.{IsPrintable}
use Rattle.escape_framing.proofs.Existence.Utf8Lemmas.{Spelled, in_one, in_two, in_three, in_four, spelled}
use Rattle.escape_framing.proofs.WaitingLemmas.{escape_cut, control_sequence_cut, header_cut}
use Rattle.escape_framing.proofs.HeldLemmas.{Inner, interrupted_character, c2_begins}
use Rattle.escape_framing.proofs.FramedLemmas.{never_lent}
use Rattle.escape_framing.proofs.TextLemmas.{first_bytes, other_step}
use Rattle.escape_framing.proofs.SoundLemmas.{IsSoundIn, other_waiting, reached_sound}
use Rattle.std.proofs.lemmas.Bool.{cases_eq, false_from_ne_true, or_right, le-leb, ne_eqb}

-- ---- the first byte of a character

-- the first bytes of a character to lend: they begin with no continuation byte, and with no C1 control
pub record Lead (b : ℕ) (rest : List ℕ) : Type 0 where
  pub outer : Inner b → ⊥
  pub after : b ≡ 0xC2 → (y : ℕ) × (remaining : List ℕ) × (rest ≡ y ∷ remaining) × (0x9F < y) × (y ≢ 0xC2)

pub lead_of : (c b : ℕ) (rest more : List ℕ) → IsLendable c → b ∷ rest ≡ encode c ++ more → Lead b rest
lead_of c b rest more l e = by_kind (spelled c l.0)
  where
    above : IsPrintable c → 128 ≤ c → b ≡ 0xC2 → b ≡ 192 + c / 64 → 0x9F < 128 + c % 64
    above (inl p) g q n = let m = p.1 in absurd (omega arith)
    above (inr p) g q n = omega arith

    by_kind : Spelled c → Lead b rest
    by_kind (in_one g k) =
        let m : b ∷ rest ≡ c ∷ [] ++ more = e ∙ ap (λ (x : List ℕ). x ++ more) k in
        let n : b ≡ c = cc in
        record { outer = λ i. let o = i.least in omega arith; after = λ q. absurd (omega arith) }
    by_kind (in_two g h k) =
        let m : b ∷ rest ≡ (192 + c / 64) ∷ (128 + c % 64) ∷ more = e ∙ ap (λ (x : List ℕ). x ++ more) k in
        let n : b ≡ 192 + c / 64 = cc in
        let r : rest ≡ (128 + c % 64) ∷ more = cc in
        record { outer = λ i. let o = i.most in omega arith; after = λ q. (128 + c % 64, more, r, above l.1 g q n, λ z. omega arith) }
    by_kind (in_three g h t k) =
        let m : b ∷ rest ≡ (224 + c / 4096) ∷ (128 + (c / 64) % 64) ∷ (128 + c % 64) ∷ more = e ∙ ap (λ (x : List ℕ). x ++ more) k in
        let n : b ≡ 224 + c / 4096 = cc in
        record { outer = λ i. let o = i.most in omega arith; after = λ q. absurd (omega arith) }
    by_kind (in_four g h k) =
        let m : b ∷ rest ≡ (240 + c / 262144) ∷ (128 + (c / 4096) % 64) ∷ (128 + (c / 64) % 64) ∷ (128 + c % 64) ∷ more = e ∙ ap (λ (x : List ℕ). x ++ more) k in
        let n : b ≡ 240 + c / 262144 = cc in
        record { outer = λ i. let o = i.most in omega arith; after = λ q. absurd (omega arith) }

-- ---- a character that has begun is broken

-- the step of a byte, with U+FFFD printed first
abbrev pub broken_step : Handed → Handed
broken_step h = record { dispatches = Print 0xFFFD ∷ h.dispatches; held = h.held }

pub bytes_break : (x : ℕ) (p : List ℕ) (b : ℕ) → IsBegun (x ∷ p) → (Inner b → ⊥) → held_step (first_bytes (x ∷ p)) b ≡ broken_step (held_step nothing_held b)
bytes_break x p b g n =
    let lead : held_step (first_bytes (x ∷ p)) 0xC2 ≡ broken_step (held_step nothing_held 0xC2) = unfold held_step fresh_step in refl in
    ⊎_elim (λ e. subst (λ (y : ℕ). held_step (first_bytes (x ∷ p)) y ≡ broken_step (held_step nothing_held y)) (sym e) lead)
    (λ m. other_step (x ∷ p) b m
    ∙ ap (λ (s : Step). handed s false) (sym (interrupted_character x b p g n))
    ∙ ap broken_step (sym (other_step [] b m)))
    (cases_eq b 0xC2)

outer_c1 : (b : ℕ) → (Inner b → ⊥) → is_c1 0xC2 b ≡ false
outer_c1 b n = false_from_ne_true (is_c1 0xC2 b) (λ h. n (low b h))
  where
    low : (b : ℕ) → is_c1 0xC2 b ≡ true → Inner b
    low b h = record { least = grind (arith, nat_tests); most = grind (arith, nat_tests) }

pub lead_breaks : (k : Kept) (b : ℕ) → IsSoundIn k true → is_body k ≡ false → (Inner b → ⊥) → held_step (record { kept = k; waiting = true }) b ≡ broken_step (held_step nothing_held b)
unfolding held_step
lead_breaks k b s h n = other_waiting k b s h (outer_c1 b n) ∙ bytes_break 0xC2 [] b c2_begins n

kept_breaks : (k : Kept) (w : Bool) (b : ℕ) → IsSoundIn k w → is_body k ≡ false → bytes_begun k w ≢ [] → (Inner b → ⊥) → held_step (record { kept = k; waiting = w }) b ≡ broken_step (held_step nothing_held b)
kept_breaks k true b s h z n = lead_breaks k b s h n
kept_breaks (InCharacter (x ∷ p)) false b s h z n = ⊎_elim (λ e. cc) (λ g. bytes_break x p b g n) s.0
kept_breaks _ false b s h z n = absurd (z refl)

-- the bytes hand out `ds` first, and from then on the same dispatches as from h', and leave the same held state
pub record GoesOn (h : Held) (bytes : List ℕ) (ds : List Framed) (h' : Held) : Type 0 where
  pub lends : (start count : ℕ) → framed_after start count h bytes ≡ ds ++ framed_after start count h' bytes
  pub keeps : (hand_out h bytes).held ≡ (hand_out h' bytes).held

pub broken_goes : (h : Held) (b : ℕ) (rest : List ℕ) → held_step h b ≡ broken_step (held_step nothing_held b) → GoesOn h (b ∷ rest) (Single (Print 0xFFFD) ∷ []) nothing_held
unfolding placed_after hand_out
broken_goes h b rest e = record {
  lends = λ start count. ap (λ (x : Handed). framed start (at_offset (count + 1) x.dispatches ++ placed_after (count + 1) x.held rest)) e ∙ rw (never_lent start (count + 1) 0xFFFD refl) refl;
  keeps = ap (λ (x : Handed). (hand_out x.held rest).held) e;
}

-- a text breaks a character that has begun
pub text_breaks_at : (h : Held) (b : ℕ) (rest : List ℕ) (c : ℕ) (more : List ℕ) → IsReached h → is_body h.kept ≡ false → begun_bytes h ≢ [] → IsLendable c → b ∷ rest ≡ encode c ++ more
    → held_step h b ≡ broken_step (held_step nothing_held b)
text_breaks_at h b rest c more r o z l e = kept_breaks h.kept h.waiting b (reached_sound h r) o z (lead_of c b rest more l e).outer

-- ---- a sequence that is open before its final byte is cut off

same_goes : (h : Held) (b : ℕ) (rest : List ℕ) → held_step h b ≡ held_step nothing_held b → GoesOn h (b ∷ rest) [] nothing_held
unfolding placed_after hand_out
same_goes h b rest e = record {
  lends = λ start count. ap (λ (x : Handed). framed start (at_offset (count + 1) x.dispatches ++ placed_after (count + 1) x.held rest)) e;
  keeps = ap (λ (x : Handed). (hand_out x.held rest).held) e;
}

-- a C2 and the byte after it
lead_goes : (k : Kept) (y : ℕ) (rest : List ℕ) → interrupted k ≡ steps [] k → waiting_step k y ≡ waiting_step (InCharacter []) y → GoesOn (record { kept = k; waiting = false }) (0xC2 ∷ y ∷ rest) [] nothing_held
unfolding placed_after hand_out held_step fresh_step
lead_goes k y rest i e = record {
  lends = λ start count. rw (i, e) refl;
  keeps = rw (i, e) refl;
}

high : (b : ℕ) → 128 ≤ b → is_cut b ≡ true
unfolding is_cut
high b l = or_right (is_stop b) (nat_le 0x80 b) (le-leb 0x80 b l)

cut_goes : (k : Kept) (b : ℕ) (rest : List ℕ) → is_body k ≡ false → 128 ≤ b → interrupted k ≡ steps [] k → ((x : ℕ) → is_cut x ≡ true → kept_step k x ≡ character_step [] x) → IsSoundIn k true → Lead b rest
    → GoesOn (record { kept = k; waiting = false }) (b ∷ rest) [] nothing_held
cut_goes k b rest h l i cuts s lead = ⊎_elim twice (λ n. same_goes (record { kept = k; waiting = false }) b rest (once n)) (cases_eq b 0xC2)
  where
    once : b ≢ 0xC2 → held_step (record { kept = k; waiting = false }) b ≡ held_step nothing_held b
    once n = other_kept k b n ∙ ap (λ (x : Step). handed x false) (cuts b (high b l)) ∙ sym (other_step [] b n)
      where
        other_kept : (k : Kept) (b : ℕ) → b ≢ 0xC2 → held_step (record { kept = k; waiting = false }) b ≡ handed (kept_step k b) false
        other_kept k b n = unfold held_step fresh_step in rw (ne_eqb b 0xC2 n) refl

    twice : b ≡ 0xC2 → GoesOn (record { kept = k; waiting = false }) (b ∷ rest) [] nothing_held
    twice e =
        let y = lead.after e in
        let c1 : is_c1 0xC2 y.0 ≡ false = above y.0 y.3 in
        let g : GoesOn (record { kept = k; waiting = false }) (0xC2 ∷ y.0 ∷ y.1) [] nothing_held = lead_goes k y.0 y.1 i (other_waiting k y.0 s h c1 ∙ sym (other_waiting (InCharacter []) y.0 (inl refl, λ z. refl) refl c1)) in
        subst (λ (l : List ℕ). GoesOn (record { kept = k; waiting = false }) l [] nothing_held) (λ j. sym e j ∷ sym y.2 j) g
      where
        above : (y : ℕ) → 0x9F < y → is_c1 0xC2 y ≡ false
        above y l = grind (arith, nat_tests)

-- a sequence whose final byte hasn't come, or nothing
abbrev pub is_character : Kept → Bool
is_character (InCharacter p) = true
is_character _ = false

kept_cut : (k : Kept) (w : Bool) (b : ℕ) (rest : List ℕ) → IsSoundIn k w → is_body k ≡ false → bytes_begun k w ≡ [] → (is_character k ≡ false → 128 ≤ b) → Lead b rest → GoesOn (record { kept = k; waiting = w }) (b ∷ rest) [] nothing_held
kept_cut (InCharacter []) false b rest s h z l lead = record { lends = λ start count. refl; keeps = refl }
kept_cut (InEscape xs) false b rest s h z l lead = cut_goes (InEscape xs) b rest refl (l refl) refl (λ x e. escape_cut xs x e) tt lead
kept_cut (InControlSequence p) false b rest s h z l lead = cut_goes (InControlSequence p) b rest refl (l refl) refl (λ x e. control_sequence_cut p x e) tt lead
kept_cut (InHeader header) false b rest s h z l lead = cut_goes (InHeader header) b rest refl (l refl) refl (λ x e. header_cut header x e) tt lead
kept_cut _ w b rest s h z l lead = cc

-- a text cuts off a sequence that is open before its final byte
pub text_cuts : (h : Held) (b : ℕ) (rest : List ℕ) (c : ℕ) (more : List ℕ) → IsReached h → is_body h.kept ≡ false → begun_bytes h ≡ [] → (is_character h.kept ≡ false → 128 ≤ b) → IsLendable c → b ∷ rest ≡ encode c ++ more
    → GoesOn h (b ∷ rest) [] nothing_held
text_cuts h b rest c more r o z l t e = kept_cut h.kept h.waiting b rest (reached_sound h r) o z l (lead_of c b rest more t e)
