-- Nothing is held of a stream exactly where nothing is open.
use Rattle.std.proofs.Common.{◌≡◌, ◌≢◌, ℕ, inl, inr, true, false, List, [], ◌∷◌, refl, sym, ap, ◌∙◌}
use Rattle.escape_framing.specs.SevenBit.{seven_bit}
use Rattle.escape_framing.specs.Segment.{Tail, Begun, OpenCommand, OpenDevice, OpenString, IsUnfinished}
use Rattle.escape_framing.specs.Decode.{Reading, next_byte, read_on}
use Rattle.escape_framing.specs.Cut.{the_cut, tail_of}
use Rattle.escape_framing.specs.Held.{InCharacter, kept_of, Held, Handed, nothing_held, hand_out, held_of}
use Rattle.escape_framing.proofs.CharacterReading.{breaks}
use Rattle.escape_framing.proofs.SequenceReading.{cut_off, stays_command, stays_device, stays_string}
use Rattle.escape_framing.proofs.HeldLemmas.{At, at_rest, at_c2, unfinished, at_all, read_push, c2_waits, first_c2, c2_is_command, c2_is_data, no_inner, no_c2}
use Rattle.escape_framing.proofs.WaitingLemmas.{lead_cuts}

-- only a tail of nothing keeps nothing
kept_nothing : (t : Tail) → kept_of t ≡ InCharacter [] → t ≡ Begun []
kept_nothing (Begun bytes) e = ap Begun (let k : bytes ≡ [] = cc in k)
kept_nothing _ e = cc

pub tail_is : (s : List ℕ) → tail_of s ≡ (read_on (Begun []) (seven_bit s)).tail
unfolding the_cut
tail_is s = refl

-- a C2 leaves something open
c2_open : (t : Tail) → IsUnfinished t → (next_byte t 0xC2).tail ≢ Begun []
c2_open (Begun []) g e = let k = sym (ap (λ (r : Reading). r.tail) c2_waits) ∙ e in cc
c2_open (Begun (x ∷ p)) (inl h) e = cc
c2_open (Begun (x ∷ p)) (inr h) e =
    let k = sym (ap (λ (r : Reading). r.tail) (breaks (x ∷ p) 0xC2 h (no_inner x 0xC2 p no_c2)) ∙ ap (λ (r : Reading). r.tail) first_c2) ∙ e in cc
c2_open (OpenCommand o body) g e = let k = sym (ap (λ (r : Reading). r.tail) (stays_command o body 0xC2 c2_is_command)) ∙ e in cc
c2_open (OpenDevice o header f body) g e = let k = sym (ap (λ (r : Reading). r.tail) (stays_device o header f body 0xC2 c2_is_data)) ∙ e in cc
c2_open (OpenString o x body) g e = let k = sym (ap (λ (r : Reading). r.tail) (stays_string o x body 0xC2 c2_is_data)) ∙ e in cc
c2_open t g e = let k = sym (ap (λ (r : Reading). r.tail) (cut_off t 0xC2 refl lead_cuts) ∙ ap (λ (r : Reading). r.tail) first_c2) ∙ e in cc

idle_at : (s : List ℕ) (h : Handed) → At s h → h.held ≡ nothing_held → tail_of s ≡ Begun []
idle_at s h (at_rest o r w) e = tail_is s ∙ kept_nothing _ (r.keeps ∙ ap (λ (x : Held). x.kept) e)
idle_at s h (at_c2 v ds kept form o r k) e = let m : true ≡ false = sym (ap (λ (n : Handed). n.held.waiting) k) ∙ ap (λ (x : Held). x.waiting) e in cc

whole_at : (s : List ℕ) (h : Handed) → At s h → tail_of s ≡ Begun [] → h.held ≡ nothing_held
whole_at s h (at_rest o r w) e =
    let k : h.held.kept ≡ InCharacter [] = sym r.keeps ∙ ap kept_of (sym (tail_is s) ∙ e) in
    (λ i. record { kept = k i; waiting = w i })
whole_at s h (at_c2 v ds kept form o r k) e =
    absurd (c2_open (read_on (Begun []) v).tail (unfinished v)
    (sym (ap (λ (q : Reading). q.tail) (read_push (Begun []) v 0xC2)) ∙ ap (λ l. (read_on (Begun []) l).tail) (sym form) ∙ sym (tail_is s) ∙ e))

pub idle_is_whole : (stream : List ℕ) → held_of stream ≡ nothing_held → tail_of stream ≡ Begun []
idle_is_whole stream e = idle_at stream (hand_out nothing_held stream) (at_all stream) e

pub whole_is_idle : (stream : List ℕ) → tail_of stream ≡ Begun [] → held_of stream ≡ nothing_held
whole_is_idle stream e = whole_at stream (hand_out nothing_held stream) (at_all stream) e
