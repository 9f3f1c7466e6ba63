-- A byte that cuts a sequence off: its effect, and when memory is taken after it.
use Rattle.std.proofs.Common.{◌≡◌, ℕ, true, false, List, [], refl, subst, arith, ◌-◌}
use Rattle.std.proofs.lemmas.Bool.{or_parts, cond_both}
use Rattle.escape_framing.specs.Bytes.{is_stop, is_embedded, is_intermediate, is_cut}
use Rattle.csi_codec.specs.Tokens.{is_parameter}
use Rattle.csi_codec.specs.Tokens.{Parameters}
use Rattle.escape_framing.specs.Held.{Kept, InCharacter, InEscape, InControlSequence, InCommand, InHeader, InDevice, InString, kept_of, Step, character_step, escape_step, control_sequence_step, device_step, string_step, kept_step, TakesMemory, header_step}
use Rattle.escape_framing.proofs.SequenceReading.{cut_is_outside, cut_is_no_parameter}
use Rattle.escape_framing.proofs.KeptLemmas.{character_tails}
use Rattle.text_clusters.specs.Controls.{is_c1}
use Rattle.std.proofs.lemmas.Bool.Decides.{nat_tests}

-- ---- memory

takes_none : (bytes : List ℕ) (b : ℕ) → TakesMemory (character_step bytes b).kept → ⊥
unfolding character_step
takes_none bytes b = character_tails (λ t. TakesMemory (kept_of t) → ⊥) (λ x m. m) (λ m. m) bytes b

pub escape_cut : (xs : List ℕ) (b : ℕ) → is_cut b ≡ true → escape_step xs b ≡ character_step [] b
unfolding escape_step
escape_cut xs b h = let n = or_parts (is_embedded b) (is_intermediate b) (cut_is_outside b h) in rw (n.0, n.1, h) refl

pub control_sequence_cut : (p : Parameters) (b : ℕ) → is_cut b ≡ true → control_sequence_step p b ≡ character_step [] b
unfolding control_sequence_step
control_sequence_cut p b h = let n = or_parts (is_embedded b) (is_parameter b) (cut_is_no_parameter b h) in rw (n.0, n.1, h) refl

pub header_cut : (header : List ℕ) (b : ℕ) → is_cut b ≡ true → header_step header b ≡ character_step [] b
unfolding header_step
header_cut header b h = let n = or_parts (is_embedded b) (is_parameter b) (cut_is_no_parameter b h) in rw (n.0, n.1, h) refl

-- the second half of a C1 control, as a byte after ESC
pub c1_not_cut : (b : ℕ) → is_c1 0xC2 b ≡ true → is_cut (b - 0x40) ≡ false
unfolding is_cut is_stop
c1_not_cut b h = grind (arith, nat_tests)

-- a kept state takes memory after a byte that cuts off only if it took memory before the byte
pub took_memory : (kept : Kept) (b : ℕ) → is_cut b ≡ true → TakesMemory (kept_step kept b).kept → TakesMemory kept
unfolding device_step string_step
took_memory (InCharacter bytes) b h m = takes_none bytes b m
took_memory (InEscape xs) b h m = takes_none [] b (subst (λ (s : Step). TakesMemory s.kept) (escape_cut xs b h) m)
took_memory (InControlSequence p) b h m = takes_none [] b (subst (λ (s : Step). TakesMemory s.kept) (control_sequence_cut p b h) m)
took_memory (InCommand body) b h m = tt
took_memory (InHeader header) b h m = tt
took_memory InDevice b h m = cond_both (is_stop b) _ _ (λ (s : Step). TakesMemory s.kept → ⊥) (λ e. takes_none [] b) (λ e n. n) m
took_memory InString b h m = cond_both (is_stop b) _ _ (λ (s : Step). TakesMemory s.kept → ⊥) (λ e. takes_none [] b) (λ e n. n) m

pub escape_cuts : is_cut 0x1B ≡ true
unfolding is_cut is_stop
escape_cuts = refl

pub lead_cuts : is_cut 0xC2 ≡ true
unfolding is_cut is_stop
lead_cuts = refl

pub never : (b : ℕ) {A : Type 0} → is_cut b ≡ true → is_cut b ≡ false → A
never b h k = cc
