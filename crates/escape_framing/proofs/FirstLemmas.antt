-- The reading of one byte where nothing is open, by the range of the byte.
use Rattle.std.proofs.Common.{◌≡◌, ◌≢◌, ℕ, ◌+◌, ◌/◌, ◌<◌, ◌≤◌, ◌⊎◌, inl, inr, List, [], ◌∷◌, refl, sym, ap, ◌∙◌, arith, ⊎_elim}
use Rattle.std.specs.Char.{IsScalar}
use Rattle.std.specs.List.{flat_map}
use Rattle.std.proofs.lemmas.Str.{encode_ascii}
use lib.Utf8.{encode, low_scalar}
use Rattle.escape_framing.specs.Segment.{Segment, Character, Control, BeginsCharacter, IsControl}
use Rattle.escape_framing.specs.Decode.{Reading, ends, segment_of, first_byte, in_character, next_byte}
use Rattle.escape_framing.specs.Dispatch.{dispatches_of}
use Rattle.escape_framing.specs.Dispatch as dispatch
use Rattle.escape_framing.specs.Held.{InCharacter, InEscape, kept_of, steps, character_step}
use Rattle.escape_framing.proofs.Existence.Utf8Lemmas.{Spelled, in_one, in_two, in_three, in_four, spelled, lead_wants, begins_one, is_text}
use Rattle.escape_framing.proofs.CharacterReading.{ends_first, plain_segment, control_segment, waits_begun, breaks_first}

-- the dispatches of the reading of one byte
of_reading : (b : ℕ) (r : Reading) → first_byte b ≡ r → character_step [] b ≡ steps (flat_map dispatches_of r.segments) (kept_of r.tail)
unfolding character_step in_character
of_reading b r e = ap (λ (x : Reading). steps (flat_map dispatches_of x.segments) (kept_of x.tail)) e

pub first_escape : character_step [] 0x1B ≡ steps [] (InEscape [])
unfolding character_step in_character first_byte
first_escape = refl

low : (b : ℕ) → b < 128 → b ≢ 0x1B → (s : Segment) → ((bytes : List ℕ) → segment_of bytes b ≡ s) → first_byte b ≡ ends s
low b l n s e =
    let k : IsScalar b = low_scalar b (omega arith) in
    let w : encode b ≡ b ∷ [] = encode_ascii b l in
    ends_first b b k w n (is_text b (b ∷ []) k w) ∙ ap ends (e (b ∷ []))

pub first_print : (b : ℕ) → 0x20 ≤ b → b ≤ 0x7E → character_step [] b ≡ steps (dispatch.Print b ∷ []) (InCharacter [])
first_print b l h = of_reading b _ (low b (omega arith) (λ e. omega arith) (Character b) (λ bytes. plain_segment bytes b (inl (l, h))))

pub first_control : (b : ℕ) → (b < 0x20) ⊎ (b ≡ 0x7F) → b ≢ 0x1B → character_step [] b ≡ steps (dispatch.Control b ∷ []) (InCharacter [])
first_control b k n =
    let l : b < 128 = ⊎_elim (λ m. omega arith) (λ e. omega arith) k in
    let c : IsControl b = ⊎_elim (λ m. inl (m, n)) inr k in
    of_reading b _ (low b l n (Control b) (λ bytes. control_segment bytes b c))

pub first_waits : (b : ℕ) → 0xC2 ≤ b → b ≤ 0xF4 → character_step [] b ≡ steps [] (InCharacter (b ∷ []))
unfolding next_byte in_character
first_waits b l h = of_reading b _ (waits_begun [] b (inl refl) (begins_one b (lead_wants b l h)))

no_lead : (b : ℕ) → 128 ≤ b → (b < 0xC2) ⊎ (0xF4 < b) → BeginsCharacter (b ∷ []) → ⊥
no_lead b l k (c, more, s, e) = by_kind k (spelled c s)
  where
    by_kind : (b < 0xC2) ⊎ (0xF4 < b) → Spelled c → ⊥
    by_kind k (in_one g h) = let m : c ∷ [] ≡ b ∷ more = sym h ∙ e in let n : c ≡ b = cc in omega arith
    by_kind (inl k) (in_two g l' h) = let m = sym h ∙ e in let n : 192 + c / 64 ≡ b = cc in omega arith
    by_kind (inr k) (in_two g l' h) = let m = sym h ∙ e in let n : 192 + c / 64 ≡ b = cc in omega arith
    by_kind (inl k) (in_three g l' t h) = let m = sym h ∙ e in let n : 224 + c / 4096 ≡ b = cc in omega arith
    by_kind (inr k) (in_three g l' t h) = let m = sym h ∙ e in let n : 224 + c / 4096 ≡ b = cc in omega arith
    by_kind (inl k) (in_four g l' h) = let m = sym h ∙ e in let n : 240 + c / 262144 ≡ b = cc in omega arith
    by_kind (inr k) (in_four g l' h) = let m = sym h ∙ e in let n : 240 + c / 262144 ≡ b = cc in omega arith

pub first_stray : (b : ℕ) → 128 ≤ b → (b < 0xC2) ⊎ (0xF4 < b) → character_step [] b ≡ steps (dispatch.Print 0xFFFD ∷ []) (InCharacter [])
first_stray b l k = of_reading b _ (breaks_first b (no_lead b l k))
