-- The texts of prints and controls: a segment for each character, and one for a control.
use Rattle.std.proofs.Common.{◌≡◌, ℕ, ◌+◌, ◌<◌, ◌≤◌, ◌/◌, ◌%◌, inl, inr, zero, suc, Bool, true, false, List, [], ◌∷◌, ◌++◌, map, refl, sym, ap, ◌∙◌, arith, append_assoc}
use Rattle.std.specs.Prelude.{◌==◌, ◌&&◌, ◌⊎◌, ◌≢◌, nat_lt, All, find, encode_utf8, encode_utf8_all}
use Rattle.std.specs.Char.{IsScalar}
use Rattle.std.specs.Str.{chars}
use Rattle.std.specs.List.{list_any}
use Rattle.std.proofs.lemmas.Bool.{and_parts}
use Rattle.std.proofs.lemmas.Bool.Decides.{nat_tests}
use Rattle.std.proofs.lemmas.List.Elements.{All-head, All-tail}
use Rattle.std.proofs.lemmas.Str.{encodes-chars, scalars-chars}
use Rattle.text_clusters.specs.Controls.{is_c1}
use lib.Utf8.{scalar, scalars}
use Rattle.escape_framing.specs.Segment.{Character, Control, IsPrintable, IsControl}
use Rattle.escape_framing.proofs.Existence.Utf8Lemmas.{Spelled, in_one, in_two, in_three, in_four, spelled, order}
use Rattle.escape_framing.proofs.Existence.SevenBitLemmas.{no_pair, no_pair_after}
use Rattle.escape_stream.specs.declared.control.ControlCode.{ControlCode}
use Rattle.escape_stream.specs.Controls.{control_number, control_codes}
use Rattle.escape_stream.specs.StreamAction.{StreamAction, print, control}
use Rattle.escape_stream.specs.StreamActions.{named_control}
use Rattle.escape_stream.specs.StreamWritable.{IsPrintableText}
use Rattle.escape_stream.proofs.PlainBytes.{same_number}
use Rattle.escape_stream.proofs.TextSegments.{Says, says_same, says_segment, pair_stands, other_stands, low_stands}

-- ---- Characters

lead_stands : (x : ℕ) → 192 ≤ x → is_c1 0xC2 x ≡ false
lead_stands x h = grind (arith, nat_tests)

is_other : (x : ℕ) → x ≢ 0xC2 → (x == 0xC2) ≡ false
is_other x h = grind (arith, nat_tests)

high_second : (x y : ℕ) → 160 ≤ y → is_c1 x y ≡ false
high_second x y h = grind (arith, nat_tests)

other_first : (x y : ℕ) → x ≢ 0xC2 → is_c1 x y ≡ false
other_first x y h = grind (arith, nat_tests)

-- two bytes of a character above U+009F are no C1 control
two_bytes : (c : ℕ) → 159 < c → c < 2048 → is_c1 (192 + c / 64) (128 + c % 64) ≡ false
two_bytes c l h = by_order (order c 192)
  where
    by_order : (c < 192) ⊎ (192 ≤ c) → is_c1 (192 + c / 64) (128 + c % 64) ≡ false
    by_order (inl m) = high_second (192 + c / 64) (128 + c % 64) (omega arith)
    by_order (inr m) = other_first (192 + c / 64) (128 + c % 64) (λ e. omega arith)

above : (c : ℕ) → 128 ≤ c → IsPrintable c → 159 < c
above c l (inl p) = let h = p.1 in absurd (omega arith)
above c l (inr p) = p

low_test : (c : ℕ) → c < 128 → nat_lt c 128 ≡ true
low_test c h = grind (arith, nat_tests)

character_stands : (c : ℕ) (bytes : List ℕ) → IsPrintable c → Spelled c → no_pair (0xC2 ∷ bytes) ≡ true → no_pair (0xC2 ∷ (encode_utf8 c ++ bytes)) ≡ true
character_stands c bytes p (in_one l e) h = ap (λ x. no_pair (0xC2 ∷ (x ++ bytes))) e ∙ low_stands c bytes (low_test c l) (no_pair_after (0xC2 ∷ []) bytes h)
character_stands c bytes p (in_two g l e) h =
    ap (λ x. no_pair (0xC2 ∷ (x ++ bytes))) e
    ∙ pair_stands 0xC2 (192 + c / 64) ((128 + c % 64) ∷ bytes) (lead_stands (192 + c / 64) (omega arith))
    (pair_stands (192 + c / 64) (128 + c % 64) bytes (two_bytes c (above c g p) l)
    (other_stands (128 + c % 64) bytes (is_other (128 + c % 64) (λ k. omega arith)) (no_pair_after (0xC2 ∷ []) bytes h)))
character_stands c bytes p (in_three g l s e) h =
    ap (λ x. no_pair (0xC2 ∷ (x ++ bytes))) e
    ∙ pair_stands 0xC2 (224 + c / 4096) ((128 + (c / 64) % 64) ∷ (128 + c % 64) ∷ bytes) (lead_stands (224 + c / 4096) (omega arith))
    (other_stands (224 + c / 4096) ((128 + (c / 64) % 64) ∷ (128 + c % 64) ∷ bytes) (is_other (224 + c / 4096) (λ k. omega arith))
    (other_stands (128 + (c / 64) % 64) ((128 + c % 64) ∷ bytes) (is_other (128 + (c / 64) % 64) (λ k. omega arith))
    (other_stands (128 + c % 64) bytes (is_other (128 + c % 64) (λ k. omega arith)) (no_pair_after (0xC2 ∷ []) bytes h))))
character_stands c bytes p (in_four g l e) h =
    ap (λ x. no_pair (0xC2 ∷ (x ++ bytes))) e
    ∙ pair_stands 0xC2 (240 + c / 262144) ((128 + (c / 4096) % 64) ∷ (128 + (c / 64) % 64) ∷ (128 + c % 64) ∷ bytes) (lead_stands (240 + c / 262144) (omega arith))
    (other_stands (240 + c / 262144) ((128 + (c / 4096) % 64) ∷ (128 + (c / 64) % 64) ∷ (128 + c % 64) ∷ bytes) (is_other (240 + c / 262144) (λ k. omega arith))
    (other_stands (128 + (c / 4096) % 64) ((128 + (c / 64) % 64) ∷ (128 + c % 64) ∷ bytes) (is_other (128 + (c / 4096) % 64) (λ k. omega arith))
    (other_stands (128 + (c / 64) % 64) ((128 + c % 64) ∷ bytes) (is_other (128 + (c / 64) % 64) (λ k. omega arith))
    (other_stands (128 + c % 64) bytes (is_other (128 + c % 64) (λ k. omega arith)) (no_pair_after (0xC2 ∷ []) bytes h)))))

pub says_print : (c : ℕ) (bytes : List ℕ) (actions : List StreamAction) → IsScalar c → IsPrintable c → Says bytes actions → Says (encode_utf8 c ++ bytes) (print c ∷ actions)
says_print c bytes actions s p h = says_segment (Character c) bytes actions (s, p) (character_stands c bytes p (spelled c s) h.unpaired) h

says_prints : (cs bytes : List ℕ) (actions : List StreamAction) → scalars cs ≡ true → All IsPrintable cs → Says bytes actions → Says (encode_utf8_all cs ++ bytes) (map print cs ++ actions)
says_prints [] bytes actions s p h = h
says_prints (c ∷ cs) bytes actions s p h =
    let q = and_parts (scalar c) (scalars cs) s in
    says_same (sym (append_assoc (encode_utf8 c) (encode_utf8_all cs) bytes)) refl
    (says_print c (encode_utf8_all cs ++ bytes) (map print cs ++ actions) q.0 (All-head IsPrintable c cs p) (says_prints cs bytes actions q.1 (All-tail IsPrintable c cs p) h))

pub says_text : (text bytes : List ℕ) (actions : List StreamAction) → IsPrintableText text → Says bytes actions → Says (text ++ bytes) (map print (chars text) ++ actions)
says_text text bytes actions t h =
    says_same (ap (λ l. l ++ bytes) (encodes-chars text t.utf8)) refl (says_prints (chars text) bytes actions (scalars-chars text t.utf8) t.printable h)

-- ---- Controls

-- a test that passes at all numbers below one passes at each
abbrev all_below : (ℕ → Bool) → ℕ → Bool
all_below test zero = true
all_below test (suc n) = test n && all_below test n

at_below : (test : ℕ → Bool) (count n : ℕ) → all_below test count ≡ true → n < count → test n ≡ true
at_below test zero n h l = absurd (omega arith)
at_below test (suc count) n h l = let p = and_parts (test count) (all_below test count) h in by_order (order n count) (λ m. at_below test count n p.1 m)
  where
    by_order : (n < count) ⊎ (count ≤ n) → (n < count → test n ≡ true) → test n ≡ true
    by_order (inl m) below = below m
    by_order (inr m) below = let e : n ≡ count = omega arith in ap test e ∙ (and_parts (test count) (all_below test count) h).0

abbrev is_listed : List ControlCode → ℕ → Bool
is_listed codes n = list_any (λ known. control_number known == n) codes

listed : (n : ℕ) → IsControl n → is_listed control_codes n ≡ true
listed n (inl h) = at_below (is_listed control_codes) 32 n refl h.0
listed n (inr e) = ap (is_listed control_codes) e

found : (codes : List ControlCode) (n : ℕ) → is_listed codes n ≡ true → named_control (find (λ known. control_number known == n) codes) ≡ control n ∷ []
found [] n h = cc
found (known ∷ codes) n h = by_test (control_number known == n) refl h (found codes n)
  where
    by_test : (u : Bool) → (control_number known == n) ≡ u → is_listed (known ∷ codes) n ≡ true → (is_listed codes n ≡ true → named_control (find (λ known. control_number known == n) codes) ≡ control n ∷ [])
        → named_control (find (λ known. control_number known == n) (known ∷ codes)) ≡ control n ∷ []
    by_test true e h remaining = rw e (ap (λ m. control m ∷ []) (same_number (control_number known) n e))
    by_test false e h remaining = rw e (remaining (rw e at h))

control_low : (n : ℕ) → IsControl n → n < 128
control_low n (inl h) = let l = h.0 in omega arith
control_low n (inr e) = omega arith

pub says_control : (n : ℕ) (bytes : List ℕ) (actions : List StreamAction) → IsControl n → Says bytes actions → Says (n ∷ bytes) (control n ∷ actions)
says_control n bytes actions c h =
    says_same refl (ap (λ l. (l ++ []) ++ actions) (found control_codes n (listed n c)))
    (says_segment (Control n) bytes actions c (low_stands n bytes (low_test n (control_low n c)) (no_pair_after (0xC2 ∷ []) bytes h.unpaired)) h)
