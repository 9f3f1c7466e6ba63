-- A seven-bit form has no C1 control; and how one more byte changes it.
use Rattle.std.proofs.Common.{◌≡◌, ℕ, ◌-◌, Bool, true, false, List, [], ◌∷◌, ◌++◌, refl, ap, ⊎_elim}
use Rattle.std.proofs.Common.{arith}
use Rattle.std.proofs.lemmas.Bool.{and_parts, and_right, cond_both, cases_Bool}
use Rattle.std.proofs.lemmas.Bool.Decides.{nat_tests}
use Rattle.std.specs.Prelude.{◌==◌, ◌&&◌, not, if◌then◌else◌}
use Rattle.text_clusters.specs.Controls.{is_c1}
use Rattle.escape_framing.specs.SevenBit.{seven_bit}

-- no two neighbours are a C1 control
abbrev pub no_pair : List ℕ → Bool
no_pair [] = true
no_pair (b ∷ []) = true
no_pair (b ∷ c ∷ bytes) = not (is_c1 b c) && no_pair (c ∷ bytes)

pub no_pair_after : (xs ys : List ℕ) → no_pair (xs ++ ys) ≡ true → no_pair ys ≡ true
no_pair_after [] ys h = h
no_pair_after (x ∷ []) [] h = refl
no_pair_after (x ∷ []) (y ∷ ys) h = (and_parts (not (is_c1 x y)) _ h).1
no_pair_after (x ∷ z ∷ xs) ys h = no_pair_after (z ∷ xs) ys (and_parts (not (is_c1 x z)) _ h).1

pub no_pair_prefix : (xs ys : List ℕ) → no_pair (xs ++ ys) ≡ true → no_pair xs ≡ true
no_pair_prefix [] ys h = refl
no_pair_prefix (x ∷ []) ys h = refl
no_pair_prefix (x ∷ z ∷ xs) ys h =
    let k = and_parts (not (is_c1 x z)) _ h in rw (k.0, no_pair_prefix (z ∷ xs) ys k.1) refl

stop_is_no_second : (x : ℕ) → is_c1 x 0x1B ≡ false
stop_is_no_second x = and_right (x == 0xC2) false refl

cons_low : (x : ℕ) (l : List ℕ) → (x == 0xC2) ≡ false → no_pair l ≡ true → no_pair (x ∷ l) ≡ true
cons_low x [] e h = refl
cons_low x (y ∷ l) e h = rw e h

-- the first byte of a pair's form is ESC, and else the byte itself
cons_form : (x y : ℕ) (l : List ℕ) → is_c1 x y ≡ false → no_pair (seven_bit (y ∷ l)) ≡ true → no_pair (x ∷ seven_bit (y ∷ l)) ≡ true
cons_form x y [] e h = rw e refl
cons_form x y (z ∷ l) e h =
    cond_both (is_c1 y z) _ _ (λ m. no_pair (x ∷ m) ≡ true) (λ k. rw (stop_is_no_second x) (rw k at h)) (λ k. rw e (rw k at h))

pub no_pair_form : (s : List ℕ) → no_pair (seven_bit s) ≡ true
no_pair_form [] = refl
no_pair_form (b ∷ []) = refl
no_pair_form (b ∷ c ∷ s) =
    cond_both (is_c1 b c) _ _ (λ l. no_pair l ≡ true) (λ e. cons_low (c - 0x40) (seven_bit s) (small e) (no_pair_form s)) (λ e. cons_form b c s e (no_pair_form (c ∷ s)))
  where
    small : is_c1 b c ≡ true → ((c - 0x40) == 0xC2) ≡ false
    small h = grind (arith, nat_tests)

-- the stream ends in a C2 that nothing has followed
abbrev pub opens : List ℕ → Bool
opens [] = false
opens (b ∷ []) = b == 0xC2
opens (b ∷ c ∷ bytes) = if is_c1 b c then opens bytes else opens (c ∷ bytes)

-- the byte makes a pair with the stream's last
abbrev pub pairs : List ℕ → ℕ → Bool
pairs s b = opens s && is_c1 0xC2 b

pub seven_bit_plain : (s : List ℕ) (b : ℕ) → pairs s b ≡ false → seven_bit (s ++ b ∷ []) ≡ seven_bit s ++ b ∷ []
seven_bit_plain [] b h = refl
seven_bit_plain (x ∷ []) b h = rw h refl
seven_bit_plain (x ∷ y ∷ s) b h =
    ⊎_elim (λ e. rw e (ap (λ l. 0x1B ∷ (y - 0x40) ∷ l) (seven_bit_plain s b (rw e at h)))) (λ e. rw e (ap (λ l. x ∷ l) (seven_bit_plain (y ∷ s) b (rw e at h)))) (cases_Bool (is_c1 x y))

pub record Pairs (s : List ℕ) (b : ℕ) : Type 0 where
  pub prefix : List ℕ
  pub before : seven_bit s ≡ prefix ++ 0xC2 ∷ []
  pub after : seven_bit (s ++ b ∷ []) ≡ prefix ++ 0x1B ∷ (b - 0x40) ∷ []

is_c2 : (x b : ℕ) → is_c1 x b ≡ true → x ≡ 0xC2
is_c2 x b h = grind (arith, nat_tests)

pub seven_bit_pair : (s : List ℕ) (b : ℕ) → pairs s b ≡ true → Pairs s b
seven_bit_pair [] b h = cc
seven_bit_pair (x ∷ []) b h = record { prefix = []; before = ap (λ y. y ∷ []) (is_c2 x b h); after = rw h refl }
seven_bit_pair (x ∷ y ∷ s) b h = ⊎_elim
    (λ e. let p = seven_bit_pair s b (rw e at h) in
    record { prefix = 0x1B ∷ (y - 0x40) ∷ p.prefix; before = rw e (ap (λ l. 0x1B ∷ (y - 0x40) ∷ l) p.before); after = rw e (ap (λ l. 0x1B ∷ (y - 0x40) ∷ l) p.after) })
    (λ e. let p = seven_bit_pair (y ∷ s) b (rw e at h) in record { prefix = x ∷ p.prefix; before = rw e (ap (λ l. x ∷ l) p.before); after = rw e (ap (λ l. x ∷ l) p.after) })
    (cases_Bool (is_c1 x y))

pub opens_more : (s : List ℕ) (b : ℕ) → opens (s ++ b ∷ []) ≡ (if pairs s b then false else b == 0xC2)
opens_more [] b = refl
opens_more (x ∷ []) b = refl
opens_more (x ∷ y ∷ s) b = ⊎_elim (λ e. rw e (opens_more s b)) (λ e. rw e (opens_more (y ∷ s) b)) (cases_Bool (is_c1 x y))
