-- What the first bytes of a character are, and which bytes are whole, begun or broken.
use Rattle.std.proofs.Common.{◌≡◌, ◌≢◌, ℕ, ◌+◌, ◌-◌, ◌*◌, ◌/◌, ◌%◌, ◌<◌, ◌≤◌, ◌⊎◌, inl, inr, ⊎_elim, Bool, true, false, cond, List, [], ◌∷◌, ◌++◌, refl, sym, ap, subst, ◌∙◌, arith, Option, Some, None, append_assoc}
use Rattle.std.specs.Char.{IsScalar}
use Rattle.std.specs.Int.{is_in_range}
use Rattle.std.specs.Str.{is_utf8}
use Rattle.std.specs.Str.Lossy.{utf8_error_len, second_byte_min, second_byte_max}
use Rattle.std.proofs.lemmas.Str.{encode_same, is_utf8-from_IsUtf8, encode_ascii}
use Rattle.std.proofs.lemmas.Bool.Decides.{nat_tests}
use Rattle.std.proofs.lemmas.Bool.{cases_lt}
use lib.Utf8.{encode, scalar_cases, low_scalar, next}
use Rattle.escape_framing.specs.Segment.{IsBegun}

pub order : (m n : ℕ) → (m < n) ⊎ (n ≤ m)
order m n = cases_lt m n

pub two : (c : ℕ) → 128 ≤ c → c < 2048 → encode c ≡ (192 + c / 64) ∷ next c ∷ []
unfolding encode
two c l h = grind (arith, nat_tests)

pub three : (c : ℕ) → 2048 ≤ c → c < 65536 → encode c ≡ (224 + c / 4096) ∷ next (c / 64) ∷ next c ∷ []
unfolding encode
three c l h = grind (arith, nat_tests)

four : (c : ℕ) → 65536 ≤ c → encode c ≡ (240 + c / 262144) ∷ next (c / 4096) ∷ next (c / 64) ∷ next c ∷ []
unfolding encode
four c l = grind (arith, nat_tests)

-- a character's bytes, by how many there are
pub data Spelled (c : ℕ) : Type 0 where
  in_one : c < 128 → encode c ≡ c ∷ [] → Spelled c
  in_two : 128 ≤ c → c < 2048 → encode c ≡ (192 + c / 64) ∷ (128 + c % 64) ∷ [] → Spelled c
  in_three : 2048 ≤ c → c < 65536 → (c < 55296) ⊎ (57344 ≤ c) → encode c ≡ (224 + c / 4096) ∷ (128 + (c / 64) % 64) ∷ (128 + c % 64) ∷ [] → Spelled c
  in_four : 65536 ≤ c → c < 1114112 → encode c ≡ (240 + c / 262144) ∷ (128 + (c / 4096) % 64) ∷ (128 + (c / 64) % 64) ∷ (128 + c % 64) ∷ [] → Spelled c

pub spelled : (c : ℕ) → IsScalar c → Spelled c
spelled c s = ⊎_elim (λ l. in_one l (encode_ascii c l))
    (λ g. ⊎_elim (λ l. in_two g l (two c g l))
    (λ g'. ⊎_elim (λ l. in_three g' l (⊎_elim (λ p. inl p) (λ p. inr p.0) (scalar_cases c s)) (three c g' l))
    (λ g''. in_four g'' (⊎_elim (λ p. absurd (omega arith)) (λ p. p.1) (scalar_cases c s)) (four c g'')) (order c 65536)) (order c 2048)) (order c 128)

-- nothing after a list leaves it
pub append_nil : (xs : List ℕ) → xs ++ [] ≡ xs
append_nil [] = refl
append_nil (x ∷ xs) = ap (λ ys. x ∷ ys) (append_nil xs)

pub some_last : (xs : List ℕ) (b : ℕ) → xs ++ b ∷ [] ≢ []
some_last [] b h = cc
some_last (x ∷ xs) b h = cc

pub in_range : (lo hi x : ℕ) → lo ≤ x → x ≤ hi → is_in_range lo hi x ≡ true
in_range lo hi x l h = grind (arith, nat_tests)

-- the second byte is one that may follow the first
second : (x y : ℕ) → (x ≡ 0xE0 → 0xA0 ≤ y) → (x ≡ 0xED → y ≤ 0x9F) → (x ≡ 0xF0 → 0x90 ≤ y) → (x ≡ 0xF4 → y ≤ 0x8F) → 0x80 ≤ y → y ≤ 0xBF
    → is_in_range (second_byte_min x) (second_byte_max x) y ≡ true
second x y e0 ed f0 f4 l h = grind (arith, nat_tests)

second_in_three : (c : ℕ) → 2048 ≤ c → c < 65536 → (c < 55296) ⊎ (57344 ≤ c)
    → is_in_range (second_byte_min (224 + c / 4096)) (second_byte_max (224 + c / 4096)) (128 + (c / 64) % 64) ≡ true
second_in_three c g l s = second (224 + c / 4096) (128 + (c / 64) % 64) (λ e. omega arith) (λ e. ⊎_elim (λ p. omega arith) (λ p. absurd (omega arith)) s) (λ e. absurd (omega arith)) (λ e. absurd (omega arith)) (omega arith) (omega arith)

second_in_four : (c : ℕ) → 65536 ≤ c → c < 1114112
    → is_in_range (second_byte_min (240 + c / 262144)) (second_byte_max (240 + c / 262144)) (128 + (c / 4096) % 64) ≡ true
second_in_four c g l = second (240 + c / 262144) (128 + (c / 4096) % 64) (λ e. absurd (omega arith)) (λ e. absurd (omega arith)) (λ e. omega arith) (λ e. omega arith) (omega arith) (omega arith)

-- one, two or three bytes of which more are wanted
pub lead_wants : (x : ℕ) → 194 ≤ x → x ≤ 244 → utf8_error_len (x ∷ []) ≡ None
unfolding utf8_error_len
lead_wants x l h = rw (in_range 194 244 x l h) refl

pub pair_wants : (x y : ℕ) → 194 ≤ x → x ≤ 244 → is_in_range (second_byte_min x) (second_byte_max x) y ≡ true → utf8_error_len (x ∷ y ∷ []) ≡ None
unfolding utf8_error_len
pair_wants x y l h e = rw (in_range 194 244 x l h, e) refl

pub triple_wants : (x y z : ℕ) → 194 ≤ x → x ≤ 244 → is_in_range (second_byte_min x) (second_byte_max x) y ≡ true → 0x80 ≤ z → z ≤ 0xBF → utf8_error_len (x ∷ y ∷ z ∷ []) ≡ None
unfolding utf8_error_len
triple_wants x y z l h e m n = rw (in_range 194 244 x l h, e, in_range 0x80 0xBF z m n) refl

-- a prefix of a list, at the positions where it can end
module _ {X : Type 0} where
  pub prefix_of_one : (a : X) (bs more : List X) → a ∷ [] ≡ bs ++ more → bs ≢ [] → more ≢ [] → ⊥
  prefix_of_one a [] more e n m = n refl
  prefix_of_one a (x ∷ []) more e n m = m (let h : [] ≡ more = cc in sym h)
  prefix_of_one a (x ∷ y ∷ bs) more e n m = cc

  pub prefix_of_two : (a b : X) (bs more : List X) → a ∷ b ∷ [] ≡ bs ++ more → bs ≢ [] → more ≢ [] → bs ≡ a ∷ []
  prefix_of_two a b [] more e n m = absurd (n refl)
  prefix_of_two a b (x ∷ []) more e n m = cc
  prefix_of_two a b (x ∷ y ∷ bs) more e n m =
      let rest : b ∷ [] ≡ (y ∷ bs) ++ more = cc in absurd (prefix_of_one b (y ∷ bs) more rest (λ h. cc) m)

  pub prefix_of_three : (a b c : X) (bs more : List X) → a ∷ b ∷ c ∷ [] ≡ bs ++ more → bs ≢ [] → more ≢ [] → (bs ≡ a ∷ []) ⊎ (bs ≡ a ∷ b ∷ [])
  prefix_of_three a b c [] more e n m = absurd (n refl)
  prefix_of_three a b c (x ∷ []) more e n m = inl cc
  prefix_of_three a b c (x ∷ y ∷ bs) more e n m =
      let rest : b ∷ c ∷ [] ≡ (y ∷ bs) ++ more = cc in
      let h = prefix_of_two b c (y ∷ bs) more rest (λ h. cc) m in inr cc

  prefix_of_four : (a b c d : X) (bs more : List X) → a ∷ b ∷ c ∷ d ∷ [] ≡ bs ++ more → bs ≢ [] → more ≢ []
      → ((bs ≡ a ∷ []) ⊎ (bs ≡ a ∷ b ∷ [])) ⊎ (bs ≡ a ∷ b ∷ c ∷ [])
  prefix_of_four a b c d [] more e n m = absurd (n refl)
  prefix_of_four a b c d (x ∷ []) more e n m = inl (inl cc)
  prefix_of_four a b c d (x ∷ y ∷ bs) more e n m =
      let rest : b ∷ c ∷ d ∷ [] ≡ (y ∷ bs) ++ more = cc in
      ⊎_elim (λ h. inl (inr cc)) (λ h. inr cc) (prefix_of_three b c d (y ∷ bs) more rest (λ h. cc) m)

-- the first bytes of a character say that more are wanted
pub wanted : (c : ℕ) (bs more : List ℕ) → IsScalar c → encode c ≡ bs ++ more → bs ≢ [] → more ≢ [] → utf8_error_len bs ≡ None
wanted c bs more s e n m = by_kind (spelled c s)
  where
    by_kind : Spelled c → utf8_error_len bs ≡ None
    by_kind (in_one l h) = absurd (prefix_of_one c bs more (sym h ∙ e) n m)
    by_kind (in_two g l h) =
        let is = prefix_of_two _ _ bs more (sym h ∙ e) n m in
        rw is (lead_wants (192 + c / 64) (omega arith) (omega arith))
    by_kind (in_three g l t h) = ⊎_elim
        (λ is. rw is (lead_wants (224 + c / 4096) (omega arith) (omega arith)))
        (λ is. rw is (pair_wants (224 + c / 4096) _ (omega arith) (omega arith) (second_in_three c g l t)))
        (prefix_of_three _ _ _ bs more (sym h ∙ e) n m)
    by_kind (in_four g l h) = ⊎_elim
        (⊎_elim
        (λ is. rw is (lead_wants (240 + c / 262144) (omega arith) (omega arith)))
        (λ is. rw is (pair_wants (240 + c / 262144) _ (omega arith) (omega arith) (second_in_four c g l))))
        (λ is. rw is (triple_wants (240 + c / 262144) _ (128 + (c / 64) % 64) (omega arith) (omega arith) (second_in_four c g l) (omega arith) (omega arith)))
        (prefix_of_four _ _ _ _ bs more (sym h ∙ e) n m)

chosen : (b : Bool) (n : ℕ) (rest : Option ℕ) → cond b rest (Some n) ≡ None → (b ≡ true) × (rest ≡ None)
chosen true n rest h = (refl, h)
chosen false n rest h = cc

bounds : (lo hi x : ℕ) → is_in_range lo hi x ≡ true → (lo ≤ x) × (x ≤ hi)
bounds lo hi x h = (grind (arith, nat_tests), grind (arith, nat_tests))

-- the bounds of a second byte in the table
second_bounds : (x y : ℕ) → is_in_range (second_byte_min x) (second_byte_max x) y ≡ true
    → (x ≡ 0xE0 → 0xA0 ≤ y) × (x ≡ 0xED → y ≤ 0x9F) × (x ≡ 0xF0 → 0x90 ≤ y) × (x ≡ 0xF4 → y ≤ 0x8F) × (0x80 ≤ y) × (y ≤ 0xBF)
second_bounds x y h = (λ e. grind (arith, nat_tests), λ e. grind (arith, nat_tests), λ e. grind (arith, nat_tests), λ e. grind (arith, nat_tests), grind (arith, nat_tests), grind (arith, nat_tests))

pub scalar_high : (c : ℕ) → 57344 ≤ c → c < 1114112 → IsScalar c
scalar_high c l h = grind (arith, nat_tests)

pub two_bytes : (x y : ℕ) → 194 ≤ x → x < 224 → 0x80 ≤ y → y ≤ 0xBF → (c : ℕ) × IsScalar c × (encode c ≡ x ∷ y ∷ [])
two_bytes x y l h m n =
    let c = (x - 192) * 64 + (y - 128) in
    let p : 192 + c / 64 ≡ x = omega arith in
    let q : next c ≡ y = omega arith in
    (c, low_scalar c (omega arith), two c (omega arith) (omega arith) ∙ (λ k. p k ∷ q k ∷ []))

pub three_bytes : (x y z : ℕ) → 224 ≤ x → x < 240 → (x ≡ 0xE0 → 0xA0 ≤ y) → (x ≡ 0xED → y ≤ 0x9F) → 0x80 ≤ y → y ≤ 0xBF → 0x80 ≤ z → z ≤ 0xBF
    → (c : ℕ) × IsScalar c × (encode c ≡ x ∷ y ∷ z ∷ [])
three_bytes x y z l h e0 ed m n m' n' =
    let c = (x - 224) * 4096 + (y - 128) * 64 + (z - 128) in
    let p : 224 + c / 4096 ≡ x = omega arith in
    let q : next (c / 64) ≡ y = omega arith in
    let r : next c ≡ z = omega arith in
    let s : IsScalar c = ⊎_elim (λ u. low_scalar c (omega arith)) (λ u. ⊎_elim (λ v. let top : y ≤ 0x9F = ed (omega arith) in low_scalar c (omega arith)) (λ v. scalar_high c (omega arith) (omega arith)) (order x 238)) (order x 237) in
    let least : 2048 ≤ c = ⊎_elim (λ u. let low : 0xA0 ≤ y = e0 (omega arith) in omega arith) (λ u. omega arith) (order x 225) in
    (c, s, three c least (omega arith) ∙ (λ k. p k ∷ q k ∷ r k ∷ []))

pub four_bytes : (x y z w : ℕ) → 240 ≤ x → x ≤ 244 → (x ≡ 0xF0 → 0x90 ≤ y) → (x ≡ 0xF4 → y ≤ 0x8F) → 0x80 ≤ y → y ≤ 0xBF → 0x80 ≤ z → z ≤ 0xBF → 0x80 ≤ w → w ≤ 0xBF
    → (c : ℕ) × IsScalar c × (encode c ≡ x ∷ y ∷ z ∷ w ∷ [])
four_bytes x y z w l h f0 f4 m n m' n' m'' n'' =
    let c = (x - 240) * 262144 + (y - 128) * 4096 + (z - 128) * 64 + (w - 128) in
    let p : 240 + c / 262144 ≡ x = omega arith in
    let q : next (c / 4096) ≡ y = omega arith in
    let e : c / 64 ≡ (x - 240) * 4096 + (y - 128) * 64 + (z - 128) = omega arith in
    let r : next (c / 64) ≡ z = subst (λ (i : ℕ). next i ≡ z) (sym e) (omega arith) in
    let t : next c ≡ w = omega arith in
    let least : 65536 ≤ c = ⊎_elim (λ u. let low : 0x90 ≤ y = f0 (omega arith) in omega arith) (λ u. omega arith) (order x 241) in
    let most : c < 1114112 = ⊎_elim (λ u. omega arith) (λ u. let top : y ≤ 0x8F = f4 (omega arith) in omega arith) (order x 244) in
    (c, scalar_high c (omega arith) most, four c least ∙ (λ k. p k ∷ q k ∷ r k ∷ t k ∷ []))

-- bytes of which more are wanted, and that are no text, begin a character
pub is_text : (c : ℕ) (bs : List ℕ) → IsScalar c → encode c ≡ bs → is_utf8 bs ≡ true
is_text c bs s e = is_utf8-from_IsUtf8 bs (c ∷ [], (rw s refl, rw e (append_nil bs)))

pub begins_one : (x : ℕ) → utf8_error_len (x ∷ []) ≡ None → IsBegun (x ∷ [])
unfolding utf8_error_len
begins_one x e =
    let lead = bounds 194 244 x (chosen (is_in_range 194 244 x) 1 None e).0 in
    ⊎_elim (λ u. let t = two_bytes x 0x80 lead.0 u (omega arith) (omega arith) in (t.0, 0x80 ∷ [], t.1, t.2, λ h. cc, λ h. cc))
    (λ u. ⊎_elim
    (λ v. let y : ℕ = second_byte_min x in
    let b = second_bounds x y (grind (arith, nat_tests)) in
    let t = three_bytes x y 0x80 u v b.0 b.1 b.4 b.5 (omega arith) (omega arith) in (t.0, y ∷ 0x80 ∷ [], t.1, t.2, λ h. cc, λ h. cc))
    (λ v. let y : ℕ = second_byte_min x in
    let b = second_bounds x y (grind (arith, nat_tests)) in
    let t = four_bytes x y 0x80 0x80 v lead.1 b.2 b.3 b.4 b.5 (omega arith) (omega arith) (omega arith) (omega arith) in (t.0, y ∷ 0x80 ∷ 0x80 ∷ [], t.1, t.2, λ h. cc, λ h. cc))
    (order x 240))
    (order x 224)

pub begins_two : (x y : ℕ) → utf8_error_len (x ∷ y ∷ []) ≡ None → is_utf8 (x ∷ y ∷ []) ≡ false → IsBegun (x ∷ y ∷ [])
unfolding utf8_error_len
begins_two x y e f =
    let c1 = chosen (is_in_range 194 244 x) 1 _ e in
    let lead = bounds 194 244 x c1.0 in
    let b = second_bounds x y (chosen _ 1 _ c1.1).0 in
    ⊎_elim (λ u. let t = two_bytes x y lead.0 u b.4 b.5 in let h = is_text _ _ t.1 t.2 in cc)
    (λ u. ⊎_elim
    (λ v. let t = three_bytes x y 0x80 u v b.0 b.1 b.4 b.5 (omega arith) (omega arith) in (t.0, 0x80 ∷ [], t.1, t.2, λ h. cc, λ h. cc))
    (λ v. let t = four_bytes x y 0x80 0x80 v lead.1 b.2 b.3 b.4 b.5 (omega arith) (omega arith) (omega arith) (omega arith) in (t.0, 0x80 ∷ 0x80 ∷ [], t.1, t.2, λ h. cc, λ h. cc))
    (order x 240))
    (order x 224)

pub begins_three : (x y z : ℕ) → utf8_error_len (x ∷ y ∷ z ∷ []) ≡ None → is_utf8 (x ∷ y ∷ z ∷ []) ≡ false → is_utf8 (x ∷ y ∷ []) ≡ false → IsBegun (x ∷ y ∷ z ∷ [])
unfolding utf8_error_len
begins_three x y z e f g =
    let c1 = chosen (is_in_range 194 244 x) 1 _ e in
    let lead = bounds 194 244 x c1.0 in
    let c2 = chosen (is_in_range (second_byte_min x) (second_byte_max x) y) 1 _ c1.1 in
    let b = second_bounds x y c2.0 in
    let d = bounds 0x80 0xBF z (chosen (is_in_range 0x80 0xBF z) 2 _ c2.1).0 in
    ⊎_elim (λ u. let t = two_bytes x y lead.0 u b.4 b.5 in let h = is_text _ _ t.1 t.2 in cc)
    (λ u. ⊎_elim
    (λ v. let t = three_bytes x y z u v b.0 b.1 b.4 b.5 d.0 d.1 in let h = is_text _ _ t.1 t.2 in cc)
    (λ v. let t = four_bytes x y z 0x80 v lead.1 b.2 b.3 b.4 b.5 d.0 d.1 (omega arith) (omega arith) in (t.0, 0x80 ∷ [], t.1, t.2, λ h. cc, λ h. cc))
    (order x 240))
    (order x 224)

-- four bytes never want another
pub no_fifth : (x y z w : ℕ) → utf8_error_len (x ∷ y ∷ z ∷ w ∷ []) ≡ None → ⊥
unfolding utf8_error_len
no_fifth x y z w e =
    let c1 = chosen (is_in_range 194 244 x) 1 _ e in
    let c2 = chosen (is_in_range (second_byte_min x) (second_byte_max x) y) 1 _ c1.1 in
    let c3 = chosen (is_in_range 0x80 0xBF z) 2 _ c2.1 in cc

-- ---- lists

-- the last byte of two joined lists is in the second one, or this one is empty
pub last_falls : (e r t : List ℕ) (b : ℕ) → e ++ r ≡ t ++ b ∷ [] → ((r ≡ []) × (e ≡ t ++ b ∷ [])) ⊎ ((rest : List ℕ) × (t ≡ e ++ rest))
last_falls [] r t b h = inr (t, refl)
last_falls (x ∷ e) r [] b h = last e r (let k : e ++ r ≡ [] = cc in k) (let k : x ≡ b = cc in k)
  where
    last : (e r : List ℕ) → e ++ r ≡ [] → x ≡ b → ((r ≡ []) × (x ∷ e ≡ b ∷ [])) ⊎ ((rest : List ℕ) × ([] ≡ x ∷ e ++ rest))
    last [] r h k = inl (h, (λ i. k i ∷ []))
    last (y ∷ e) r h k = cc
last_falls (x ∷ e) r (y ∷ t) b h =
    ⊎_elim (λ k. let f = k.1 in inl (k.0, cc)) (λ k. let f = k.1 in inr (k.0, cc)) (last_falls e r t b (let k : e ++ r ≡ t ++ b ∷ [] = cc in k))

-- a whole character is no proper prefix of another
pub not_shorter : (c d : ℕ) (rest more : List ℕ) → encode d ≡ (encode c ++ rest) ++ more → more ≢ [] → ⊥
not_shorter c d rest more e n = n (nothing rest more (let h = encode_same d c [] (rest ++ more) (append_nil (encode d) ∙ e ∙ append_assoc (encode c) rest more) in sym h.1))
  where
    nothing : (xs ys : List ℕ) → xs ++ ys ≡ [] → ys ≡ []
    nothing [] ys h = h
    nothing (x ∷ xs) ys h = cc
