-- Bytes that are counted sixteen bytes at a time.
use Rattle.std.proofs.Common.{◌≡◌, ℕ, zero, suc, ◌+◌, ◌-◌, ◌%◌, ◌^◌, ◌<◌, ◌≤◌, Bool, true, false, not, List, [], ◌∷◌, map, take, drop, length, length-drop, get_or, replicate, Fits, w8, refl, sym, ap, ap₂, ◌∙◌, arith, inl, inr}
use Rattle.std.specs.List.{list_all, prefix_len}
use Rattle.std.specs.Prelude.{◌==◌, ◌&&◌}
use Rattle.std.proofs.lemmas.List.{take_all}
use Rattle.std.proofs.lemmas.Bool.{agree_below, agree_below_at, cases_eq, eq-eqb, ne_eqb, cond-true, cond-false}
use Rattle.std.proofs.lemmas.Simd.{map-map, mask_l-mod, leading_from_mask_l, trailing_mask_l}
use Rattle.std.proofs.lemmas.List.{length-map}
use lib.Lanes.{zip2, mask_l, top}
use Rattle.text_clusters.specs.Lanes.{first_set}

zip2-map : (h : ℕ → ℕ → ℕ) (f g : ℕ → ℕ) (xs : List ℕ) → zip2 h (map f xs) (map g xs) ≡ map (λ x. h (f x) (g x)) xs
zip2-map h f g [] = refl
zip2-map h f g (x ∷ xs) = ap (λ r. h (f x) (g x) ∷ r) (zip2-map h f g xs)

-- an operation on two vectors that were computed lane by lane from v
pub joined : (h : ℕ → ℕ → ℕ) (f g : ℕ → ℕ) (v : List ℕ) {a b : List ℕ} → a ≡ map f v → b ≡ map g v → zip2 h a b ≡ map (λ x. h (f x) (g x)) v
joined h f g v p q = ap₂ (zip2 h) p q ∙ zip2-map h f g v

pub splat_is : (v : List ℕ) (n y : ℕ) → length v ≡ n → replicate n y ≡ map (λ _. y) v
splat_is [] n y e = ap (λ k. replicate k y) (sym e)
splat_is (x ∷ xs) n y e = ap (λ k. replicate k y) (sym e) ∙ ap (λ r. y ∷ r) (splat_is xs (length xs) y refl)

pub itself : (v : List ℕ) → v ≡ map (λ x. x) v
itself [] = refl
itself (x ∷ xs) = ap (λ r. x ∷ r) (itself xs)

run_is : (p : ℕ → Bool) (v : List ℕ) (n : ℕ) → length v ≡ n → n ≤ 64 → first_set (mask_l (map p v)) n ≡ prefix_len (λ x. not (p x)) v
run_is p v n long short =
    elim (cases_eq (mask_l (map p v)) 0) [
      | inl none ↦ cond-true _ _ _ (eq-eqb _ _ none) ∙ sym (leading_from_mask_l p v none ∙ long)
      | inr some ↦ cond-false _ _ _ (ne_eqb _ _ some) ∙ trailing_mask_l p 64 v (omega arith) (omega arith)
    ]

-- tests that agree on bytes count alike
same_len : (p q : ℕ → Bool) (v : List ℕ) → ((k : ℕ) → Fits w8 (get_or v k 0)) → agree_below p q 256 ≡ true → prefix_len p v ≡ prefix_len q v
same_len p q [] fits all = refl
same_len p q (x ∷ v) fits all = by_test (q x) refl (agree_below_at p q 256 x all (fits 0).fits) (same_len p q v (λ k. fits (suc k)) all)
  where
    by_test : (t : Bool) → q x ≡ t → p x ≡ q x → prefix_len p v ≡ prefix_len q v → prefix_len p (x ∷ v) ≡ prefix_len q (x ∷ v)
    by_test true e h k = rw (h ∙ e, e) (ap (λ n. 1 + n) k)
    by_test false e h k = rw (h ∙ e, e) refl

module _ (q : ℕ → Bool) (v z : List ℕ) (n r : ℕ) (long : length v ≡ n) (short : n ≤ 64) (fits : (k : ℕ) → Fits w8 (get_or v k 0))
    (found : r ≡ first_set (mask_l (map (top 7) z) % 2 ^ 64) n) (f : ℕ → ℕ) (lanes : z ≡ map f v) where
  abbrev stops : ℕ → Bool
  stops x = top 7 (f x)

  counted : r ≡ prefix_len (λ x. not (stops x)) v
  counted =
      let mask = ap (λ l. mask_l l % 2 ^ 64) (ap (map (top 7)) lanes ∙ map-map (top 7) f v) ∙ mask_l-mod (map stops v) 64 (omega (arith, length-map v stops, long)) in
      found ∙ ap (λ m. first_set m n) mask ∙ run_is stops v n long short

  pub run_len : agree_below (λ x. not (stops x)) q 256 ≡ true → r ≡ prefix_len q v
  run_len all = counted ∙ same_len (λ x. not (stops x)) q v fits all

-- ---- one block after another

prefix_cons : (p : ℕ → Bool) (x : ℕ) (xs : List ℕ) → p x ≡ true → prefix_len p (x ∷ xs) ≡ 1 + prefix_len p xs
prefix_cons p x xs h = rw h refl

prefix_stop : (p : ℕ → Bool) (x : ℕ) (xs : List ℕ) → p x ≡ false → prefix_len p (x ∷ xs) ≡ 0
prefix_stop p x xs h = rw h refl

pub block_stops : (p : ℕ → Bool) (n : ℕ) (xs : List ℕ) → prefix_len p (take n xs) < n → n ≤ length xs → prefix_len p xs ≡ prefix_len p (take n xs)
block_stops p zero xs h l = absurd (omega arith)
block_stops p (suc n) [] h l = absurd (omega arith)
block_stops p (suc n) (x ∷ xs) h l = by_test (p x) refl (λ k. block_stops p n xs k (omega arith))
  where
    by_test : (t : Bool) → p x ≡ t → (prefix_len p (take n xs) < n → prefix_len p xs ≡ prefix_len p (take n xs)) → prefix_len p (x ∷ xs) ≡ prefix_len p (take (suc n) (x ∷ xs))
    by_test true e k =
        let a = prefix_cons p x xs e in
        let b = prefix_cons p x (take n xs) e in
        let c : prefix_len p xs ≡ prefix_len p (take n xs) = k (omega arith) in omega arith
    by_test false e k = prefix_stop p x xs e ∙ sym (prefix_stop p x (take n xs) e)

pub block_goes : (p : ℕ → Bool) (n : ℕ) (xs : List ℕ) → n ≤ prefix_len p (take n xs) → prefix_len p xs ≡ n + prefix_len p (drop n xs)
block_goes p zero xs h = omega arith
block_goes p (suc n) [] h = absurd (omega arith)
block_goes p (suc n) (x ∷ xs) h = by_test (p x) refl (λ k. block_goes p n xs k)
  where
    by_test : (t : Bool) → p x ≡ t → (n ≤ prefix_len p (take n xs) → prefix_len p xs ≡ n + prefix_len p (drop n xs)) → prefix_len p (x ∷ xs) ≡ suc n + prefix_len p (drop (suc n) (x ∷ xs))
    by_test true e k =
        let a = prefix_cons p x xs e in
        let b = prefix_cons p x (take n xs) e in
        let c : prefix_len p xs ≡ n + prefix_len p (drop n xs) = k (omega arith) in omega arith
    by_test false e k = let b = prefix_stop p x (take n xs) e in absurd (omega arith)

pub take_fits : (n : ℕ) (xs : List ℕ) → ((k : ℕ) → Fits w8 (get_or xs k 0)) → (k : ℕ) → Fits w8 (get_or (take n xs) k 0)
take_fits zero xs f k = record { fits = omega arith }
take_fits (suc n) [] f k = record { fits = omega arith }
take_fits (suc n) (x ∷ xs) f zero = f zero
take_fits (suc n) (x ∷ xs) f (suc k) = take_fits n xs (λ j. f (suc j)) k

pub prefix_taken : (p : ℕ → Bool) (n : ℕ) (xs : List ℕ) → prefix_len p (take n xs) ≤ prefix_len p xs
prefix_taken p zero xs = omega arith
prefix_taken p (suc n) [] = omega arith
prefix_taken p (suc n) (x ∷ xs) = by_test (p x) refl (prefix_taken p n xs)
  where
    by_test : (t : Bool) → p x ≡ t → prefix_len p (take n xs) ≤ prefix_len p xs → prefix_len p (take (suc n) (x ∷ xs)) ≤ prefix_len p (x ∷ xs)
    by_test true e h = let a = prefix_cons p x xs e in let b = prefix_cons p x (take n xs) e in omega arith
    by_test false e h = let b = prefix_stop p x (take n xs) e in omega arith

-- the prefix that passes `q` is the prefix that passes `p`, and then the prefix of the rest that passes `q`, where `p` implies `q`
pub passed : (p q : ℕ → Bool) → ((x : ℕ) → p x ≡ true → q x ≡ true) → (xs : List ℕ) → prefix_len q xs ≡ prefix_len p xs + prefix_len q (drop (prefix_len p xs) xs)
passed p q h [] = refl
passed p q h (x ∷ xs) = by_test (p x) refl (passed p q h xs)
  where
    by_test : (t : Bool) → p x ≡ t → prefix_len q xs ≡ prefix_len p xs + prefix_len q (drop (prefix_len p xs) xs) → prefix_len q (x ∷ xs) ≡ prefix_len p (x ∷ xs) + prefix_len q (drop (prefix_len p (x ∷ xs)) (x ∷ xs))
    by_test true e k =
        let a = prefix_cons p x xs e in
        let b = prefix_cons q x xs (h x e) in
        let on : prefix_len p (x ∷ xs) ≡ suc (prefix_len p xs) = omega arith in
        let c = ap (λ n. prefix_len q (drop n (x ∷ xs))) on in
        omega (arith, a, b, c, k)
    by_test false e k =
        let a = prefix_stop p x xs e in
        let c = ap (λ n. prefix_len q (drop n (x ∷ xs))) a in
        omega (arith, a, c)

-- where the first n items pass, only the rest need be tested
pub prefix_passes : (p : ℕ → Bool) (n : ℕ) (xs : List ℕ) → n ≤ prefix_len p xs → prefix_len p xs ≡ n + prefix_len p (drop n xs)
prefix_passes p zero xs h = omega arith
prefix_passes p (suc n) [] h = absurd (omega arith)
prefix_passes p (suc n) (x ∷ xs) h = by_test (p x) refl h (λ k. prefix_passes p n xs k)
  where
    by_test : (t : Bool) → p x ≡ t → suc n ≤ prefix_len p (x ∷ xs) → (n ≤ prefix_len p xs → prefix_len p xs ≡ n + prefix_len p (drop n xs)) → prefix_len p (x ∷ xs) ≡ suc n + prefix_len p (drop (suc n) (x ∷ xs))
    by_test true e h k =
        let a = prefix_cons p x xs e in
        let b : prefix_len p xs ≡ n + prefix_len p (drop n xs) = k (omega (arith, a, h)) in
        omega (arith, a, b)
    by_test false e h k = let a = prefix_stop p x xs e in absurd (omega (arith, a, h))

-- where all bytes before the last n pass, only the last n need be tested
pub last_block : (p : ℕ → Bool) (n last : ℕ) (xs block : List ℕ) → n ≤ length xs → last ≡ length xs - n → block ≡ drop last xs → last ≤ prefix_len p xs
    → prefix_len p xs ≡ last + prefix_len p (take n block)
last_block p n last xs block h l b k =
    let long : length block ≡ n = ap length b ∙ length-drop last xs ∙ omega (arith, h, l) in
    prefix_passes p last xs k ∙ ap (λ ys. last + prefix_len p ys) (sym b ∙ sym (take_all n block (omega (arith, long))))

-- numbers are equal where those before them are
equal_before : (n m : ℕ) → (1 + n == suc m) ≡ (n == m)
equal_before n m =
    elim (cases_eq n m) [
      | inl same ↦ eq-eqb _ _ (omega (arith, same)) ∙ sym (eq-eqb _ _ same)
      | inr other ↦ ne_eqb _ _ (λ same. other (omega (arith, same))) ∙ sym (ne_eqb _ _ other)
    ]

-- all pass where as many do as there are
pub all_by_len : (p : ℕ → Bool) (xs : List ℕ) → (prefix_len p xs == length xs) ≡ list_all p xs
all_by_len p [] = refl
all_by_len p (x ∷ xs) = by_test (p x) refl (all_by_len p xs)
  where
    by_test : (t : Bool) → p x ≡ t → (prefix_len p xs == length xs) ≡ list_all p xs → (prefix_len p (x ∷ xs) == length (x ∷ xs)) ≡ list_all p (x ∷ xs)
    by_test true e k = rw e (equal_before (prefix_len p xs) (length xs) ∙ k)
    by_test false e k = rw e (ne_eqb _ _ (λ same. omega (arith, same)))

-- all bytes pass exactly where the first n and the last n do, which together cover the whole list
pub both_blocks : (p : ℕ → Bool) (n : ℕ) (xs block : List ℕ) → n ≤ length xs → length xs ≤ n + n → block ≡ drop (length xs - n) xs
    → (prefix_len p (take n xs) == n && prefix_len p (take n block) == n) ≡ list_all p xs
both_blocks p n xs block h l b =
    elim (cases_eq (prefix_len p (take n xs)) n) [
      | inl same ↦
          let first = block_goes p n xs (omega (arith, same)) in
          let whole = last_block p n (length xs - n) xs block h refl b (omega (arith, first, l)) in
          rw (eq-eqb _ _ same) (moved (prefix_len p (take n block)) n (prefix_len p xs) (length xs) (length xs - n) (omega (arith, h)) whole ∙ all_by_len p xs)
      | inr other ↦
          let short = prefix_short p n xs in
          let less : prefix_len p (take n xs) < n = omega (arith, short, other) in
          let stops = block_stops p n xs less h in
          rw (ne_eqb _ _ other) (sym (ne_eqb _ _ (λ same. omega (arith, same, stops, less, h))) ∙ all_by_len p xs)
    ]
  where
    -- of numbers with as many before each
    moved : (a n b m k : ℕ) → m ≡ k + n → b ≡ k + a → (a == n) ≡ (b == m)
    moved a n b m k e f =
        elim (cases_eq a n) [
          | inl same ↦ eq-eqb _ _ same ∙ sym (eq-eqb _ _ (omega (arith, e, f, same)))
          | inr other ↦ ne_eqb _ _ other ∙ sym (ne_eqb _ _ (λ same. other (omega (arith, e, f, same))))
        ]

    prefix_short : (p : ℕ → Bool) (n : ℕ) (xs : List ℕ) → prefix_len p (take n xs) ≤ n
    prefix_short p zero xs = omega arith
    prefix_short p (suc n) [] = omega arith
    prefix_short p (suc n) (x ∷ xs) = by_test (p x) refl (prefix_short p n xs)
      where
        by_test : (t : Bool) → p x ≡ t → prefix_len p (take n xs) ≤ n → prefix_len p (take (suc n) (x ∷ xs)) ≤ suc n
        by_test true e h = let b = prefix_cons p x (take n xs) e in omega arith
        by_test false e h = let b = prefix_stop p x (take n xs) e in omega arith
