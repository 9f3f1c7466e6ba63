-- The changes that are due after one more change, after a resize, and after changes are forgotten.
use Rattle.std.proofs.Common.{◌≡◌, ℕ, suc, ◌+◌, ◌-◌, ◌≤◌, true, false, List, [], ◌∷◌, ◌++◌, length, drop, refl, sym, ap, ◌∙◌, arith, inl, inr, length-append, length-drop}
use Rattle.std.specs.Prelude.{◌==◌, nat_lt, Option, Some, None, if◌then◌else◌}
use Rattle.std.specs.Option.{option_map}
use Rattle.std.proofs.lemmas.Bool.Decides.{leb_tells, nat_tests}
use Rattle.std.proofs.lemmas.List.{drop-drop, drop-append-le, drop_all}
use Rattle.screen_change.specs.ChangeValue.{ChangeValue}
use Rattle.screen_log.specs.Log.{Log, first_number, forgotten, kept, logged, resized_log, due, due_after}
use Rattle.screen_log.specs.LogSteps.{Sized, Resized, step_of_kept}
use Rattle.screen_log.proofs.LogLemmas.{due_is, due_of, early, many, zero}
use Rattle.screen_log.proofs.StoredLemmas.{due_here, forgotten_here}

-- ---- where nothing is due

none_zero : (most : ℕ) (log : Log) (number : ℕ) → (number == 0) ≡ true → due most log number ≡ None
none_zero most log number e =
    due_is most log number
    ∙ ap (λ b. due_of b (nat_lt number (first_number log)) (nat_lt log.number number) (nat_lt most (log.number - number)) (drop (number - first_number log) log.entries)) e
    ∙ zero (nat_lt number (first_number log)) (nat_lt log.number number) (nat_lt most (log.number - number)) (drop (number - first_number log) log.entries)

none_early : (most : ℕ) (log : Log) (number : ℕ) → nat_lt number (first_number log) ≡ true → due most log number ≡ None
none_early most log number e =
    due_is most log number
    ∙ ap (λ b. due_of (number == 0) b (nat_lt log.number number) (nat_lt most (log.number - number)) (drop (number - first_number log) log.entries)) e
    ∙ early (number == 0) (nat_lt log.number number) (nat_lt most (log.number - number)) (drop (number - first_number log) log.entries)

none_many : (most : ℕ) (log : Log) (number : ℕ) → nat_lt most (log.number - number) ≡ true → due most log number ≡ None
none_many most log number e =
    due_is most log number
    ∙ ap (λ b. due_of (number == 0) (nat_lt number (first_number log)) (nat_lt log.number number) b (drop (number - first_number log) log.entries)) e
    ∙ many (number == 0) (nat_lt number (first_number log)) (nat_lt log.number number) (drop (number - first_number log) log.entries)

-- ---- one change more

first_later : (most : ℕ) (log : Log) (change : ChangeValue) → length log.entries ≤ log.number → first_number (kept most (logged change log)) ≡ first_number log + (length (log.entries ++ change ∷ []) - most)
first_later most log change h =
    let long = length-append log.entries (change ∷ []) in
    let left = length-drop (length (log.entries ++ change ∷ []) - most) (log.entries ++ change ∷ []) in
    omega arith

with_change : (most : ℕ) (log : Log) (change : ChangeValue) (number : ℕ) → length log.entries ≤ log.number → (number == 0) ≡ false → first_number log ≤ number → number ≤ log.number → log.number + 1 ≤ most + number
    → due most (kept most (logged change log)) number ≡ Some (drop (number - first_number log) log.entries ++ change ∷ [])
with_change most log change number h z f s m =
    let all = log.entries ++ change ∷ [] in
    let dropped = length all - most in
    let later = kept most (logged change log) in
    let first = first_later most log change h in
    let long = length-append log.entries (change ∷ []) in
    let position : dropped + (number - first_number later) ≡ number - first_number log = omega arith in
    due_here most later number z (omega arith) (omega arith) (omega arith)
    ∙ ap (λ (cs : List ChangeValue). Some cs) (drop-drop (number - first_number later) dropped all ∙ ap (λ n. drop n all) position ∙ drop-append-le (number - first_number log) log.entries (change ∷ []) (omega arith))

pub due_later : (most : ℕ) (log : Log) (change : ChangeValue) (number : ℕ) → length log.entries ≤ log.number → number ≤ log.number → due most (kept most (logged change log)) number ≡ due_after most log change number
due_later most log change number h s =
    elim (leb_tells (suc most) (log.number + 1 - number)) [
      | inl p ↦ none_many most later number p.0 ∙ sym (ap (λ b. if b then None else put (due most log number)) p.0)
      | inr p ↦ let fits = p.1 in by_zero (omega arith) ∙ sym (ap (λ b. if b then None else put (due most log number)) p.0)
    ]
  where
    later : Log
    later = kept most (logged change log)

    put : Option (List ChangeValue) → Option (List ChangeValue)
    put = option_map (λ (cs : List ChangeValue). cs ++ change ∷ [])

    by_first : (number == 0) ≡ false → log.number + 1 ≤ most + number → due most later number ≡ put (due most log number)
    by_first z m = elim (leb_tells (suc number) (first_number log)) [
      | inl p ↦ let before = p.1 in
          let first = first_later most log change h in
          let still : nat_lt number (first_number later) ≡ true = grind (arith, nat_tests) in
          none_early most later number still ∙ sym (ap put (none_early most log number p.0))
      | inr p ↦ let after = p.1 in
          with_change most log change number h z (omega arith) s m ∙ sym (ap put (due_here most log number z (omega arith) s (omega arith)))
    ]

    by_zero : log.number + 1 ≤ most + number → due most later number ≡ put (due most log number)
    by_zero m = elim (leb_tells 1 number) [
      | inl p ↦ let some = p.1 in by_first (grind (arith, nat_tests)) m
      | inr p ↦ let none = p.1 in
          let z : (number == 0) ≡ true = grind (arith, nat_tests) in
          none_zero most later number z ∙ sym (ap put (none_zero most log number z))
    ]

pub nothing_newer : (most : ℕ) (log : Log) (change : ChangeValue) → length log.entries ≤ log.number → due most (kept most (logged change log)) (log.number + 1) ≡ Some []
nothing_newer most log change h =
    let later = kept most (logged change log) in
    let first = first_later most log change h in
    let long = length-append log.entries (change ∷ []) in
    let left = length-drop (length (log.entries ++ change ∷ []) - most) (log.entries ++ change ∷ []) in
    due_here most later (log.number + 1) (grind (arith, nat_tests)) (omega arith) (omega arith) (omega arith)
    ∙ ap (λ (cs : List ChangeValue). Some cs) (drop_all (log.number + 1 - first_number later) later.entries (omega arith))

-- ---- another size

resized_some : (n : ℕ) (xs : List ChangeValue) → (xs ≡ [] → ⊥) → resized_log (record { number = n; entries = xs }) ≡ record { number = n + 1; entries = [] }
resized_some n [] h = absurd (h refl)
resized_some n (x ∷ xs) h = refl

resized_none : (n : ℕ) (xs : List ChangeValue) → xs ≡ [] → resized_log (record { number = n; entries = xs }) ≡ record { number = n; entries = xs }
resized_none n [] h = refl
resized_none n (x ∷ xs) h = cc

pub counts_one : (s : Sized) (most : ℕ) → (s.log.entries ≡ [] → ⊥) → step_of_kept s (Resized most) ≡ record { most = most; log = record { number = s.log.number + 1; entries = [] } }
counts_one s most h = ap (λ (l : Log). record { most = most; log = l }) (resized_some s.log.number s.log.entries h)

pub counts_none : (s : Sized) (most : ℕ) → s.log.entries ≡ [] → step_of_kept s (Resized most) ≡ record s { most = most }
counts_none s most h = ap (λ (l : Log). record { most = most; log = l }) (resized_none s.log.number s.log.entries h)

-- ---- changes that are forgotten

due_cut : (most : ℕ) (log : Log) (before number : ℕ) → length log.entries ≤ log.number → before ≤ number → before ≤ log.number
    → due most (record log { entries = drop (before - first_number log) log.entries }) number ≡ due most log number
due_cut most log before number h m n =
    let dropped = before - first_number log in
    let cut : Log = record log { entries = drop dropped log.entries } in
    let left = length-drop dropped log.entries in
    let test : nat_lt number (first_number cut) ≡ nat_lt number (first_number log) = elim (leb_tells (suc number) (first_number log)) [
      | inl p ↦ (let early = p.1 in let same : first_number cut ≡ first_number log = omega arith in ap (λ k. nat_lt number k) same)
      | inr p ↦ (let late = p.1 in let still : nat_lt number (first_number cut) ≡ false = grind (arith, nat_tests) in still ∙ sym p.0)
    ] in
    let position : dropped + (number - first_number cut) ≡ number - first_number log = omega arith in
    due_is most cut number
    ∙ (λ i. due_of (number == 0) (test i) (nat_lt log.number number) (nat_lt most (log.number - number)) ((drop-drop (number - first_number cut) dropped log.entries ∙ ap (λ k. drop k log.entries) position) i))
    ∙ sym (due_is most log number)

pub due_forgotten : (most : ℕ) (log : Log) (before number : ℕ) → length log.entries ≤ log.number → before ≤ number → due most (forgotten before log) number ≡ due most log number
due_forgotten most log before number h m = elim (leb_tells (suc log.number) before) [
  | inl p ↦ ap (λ b. due most (if b then log else record log { entries = drop (before - first_number log) log.entries }) number) p.0
  | inr p ↦ (let lt = p.1 in let le : before ≤ log.number = omega arith in ap (λ (l : Log). due most l number) (forgotten_here log before le) ∙ due_cut most log before number h m le)
]
