-- A log that keeps its last entries, beside one that keeps all.
use Rattle.std.proofs.Common.{◌≡◌, ℕ, suc, ◌+◌, ◌-◌, ◌<◌, ◌≤◌, Bool, true, false, List, [], ◌∷◌, ◌++◌, length, drop, fold, refl, sym, ap, subst, ◌∙◌, arith, inl, inr, ◌⊎◌, length-append, length-drop}
use Rattle.std.specs.Prelude.{◌||◌, ◌==◌, nat_lt, Option, Some, None, if◌then◌else◌}
use Rattle.std.proofs.lemmas.Bool.{lt-ltb}
use Rattle.std.proofs.lemmas.Bool.Decides.{leb_tells}
use Rattle.std.proofs.lemmas.List.{drop-drop, drop-append-le}
use Rattle.screen_change.specs.ChangeValue.{ChangeValue}
use Rattle.screen_log.specs.Log.{Log, new_log, first_number, logged, kept, forgotten, resized_log, due}
use Rattle.screen_log.specs.LogSteps.{LogStep, Logged, Forgotten, Resized, AreSized, step_of_all, step_of_kept, log_of_all, log_of_kept}

-- the log keeps the last entries of another one; all that may be due, where it lacks some
pub record IsTail (most : ℕ) (log all : Log) : Type 0 where
  pub number : log.number ≡ all.number
  pub counted : length all.entries ≤ all.number
  pub dropped : ℕ
  pub some : dropped ≤ length all.entries
  pub entries : log.entries ≡ drop dropped all.entries
  pub enough : (dropped ≡ 0) ⊎ (most ≤ length log.entries)

tail_length : (most : ℕ) (log all : Log) → (t : IsTail most log all) → length log.entries + t.dropped ≡ length all.entries
tail_length most log all t = let e = ap length t.entries in let d = length-drop t.dropped all.entries in let s = t.some in omega arith

-- ---- one step

logged_tail : (most : ℕ) (log all : Log) (change : ChangeValue) → IsTail most log all → IsTail most (kept most (logged change log)) (logged change all)
logged_tail most log all change t =
    let n = length-append log.entries (change ∷ []) in
    let m = length-append all.entries (change ∷ []) in
    let k = length (log.entries ++ change ∷ []) - most in
    let long = tail_length most log all t in
    let s = t.some in
    let c = t.counted in
    let same : log.entries ++ change ∷ [] ≡ drop t.dropped (all.entries ++ change ∷ []) = ap (λ (xs : List ChangeValue). xs ++ change ∷ []) t.entries ∙ sym (drop-append-le t.dropped all.entries (change ∷ []) s) in
    let left = length-drop k (log.entries ++ change ∷ []) in
    record {
      number = ap (λ n. n + 1) t.number;
      counted = omega arith;
      dropped = t.dropped + k;
      some = omega arith;
      entries = ap (drop k) same ∙ drop-drop k t.dropped (all.entries ++ change ∷ []);
      enough = elim (leb_tells (suc most) (length (log.entries ++ change ∷ []))) [
        | inl p ↦ inr (let more = p.1 in omega arith)
        | inr p ↦ let fits = p.1 in elim t.enough [ inl e ↦ inl (omega arith) | inr h ↦ absurd (omega arith) ]
      ];
    }

forgotten_tail : (most : ℕ) (log all : Log) (number : ℕ) → IsTail most log all → IsTail most (forgotten number log) (forgotten number all)
forgotten_tail most log all number t = by_test (leb_tells (suc all.number) number)
  where
    same_test : nat_lt log.number number ≡ nat_lt all.number number
    same_test = ap (λ n. nat_lt n number) t.number

    stays : nat_lt all.number number ≡ true → IsTail most (forgotten number log) (forgotten number all)
    stays e = subst (λ (l : Log). IsTail most l (forgotten number all)) (sym (ap (λ b. if b then log else record log { entries = drop (number - first_number log) log.entries }) (same_test ∙ e)))
        (subst (IsTail most log) (sym (ap (λ b. if b then all else record all { entries = drop (number - first_number all) all.entries }) e)) t)

    goes : nat_lt all.number number ≡ false → number ≤ all.number → IsTail most (forgotten number log) (forgotten number all)
    goes e h = subst (λ (l : Log). IsTail most l (forgotten number all)) (sym (ap (λ b. if b then log else record log { entries = drop (number - first_number log) log.entries }) (same_test ∙ e)))
        (subst (IsTail most (record log { entries = drop (number - first_number log) log.entries })) (sym (ap (λ b. if b then all else record all { entries = drop (number - first_number all) all.entries }) e)) cut_tail)
      where
        cut_tail : IsTail most (record log { entries = drop (number - first_number log) log.entries }) (record all { entries = drop (number - first_number all) all.entries })
        cut_tail =
            let long = tail_length most log all t in
            let n = t.number in
            let c = t.counted in
            let s = t.some in
            let a = number - first_number all in
            let b = number - first_number log in
            let da = length-drop a all.entries in
            let db = length-drop b log.entries in
            elim (leb_tells a t.dropped) [
              | inl p ↦ let le = p.1 in
                  let zero_is : b ≡ 0 = omega arith in
                  let back : a + (t.dropped - a) ≡ t.dropped = omega arith in
                  let kept_all : drop b log.entries ≡ drop (t.dropped - a) (drop a all.entries) = ap (λ k. drop k log.entries) zero_is ∙ t.entries ∙ ap (λ k. drop k all.entries) (sym back) ∙ sym (drop-drop (t.dropped - a) a all.entries) in
                  record {
                    number = n;
                    counted = omega arith;
                    dropped = t.dropped - a;
                    some = omega arith;
                    entries = kept_all;
                    enough = elim t.enough [ inl e ↦ inl (omega arith) | inr h ↦ inr (omega arith) ];
                  }
              | inr p ↦ let lt = p.1 in
                  let more : t.dropped + b ≡ a = omega arith in
                  record {
                    number = n;
                    counted = omega arith;
                    dropped = 0;
                    some = omega arith;
                    entries = ap (drop b) t.entries ∙ drop-drop b t.dropped all.entries ∙ ap (λ k. drop k all.entries) more;
                    enough = inl refl;
                  }
            ]

    by_test : ((nat_lt all.number number ≡ true) × (suc all.number ≤ number)) ⊎ ((nat_lt all.number number ≡ false) × (number < suc all.number)) → IsTail most (forgotten number log) (forgotten number all)
    by_test x = elim x [ inl p ↦ stays p.0 | inr p ↦ goes p.0 (let h = p.1 in omega arith) ]

resized_lists : (most next n : ℕ) (xs ys : List ChangeValue) → 0 < most → IsTail most (record { number = n; entries = xs }) (record { number = n; entries = ys }) → IsTail next (resized_log (record { number = n; entries = xs })) (resized_log (record { number = n; entries = ys }))
resized_lists most next n [] [] h t = record { number = refl; counted = t.counted; dropped = 0; some = omega arith; entries = refl; enough = inl refl }
resized_lists most next n [] (y ∷ ys) h t =
    let long = tail_length most (record { number = n; entries = [] }) (record { number = n; entries = y ∷ ys }) t in
    elim t.enough [ inl e ↦ absurd (omega arith) | inr k ↦ absurd (omega arith) ]
resized_lists most next n (x ∷ xs) [] h t =
    let long = tail_length most (record { number = n; entries = x ∷ xs }) (record { number = n; entries = [] }) t in absurd (omega arith)
resized_lists most next n (x ∷ xs) (y ∷ ys) h t = record { number = refl; counted = omega arith; dropped = 0; some = omega arith; entries = refl; enough = inl refl }

resized_tail : (most next : ℕ) (log all : Log) → 0 < most → IsTail most log all → IsTail next (resized_log log) (resized_log all)
resized_tail most next log all h t =
    let same : log ≡ record { number = all.number; entries = log.entries } = λ i. record { number = t.number i; entries = log.entries } in
    subst (λ (l : Log). IsTail next (resized_log l) (resized_log all)) (sym same) (resized_lists most next all.number log.entries all.entries h (subst (λ (l : Log). IsTail most l all) same t))

-- ---- all steps

steps_tail : (steps : List LogStep) (most : ℕ) (log all : Log) → 0 < most → AreSized steps → IsTail most log all
    → let s = fold step_of_kept (record { most = most; log = log }) steps in let a = fold step_of_all (record { most = most; log = all }) steps in (s.most ≡ a.most) × IsTail a.most s.log a.log
steps_tail [] most log all h k t = (refl, t)
steps_tail (Logged change ∷ steps) most log all h k t = steps_tail steps most (kept most (logged change log)) (logged change all) h k (logged_tail most log all change t)
steps_tail (Forgotten number ∷ steps) most log all h k t = steps_tail steps most (forgotten number log) (forgotten number all) h k (forgotten_tail most log all number t)
steps_tail (Resized next ∷ steps) most log all h k t = steps_tail steps next (resized_log log) (resized_log all) k.0 k.1 (resized_tail most next log all h t)

new_tail : (most : ℕ) → IsTail most new_log new_log
new_tail most = record { number = refl; counted = omega arith; dropped = 0; some = omega arith; entries = refl; enough = inl refl }

-- ---- the changes that are due

pub due_of : Bool → Bool → Bool → Bool → List ChangeValue → Option (List ChangeValue)
due_of a b c d changes = if a || b || c || d then None else Some changes

pub zero : (b c d : Bool) (changes : List ChangeValue) → due_of true b c d changes ≡ None
unfolding due_of
zero b c d changes = refl

pub early : (a c d : Bool) (changes : List ChangeValue) → due_of a true c d changes ≡ None
unfolding due_of
early true c d changes = refl
early false c d changes = refl

pub many : (a b c : Bool) (changes : List ChangeValue) → due_of a b c true changes ≡ None
unfolding due_of
many true b c changes = refl
many false true c changes = refl
many false false true changes = refl
many false false false changes = refl

pub due_is : (most : ℕ) (log : Log) (number : ℕ) → due most log number ≡ due_of (number == 0) (nat_lt number (first_number log)) (nat_lt log.number number) (nat_lt most (log.number - number)) (drop (number - first_number log) log.entries)
unfolding due_of
due_is most log number = refl

pub due_tail : (most : ℕ) (log all : Log) (number : ℕ) → IsTail most log all → due most log number ≡ due most all number
due_tail most log all number t =
    let long = tail_length most log all t in
    let n = t.number in
    let c = t.counted in
    let s = t.some in
    let first = first_number all in
    let later = first_number log in
    let gap : later ≡ first + t.dropped = omega arith in
    due_is most log number
    ∙ elim (leb_tells (suc number) later) [
      | inl p ↦ let lt = p.1 in
          ap (λ b. due_of (number == 0) b (nat_lt log.number number) (nat_lt most (log.number - number)) (drop (number - later) log.entries)) p.0
          ∙ early (number == 0) (nat_lt log.number number) (nat_lt most (log.number - number)) (drop (number - later) log.entries)
          ∙ elim (leb_tells (suc number) first) [
            | inl q ↦ sym (ap (λ b. due_of (number == 0) b (nat_lt all.number number) (nat_lt most (all.number - number)) (drop (number - first) all.entries)) q.0
                ∙ early (number == 0) (nat_lt all.number number) (nat_lt most (all.number - number)) (drop (number - first) all.entries))
            | inr q ↦ let ge = q.1 in
                let past : nat_lt most (all.number - number) ≡ true = elim t.enough [ inl e ↦ absurd (omega arith) | inr h ↦ lt-ltb most (all.number - number) (omega arith) ] in
                sym (ap (λ b. due_of (number == 0) (nat_lt number first) (nat_lt all.number number) b (drop (number - first) all.entries)) past ∙ many (number == 0) (nat_lt number first) (nat_lt all.number number) (drop (number - first) all.entries))
          ]
      | inr p ↦ let ge = p.1 in
          let whole : nat_lt number first ≡ false = elim (leb_tells (suc number) first) [ inl q ↦ (let lt = q.1 in absurd (omega arith)) | inr q ↦ q.0 ] in
          let position : t.dropped + (number - later) ≡ number - first = omega arith in
          let same : drop (number - later) log.entries ≡ drop (number - first) all.entries = ap (drop (number - later)) t.entries ∙ drop-drop (number - later) t.dropped all.entries ∙ ap (λ k. drop k all.entries) position in
          (λ i. due_of (number == 0) ((p.0 ∙ sym whole) i) (nat_lt (n i) number) (nat_lt most (n i - number)) (same i))
    ]
    ∙ sym (due_is most all number)

pub same_due : (most : ℕ) (steps : List LogStep) (number : ℕ) → 0 < most → AreSized steps → due (log_of_kept most steps).most (log_of_kept most steps).log number ≡ due (log_of_all most steps).most (log_of_all most steps).log number
same_due most steps number h k =
    let both = steps_tail steps most new_log new_log h k (new_tail most) in
    ap (λ m. due m (log_of_kept most steps).log number) both.0 ∙ due_tail (log_of_all most steps).most (log_of_kept most steps).log (log_of_all most steps).log number both.1

pub same_number : (most : ℕ) (steps : List LogStep) → 0 < most → AreSized steps → (log_of_kept most steps).log.number ≡ (log_of_all most steps).log.number
same_number most steps h k = (steps_tail steps most new_log new_log h k (new_tail most)).1.number
