-- The changes that are due after steps of a log, from a number that the log has reached.
use Rattle.std.proofs.Common.{◌≡◌, ◌⊎◌, inl, inr, ℕ, ◌+◌, ◌-◌, ◌≤◌, ◌<◌, Bool, true, false, List, [], ◌∷◌, ◌++◌, length, drop, map, fold, refl, sym, ap, ◌∙◌, arith, append_assoc, append-nil, length-append, length-drop}
use Rattle.std.specs.Prelude.{⊤, ◌==◌, ◌||◌, nat_lt, Option, Some, None, if◌then◌else◌}
use Rattle.std.specs.Option.{option_map}
use Rattle.std.proofs.lemmas.Bool.Decides.{nat_tests}
use Rattle.screen_change.specs.ChangeValue.{ChangeValue}
use Rattle.screen_log.specs.Log.{Log, first_number, logged, kept, forgotten, resized_log, due}
use Rattle.screen_log.specs.LogSteps.{LogStep, Logged, Forgotten, Resized, Sized, step_of_kept}
use Rattle.screen_log.proofs.DueLemmas.{due_later}
use Rattle.terminal_table.specs.Turns.{changes_in}

-- ---- logs that have reached a number

-- each change that the log keeps has a number, and the log has reached this one
pub record HasReached (number : ℕ) (s : Sized) : Type 0 where
  pub counted : length s.log.entries ≤ s.log.number
  pub reached : number ≤ s.log.number

logged_reaches : (number most : ℕ) (l : Log) (change : ChangeValue) → length l.entries ≤ l.number → number ≤ l.number → HasReached number (record { most = most; log = kept most (logged change l) })
logged_reaches number most l change h k =
    let long = length-append l.entries (change ∷ []) in
    let left = length-drop (length (l.entries ++ change ∷ []) - most) (l.entries ++ change ∷ []) in
    record { counted = omega arith; reached = omega arith }

forgotten_reaches : (number most before : ℕ) (l : Log) → length l.entries ≤ l.number → number ≤ l.number → HasReached number (record { most = most; log = forgotten before l })
forgotten_reaches number most before l h k = by_test (nat_lt l.number before)
  where
    by_test : (b : Bool) → HasReached number (record { most = most; log = if b then l else record l { entries = drop (before - first_number l) l.entries } })
    by_test true = record { counted = h; reached = k }
    by_test false = let left = length-drop (before - first_number l) l.entries in record { counted = omega arith; reached = k }

resized_reaches : (number most n : ℕ) (entries : List ChangeValue) → length entries ≤ n → number ≤ n → HasReached number (record { most = most; log = resized_log (record { number = n; entries = entries }) })
resized_reaches number most n [] h k = record { counted = h; reached = k }
resized_reaches number most n (change ∷ changes) h k = record { counted = omega arith; reached = omega arith }

pub step_reaches : (number : ℕ) (step : LogStep) (s : Sized) → HasReached number s → HasReached number (step_of_kept s step)
step_reaches number (Logged change) s h = logged_reaches number s.most s.log change h.counted h.reached
step_reaches number (Forgotten before) s h = forgotten_reaches number s.most before s.log h.counted h.reached
step_reaches number (Resized most) s h = resized_reaches number most s.log.number s.log.entries h.counted h.reached

pub steps_reach : (number : ℕ) (steps : List LogStep) (s : Sized) → HasReached number s → HasReached number (fold step_of_kept s steps)
steps_reach number [] s h = h
steps_reach number (step ∷ steps) s h = steps_reach number steps (step_of_kept s step) (step_reaches number step s h)

-- ---- changes that are logged

abbrev pub AreChanges : List LogStep → Type 0
AreChanges [] = ⊤
AreChanges (Logged change ∷ steps) = AreChanges steps
AreChanges (Forgotten number ∷ steps) = ⊥
AreChanges (Resized most ∷ steps) = ⊥

pub changes-append : (xs ys : List LogStep) → AreChanges xs → AreChanges ys → AreChanges (xs ++ ys)
changes-append [] ys h k = k
changes-append (Logged change ∷ xs) ys h k = changes-append xs ys h k
changes-append (Forgotten number ∷ xs) ys h k = absurd h
changes-append (Resized most ∷ xs) ys h k = absurd h

pub changes-logged : (changes : List ChangeValue) → AreChanges (map Logged changes)
changes-logged [] = tt
changes-logged (change ∷ changes) = changes-logged changes

-- either no list is due any more, or the list that was due, with `changes` after it
abbrev pub GoesOn : Option (List ChangeValue) → Option (List ChangeValue) → List ChangeValue → Type 0
GoesOn before after changes = (after ≡ None) ⊎ ((first : List ChangeValue) × (before ≡ Some first) × (after ≡ Some (first ++ changes)))

goes_nowhere : (due : Option (List ChangeValue)) → GoesOn due due []
goes_nowhere None = inl refl
goes_nowhere (Some first) = inr (first, refl, ap (λ (cs : List ChangeValue). Some cs) (sym (append-nil first)))

-- a list that is due after one more change is the list that was due before, with this change after it
put_after : (b : Bool) (before : Option (List ChangeValue)) (change : ChangeValue) (first : List ChangeValue) → (if b then None else option_map (λ (cs : List ChangeValue). cs ++ change ∷ []) before) ≡ Some first
    → (shorter : List ChangeValue) × (before ≡ Some shorter) × (first ≡ shorter ++ change ∷ [])
put_after true before change first e = cc
put_after false None change first e = cc
put_after false (Some shorter) change first e = (shorter, refl, cc)

pub due_goes_on : (number : ℕ) (steps : List LogStep) (s : Sized) → AreChanges steps → HasReached number s
    → GoesOn (due s.most s.log number) (due (fold step_of_kept s steps).most (fold step_of_kept s steps).log number) (changes_in steps)
due_goes_on number [] s c h = goes_nowhere (due s.most s.log number)
due_goes_on number (Forgotten before ∷ steps) s c h = absurd c
due_goes_on number (Resized most ∷ steps) s c h = absurd c
due_goes_on number (Logged change ∷ steps) s c h =
    let next = step_of_kept s (Logged change) in
    let later = fold step_of_kept next steps in
    elim (due_goes_on number steps next c (step_reaches number (Logged change) s h)) as (λ x. GoesOn (due s.most s.log number) (due later.most later.log number) (change ∷ changes_in steps)) [
      | inl none ↦ inl none
      | inr some ↦ (let p = put_after (nat_lt s.most (s.log.number + 1 - number)) (due s.most s.log number) change some.0 (sym (due_later s.most s.log change number h.counted h.reached) ∙ some.1) in
          inr (p.0, p.1, some.2 ∙ ap (λ (cs : List ChangeValue). Some (cs ++ changes_in steps)) p.2 ∙ ap (λ (cs : List ChangeValue). Some cs) (append_assoc p.0 (change ∷ []) (changes_in steps))))
    ]

-- ---- where nothing is due

-- the tests that none of the entries are due
abbrev pub is_none_due : ℕ → Log → ℕ → Bool
is_none_due most log number = number == 0 || nat_lt number (first_number log) || nat_lt log.number number || nat_lt most (log.number - number)

pub none_due : (most : ℕ) (log : Log) (number : ℕ) → is_none_due most log number ≡ true → due most log number ≡ None
none_due most log number e = ap (λ b. if b then None else Some (drop (number - first_number log) log.entries)) e

pub none_before : (most : ℕ) (log : Log) (number : ℕ) → number < first_number log → due most log number ≡ None
none_before most log number h = none_due most log number (early (number == 0) (nat_lt number (first_number log)) (nat_lt log.number number) (nat_lt most (log.number - number)) (grind (arith, nat_tests)))
  where
    early : (a b c d : Bool) → b ≡ true → (a || b || c || d) ≡ true
    early true b c d e = refl
    early false b c d e = rw e refl

-- where the changes before `before` are forgotten, no list is due from an earlier number
pub none_forgotten : (most before number : ℕ) (l : Log) → length l.entries ≤ l.number → number < before → before ≤ l.number → due most (record l { entries = drop (before - first_number l) l.entries }) number ≡ None
none_forgotten most before number l h k m =
    let left = length-drop (before - first_number l) l.entries in
    none_before most (record l { entries = drop (before - first_number l) l.entries }) number (omega arith)
