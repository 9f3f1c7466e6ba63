-- Stored changes, of which the first ones are dropped.
use Rattle.std.proofs.Common.{◌≡◌, ℕ, ◌+◌, ◌-◌, ◌<◌, ◌≤◌, false, List, [], ◌∷◌, ◌++◌, length, drop, map, refl, take, sym, ap, ◌∙◌, arith, length-append, length-drop}
use Rattle.std.specs.Prelude.{◌||◌, ◌==◌, nat_lt, max, Some, None, if◌then◌else◌}
use Rattle.std.proofs.lemmas.Bool.Decides.{nat_tests}
use Rattle.std.proofs.lemmas.List.{append-nil, append_assoc, drop-drop, drop-append-le, drop-map, drop_all, drop_at, length-take-le, map-append, length-map, take-append-drop, take_at}
use Rattle.std.proofs.lemmas.Slice.{between_to_end}
use borrow.Rule.Slice.PartMut.{mid_of, post_of, put_mid}
use Rattle.screen_change.specs.ChangeValue.{ChangeValue}
use Rattle.screen_change.specs.ValueOf.{value_of}
use Rattle.screen_change.specs.declared.change.Change.{Change}
use Rattle.screen_log.specs.Log.{Log, due, first_number, forgotten, resized_log}

-- the list before a position and the list after it, where the prefix has two parts
take_prefix : (a b c d : List Change) (n : ℕ) → length (a ++ b) ≡ n → take n (a ++ ((b ++ c) ++ d)) ≡ a ++ b
take_prefix a b c d n e = ap (λ (rest : List Change). take n (a ++ rest)) (append_assoc b c d) ∙ ap (take n) (sym (append_assoc a b (c ++ d))) ∙ take_at (a ++ b) (c ++ d) n e

drop_prefix : (a b c d : List Change) (n : ℕ) → length (a ++ b) ≡ n → drop n (a ++ ((b ++ c) ++ d)) ≡ c ++ d
drop_prefix a b c d n e = ap (λ (rest : List Change). drop n (a ++ rest)) (append_assoc b c d) ∙ ap (drop n) (sym (append_assoc a b (c ++ d))) ∙ drop_at (a ++ b) (c ++ d) n e

-- a block of n changes is swapped with one of the other list: the first part of `prefix` and the rest of `after` are still the whole
pub swapped_block : (n at : ℕ) (prefix after done left : List Change) → at + n ≤ length prefix → length prefix ≡ length after
    → done ≡ take n (mid_of at (length after - at) after) ++ drop n (mid_of at (length prefix - at) prefix)
    → left ≡ take n (mid_of at (length prefix - at) prefix) ++ drop n (mid_of at (length after - at) after)
    → take (at + n) (put_mid at (length prefix - at) prefix done) ++ drop (at + n) (put_mid at (length after - at) after left) ≡ take at prefix ++ drop at after
swapped_block n at prefix after done left h e d l =
    let prefix_end = mid_of at (length prefix - at) prefix in
    let remaining = mid_of at (length after - at) after in
    let whole_end : prefix_end ≡ drop at prefix = between_to_end prefix at (length prefix) (omega arith) in
    let all_rest : remaining ≡ drop at after = between_to_end after at (length after) (omega arith) in
    let first = length-take-le at prefix (omega arith) in
    let second = length-take-le at after (omega arith) in
    let end_len = ap length whole_end ∙ length-drop at prefix in
    let rest_len = ap length all_rest ∙ length-drop at after in
    let block = length-take-le n remaining (omega arith) in
    let other_block = length-take-le n prefix_end (omega arith) in
    let joined = length-append (take at prefix) (take n remaining) in
    let other_joined = length-append (take at after) (take n prefix_end) in
    let none : post_of at (length after - at) after ≡ [] = drop_all (length after - at) (drop at after) (let k = length-drop at after in omega arith) in
    (λ i. take (at + n) (put_mid at (length prefix - at) prefix (d i)) ++ drop (at + n) (put_mid at (length after - at) after (l i)))
    ∙ (λ i. take_prefix (take at prefix) (take n remaining) (drop n prefix_end) (post_of at (length prefix - at) prefix) (at + n) (omega arith) i
    ++ drop_prefix (take at after) (take n prefix_end) (drop n remaining) (post_of at (length after - at) after) (at + n) (omega arith) i)
    ∙ ap (λ (rest : List Change). (take at prefix ++ take n remaining) ++ (drop n remaining ++ rest)) none
    ∙ ap (λ (rest : List Change). (take at prefix ++ take n remaining) ++ rest) (append-nil (drop n remaining))
    ∙ append_assoc (take at prefix) (take n remaining) (drop n remaining)
    ∙ ap (λ (rest : List Change). take at prefix ++ rest) (take-append-drop n remaining ∙ all_rest)

module _ (items : List Change) (start most : ℕ) (s : start ≤ length items) where
  abbrev pub values : List ChangeValue
  values = map value_of (drop start items)

  pub count : length values ≡ length items - start
  count = length-map (drop start items) value_of ∙ length-drop start items

  -- a change more, of which the last ones are kept
  pub pushed : (change : Change) (first : ℕ) (shown : List Change) → first ≡ max start (length items + 1 - most) → shown ≡ drop first (items ++ change ∷ []) → map value_of shown ≡ drop (length (values ++ value_of change ∷ []) - most) (values ++ value_of change ∷ [])
  pushed change first shown f e =
      let all = items ++ change ∷ [] in
      let both = length-append values (value_of change ∷ []) in
      let n = count in
      let k = length (values ++ value_of change ∷ []) - most in
      let same : values ++ value_of change ∷ [] ≡ map value_of (drop start all) = sym (map-append value_of (drop start items) (change ∷ [])) ∙ ap (map value_of) (sym (drop-append-le start items (change ∷ []) s)) in
      let position : start + k ≡ first = omega arith in
      ap (map value_of) e ∙ ap (λ m. map value_of (drop m all)) (sym position) ∙ ap (map value_of) (sym (drop-drop k start all)) ∙ sym (drop-map value_of k (drop start all)) ∙ ap (drop k) (sym same)

  -- the changes from a number on
  pub from_number : (number at : ℕ) → length items ≤ start + number → map value_of (drop (start + (at - (number - (length items - start)))) items) ≡ drop (at - (number - length values)) values
  from_number number at h =
      let n = count in
      let same : at - (number - length values) ≡ at - (number - (length items - start)) = omega arith in
      ap (map value_of) (sym (drop-drop (at - (number - (length items - start))) start items)) ∙ sym (drop-map value_of (at - (number - (length items - start))) (drop start items)) ∙ ap (λ m. drop m values) (sym same)

  pub none_left : start ≡ length items → values ≡ []
  none_left e = empty values (let n = count in omega arith)
    where
      empty : (xs : List ChangeValue) → length xs ≡ 0 → xs ≡ []
      empty [] k = refl
      empty (x ∷ xs) k = absurd (omega arith)

  pub all_dropped : values ≡ [] → start ≡ length items
  all_dropped e = let n = count in let z = ap length e in omega arith

pub forgotten_here : (log : Log) (number : ℕ) → number ≤ log.number → forgotten number log ≡ record log { entries = drop (number - first_number log) log.entries }
forgotten_here log number h =
    let test : nat_lt log.number number ≡ false = grind (arith, nat_tests) in
    ap (λ b. if b then log else record log { entries = drop (number - first_number log) log.entries }) test

pub due_here : (most : ℕ) (log : Log) (number : ℕ) → (number == 0) ≡ false → first_number log ≤ number → number ≤ log.number → log.number - number ≤ most → due most log number ≡ Some (drop (number - first_number log) log.entries)
due_here most log number z f n m =
    let first : nat_lt number (first_number log) ≡ false = grind (arith, nat_tests) in
    let last : nat_lt log.number number ≡ false = grind (arith, nat_tests) in
    let many : nat_lt most (log.number - number) ≡ false = grind (arith, nat_tests) in
    λ i. if z i || first i || last i || many i then None else Some (drop (number - first_number log) log.entries)

-- where not all stored changes are dropped, some are kept
pub some_kept : (changes : List Change) (start : ℕ) → start < length changes → map value_of (drop start changes) ≡ [] → ⊥
some_kept changes start h e =
    let none = ap length e in
    let mapped = length-map (drop start changes) value_of in
    let left = length-drop start changes in
    omega arith

-- another size, where some changes are kept, and where none is
pub resized_some : (number : ℕ) (entries : List ChangeValue) → (entries ≡ [] → ⊥) → resized_log (record { number = number; entries = entries }) ≡ record { number = number + 1; entries = [] }
resized_some number [] h = absurd (h refl)
resized_some number (change ∷ changes) h = refl

pub resized_none : (number : ℕ) (entries : List ChangeValue) → entries ≡ [] → resized_log (record { number = number; entries = entries }) ≡ record { number = number; entries = [] }
resized_none number [] e = refl
resized_none number (change ∷ changes) e = absurd (let z = ap length e in omega arith)
