-- Scrolls of all rows.
use Rattle.std.proofs.Common.{◌≡◌, ℕ, zero, suc, ◌+◌, ◌-◌, ◌≤◌, Bool, true, false, List, [], ◌∷◌, ◌++◌, length, take, drop, replicate, refl, sym, ap, subst, ◌∙◌, arith}
use Rattle.std.specs.Prelude.{◌==◌, nat_le, min, Option, IfSome}
use Rattle.std.proofs.lemmas.Bool.{and_parts}
use Rattle.std.proofs.lemmas.Bool.Decides.{nat_tests}
use Rattle.cell_base.specs.Row.{plain_row}
use Rattle.cell_base.specs.Screen.{Screen, height}
use Rattle.csi_codec.specs.declared.edits.Edit.TheVariants as edit
use Rattle.screen_effects.specs.Regions.{moved_up, moved_down, in_region}
use Rattle.terminal_table.specs.Modes.{SavedCursor}
use Rattle.terminal_table.specs.Functions.{function_of}
use Rattle.terminal_table.proofs.ListLemmas.{append_nil, drop_past}
use Rattle.terminal_render.specs.Effects.{actions_done}
use Rattle.terminal_render.specs.Rendering.{is_whole, scroll_rendering}
use Rattle.terminal_render.proofs.DoneLemmas.{on}

take_past : {A : Type 0} (n : ℕ) (xs : List A) → length xs ≤ n → take n xs ≡ xs
take_past zero [] h = refl
take_past (suc n) [] h = refl
take_past zero (x ∷ xs) h = absurd (omega arith)
take_past (suc n) (x ∷ xs) h = ap (λ ys. x ∷ ys) (take_past n xs (omega arith))

-- a region that reaches past the last element is all of them
whole_region : {A : Type 0} (change : List A → List A) (size : ℕ) (xs : List A) → length xs ≤ size → in_region change 0 size xs ≡ change xs
whole_region change size xs h =
    ap (λ ys. change (take size xs) ++ ys) (drop_past (0 + size) xs (omega arith)) ∙ append_nil (change (take size xs)) ∙ ap change (take_past size xs h)

drop_most : {A : Type 0} (count : ℕ) (xs : List A) → drop count xs ≡ drop (min count (length xs)) xs
drop_most {A} count [] = drop_past {A = A} count [] (omega arith) ∙ sym (drop_past {A = A} (min count 0) [] (omega arith))
drop_most zero (x ∷ xs) = let e : min 0 (length (x ∷ xs)) ≡ 0 = omega arith in sym (ap (λ n. drop n (x ∷ xs)) e)
drop_most (suc n) (x ∷ xs) = let e : min (suc n) (length (x ∷ xs)) ≡ suc (min n (length xs)) = omega arith in drop_most n xs ∙ sym (ap (λ k. drop k (x ∷ xs)) e)

-- rows move by at most as many as there are
up_most : {A : Type 0} (new : A) (count : ℕ) (xs : List A) → moved_up new count xs ≡ moved_up new (min (min count (length xs)) (length xs)) xs
up_most new count xs =
    let e : min count (length xs) ≡ min (min (min count (length xs)) (length xs)) (length xs) = omega arith in
    let k : min count (length xs) ≡ min (min count (length xs)) (length xs) = omega arith in
    λ i. (drop_most count xs ∙ ap (λ n. drop n xs) k) i ++ replicate (e i) new

down_most : {A : Type 0} (new : A) (count : ℕ) (xs : List A) → moved_down new count xs ≡ moved_down new (min (min count (length xs)) (length xs)) xs
down_most new count xs =
    let e : min count (length xs) ≡ min (min (min count (length xs)) (length xs)) (length xs) = omega arith in
    let k : length xs - count ≡ length xs - min (min count (length xs)) (length xs) = omega arith in
    λ i. replicate (e i) new ++ take (k i) xs

up_none : {A : Type 0} (new : A) (xs : List A) → xs ≡ moved_up new 0 xs
up_none new xs = let e : 0 ≡ min 0 (length xs) = omega arith in sym (append_nil xs) ∙ ap (λ n. xs ++ replicate n new) e

down_none : {A : Type 0} (new : A) (xs : List A) → xs ≡ moved_down new 0 xs
down_none new xs =
    let e : 0 ≡ min 0 (length xs) = omega arith in
    let k : length xs ≡ length xs - 0 = omega arith in
    sym (take_past (length xs) xs (omega arith)) ∙ (λ i. replicate (e i) new ++ take (k i) xs)

same_number : (m n : ℕ) → (m == n) ≡ true → m ≡ n
same_number m n e = grind (arith, nat_tests)

at_most : (m n : ℕ) → nat_le m n ≡ true → m ≤ n
at_most m n e = grind (arith, nat_tests)

module _ (f : List ℕ → ℕ) (saved : Option SavedCursor) (replies : List ℕ) (stream : List ℕ) (s : Screen) (size count : ℕ) where
  -- the rows of a region from the first row on
  abbrev up_by : ℕ → Screen
  up_by first = record s { rows = in_region (moved_up (plain_row s.width) count) first size s.rows }

  abbrev down_by : ℕ → Screen
  down_by first = record s { rows = in_region (moved_down (plain_row s.width) count) first size s.rows }

  abbrev DoesUp : ℕ → Type 0
  DoesUp first = IfSome (scroll_rendering edit.ScrollUp (height s) first size count) (λ actions. actions_done f (on f saved replies stream s) actions ≡ on f saved replies stream (up_by first))

  abbrev DoesDown : ℕ → Type 0
  DoesDown first = IfSome (scroll_rendering edit.ScrollDown (height s) first size count) (λ actions. actions_done f (on f saved replies stream s) actions ≡ on f saved replies stream (down_by first))

  whole_up : is_whole (height s) 0 size ≡ true → DoesUp 0
  unfolding scroll_rendering function_of
  whole_up e = by_test (count == 0) refl
    where
      all : up_by 0 ≡ record s { rows = moved_up (plain_row s.width) count s.rows }
      all = ap (λ rows. record s { rows = rows }) (whole_region (moved_up (plain_row s.width) count) size s.rows (at_most (height s) size (and_parts (0 == 0) (nat_le (height s) size) e).1))

      by_test : (b : Bool) → (count == 0) ≡ b → DoesUp 0
      by_test true k = rw (e, k) (ap (λ rows. on f saved replies stream (record s { rows = rows })) (up_none (plain_row s.width) s.rows ∙ ap (λ n. moved_up (plain_row s.width) n s.rows) (sym (same_number count 0 k))) ∙ ap (on f saved replies stream) (sym all))
      by_test false k = rw (e, k) (ap (λ rows. on f saved replies stream (record s { rows = rows })) (sym (up_most (plain_row s.width) count s.rows)) ∙ ap (on f saved replies stream) (sym all))

  whole_down : is_whole (height s) 0 size ≡ true → DoesDown 0
  unfolding scroll_rendering function_of
  whole_down e = by_test (count == 0) refl
    where
      all : down_by 0 ≡ record s { rows = moved_down (plain_row s.width) count s.rows }
      all = ap (λ rows. record s { rows = rows }) (whole_region (moved_down (plain_row s.width) count) size s.rows (at_most (height s) size (and_parts (0 == 0) (nat_le (height s) size) e).1))

      by_test : (b : Bool) → (count == 0) ≡ b → DoesDown 0
      by_test true k = rw (e, k) (ap (λ rows. on f saved replies stream (record s { rows = rows })) (down_none (plain_row s.width) s.rows ∙ ap (λ n. moved_down (plain_row s.width) n s.rows) (sym (same_number count 0 k))) ∙ ap (on f saved replies stream) (sym all))
      by_test false k = rw (e, k) (ap (λ rows. on f saved replies stream (record s { rows = rows })) (sym (down_most (plain_row s.width) count s.rows)) ∙ ap (on f saved replies stream) (sym all))

  pub up_does : (first : ℕ) → DoesUp first
  unfolding scroll_rendering
  up_does first = by_test (is_whole (height s) first size) refl
    where
      by_test : (b : Bool) → is_whole (height s) first size ≡ b → DoesUp first
      by_test true e =
          let zero : first ≡ 0 = same_number first 0 (and_parts (first == 0) (nat_le (height s) size) e).0 in
          subst DoesUp (sym zero) (whole_up (subst (λ n. is_whole (height s) n size ≡ true) zero e))
      by_test false e = rw e tt

  pub down_does : (first : ℕ) → DoesDown first
  unfolding scroll_rendering
  down_does first = by_test (is_whole (height s) first size) refl
    where
      by_test : (b : Bool) → is_whole (height s) first size ≡ b → DoesDown first
      by_test true e =
          let zero : first ≡ 0 = same_number first 0 (and_parts (first == 0) (nat_le (height s) size) e).0 in
          subst DoesDown (sym zero) (whole_down (subst (λ n. is_whole (height s) n size ≡ true) zero e))
      by_test false e = rw e tt
