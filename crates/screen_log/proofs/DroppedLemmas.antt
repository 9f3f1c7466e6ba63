-- Dropped changes in the list of stored ones.
use Rattle.std.proofs.Common.{◌≡◌, ℕ, ◌+◌, ◌<◌, ◌≤◌, List, [], ◌∷◌, ◌++◌, length, take, drop, ap, subst, sym, ◌∙◌, arith, length-append}
use Rattle.std.specs.List.{All}
use Rattle.std.specs.Prelude.{slice_set, Some}
use Rattle.std.proofs.lemmas.List.{drop-append-le, drop-drop, drop-set-lt, drop_at, take-append-le, take_more_set}
use Rattle.std.proofs.lemmas.List.Elements.{All-append, All-drop, All-pop, All-push, All-take}
use Rattle.screen_change.specs.declared.change.Change.{Change}
use Rattle.screen_log.specs.LogView.{OwnsNothing}

-- one position more owns nothing
pub one_dropped : (changes : List Change) (at : ℕ) (change : Change) → at < length changes → All OwnsNothing (take at changes) → OwnsNothing change → All OwnsNothing (take (at + 1) (slice_set changes at change))
one_dropped changes at change h all one =
    subst (All OwnsNothing) (sym (take_more_set changes at change h)) (All-push OwnsNothing (take at changes) change all one)

-- the changes after that position are unchanged
pub rest_stays : (changes old : List Change) (at : ℕ) (change : Change) → drop at changes ≡ drop at old → drop (at + 1) (slice_set changes at change) ≡ drop (at + 1) old
rest_stays changes old at change e =
    drop-set-lt (at + 1) changes at change (omega arith) ∙ sym (drop-drop 1 at changes) ∙ ap (drop 1) e ∙ drop-drop 1 at old

-- after the last ones have moved to the start, those behind them own nothing
pub moved_own_nothing : (prefix swapped after : List Change) (count : ℕ) → length swapped ≡ count → All OwnsNothing prefix → after ≡ take count prefix → All OwnsNothing (drop count ((swapped ++ drop count prefix) ++ after))
moved_own_nothing prefix swapped after count n all e =
    let whole : drop count ((swapped ++ drop count prefix) ++ after) ≡ drop count prefix ++ take count prefix =
    drop-append-le count (swapped ++ drop count prefix) after (let k = length-append swapped (drop count prefix) in omega arith) ∙ ap (λ (xs : List Change). xs ++ after) (drop_at swapped (drop count prefix) count n) ∙ ap (λ (xs : List Change). drop count prefix ++ xs) e in
    subst (All OwnsNothing) (sym whole) (All-append OwnsNothing (drop count prefix) (take count prefix) (All-drop OwnsNothing count prefix all) (All-take OwnsNothing count prefix all))

-- the last change of a list is taken off, behind the first `len`
module _ (before after : List Change) (change : Change) (len : ℕ) (taken : before ≡ after ++ change ∷ []) (within : len ≤ length after) (all : All OwnsNothing (drop len before)) where
  rest_of : drop len before ≡ drop len after ++ change ∷ []
  rest_of = ap (drop len) taken ∙ drop-append-le len after (change ∷ []) within

  pub last_owns_nothing : OwnsNothing change
  last_owns_nothing = (All-pop OwnsNothing (drop len before) (drop len after) (Some change) rest_of all).1

  pub others_own_nothing : All OwnsNothing (drop len after)
  others_own_nothing = (All-pop OwnsNothing (drop len before) (drop len after) (Some change) rest_of all).0

  pub first_stay : take len after ≡ take len before
  first_stay = sym (ap (take len) taken ∙ take-append-le len after (change ∷ []) within)
