-- Changes that are added one after another.
use Rattle.std.proofs.Common.{◌≡◌, ℕ, zero, suc, ◌<◌, List, [], ◌∷◌, ◌++◌, length, take, drop, refl, sym, ap, ◌∙◌, arith}
use Rattle.std.proofs.lemmas.List.Sums.{fold-append}
use Rattle.screen_change.specs.ChangeValue.{ChangeValue}
use Rattle.change_sequence.specs.Sequence.{HasSome, Sequence, with_change, with_changes}

-- the first `count` changes were added, and the rest is left
pub record HasAdded {W : Type 0} (width_of : List ℕ → ℕ) (before now : Sequence W) (all left : List ChangeValue) : Type 0 where
  pub count : ℕ
  pub added : now ≡ with_changes width_of before (take count all)
  pub remaining : left ≡ drop count all

next_taken : {A : Type 0} (n : ℕ) (xs rest : List A) (x : A) → x ∷ rest ≡ drop n xs → (take (suc n) xs ≡ take n xs ++ x ∷ []) × (rest ≡ drop (suc n) xs) × (n < length xs)
next_taken zero [] rest x e = absurd cc
next_taken zero (y ∷ ys) rest x e = (cc, cc, omega arith)
next_taken (suc n) [] rest x e = absurd cc
next_taken {A} (suc n) (y ∷ ys) rest x e =
    let h = next_taken n ys rest x e in
    (ap (λ (l : List A). y ∷ l) h.0, h.1, omega (arith, h.2))

module _ {W : Type 0} (width_of : List ℕ → ℕ) (before : Sequence W) (all : List ChangeValue) where
  pub none_added : HasAdded width_of before before all all
  none_added = record { count = 0; added = refl; remaining = refl }

  pub one_added : (now after : Sequence W) (change : ChangeValue) (left : List ChangeValue) → HasAdded width_of before now all (change ∷ left) → after ≡ with_change width_of now change → HasAdded width_of before after all left
  one_added now after change left h e =
      let next = next_taken h.count all left change h.remaining in record {
        count = suc h.count;
        added = e ∙ ap (λ (s : Sequence W). with_change width_of s change) h.added ∙ sym (fold-append (with_change width_of) before (take h.count all) (change ∷ [])) ∙ ap (with_changes width_of before) (sym next.0);
        remaining = next.1;
      }

  pub some_added : (now : Sequence W) (change : ChangeValue) (left : List ChangeValue) → HasAdded width_of before now all (change ∷ left) → HasSome width_of before now all
  some_added now change left h = let next = next_taken h.count all left change h.remaining in record { count = h.count; fewer = next.2; added = h.added }
